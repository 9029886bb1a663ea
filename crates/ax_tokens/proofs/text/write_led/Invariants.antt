use Rattle.std.proofs.Common.{◌≡◌, ◌++◌, drop, take, map, length}
use Rattle.std.specs.Fmt.{decimal}
use Rattle.ax_values.specs.Seen.{comma_led}
use Rattle.ax_tokens.proofs.text.write_led.Given as goal

-- what is written, with the texts of the gaps that are left
abbrev pub invariant-loop-gap : goal.invariant-loop-gap
invariant-loop-gap l = record {
  text : l.out.items ++ comma_led (map decimal (drop l.gap-index l.gaps)) ≡ l.initial.out.items ++ comma_led (map decimal l.gaps);
  front : take (length l.initial.out.items) l.out.items ≡ l.initial.out.items;
}
