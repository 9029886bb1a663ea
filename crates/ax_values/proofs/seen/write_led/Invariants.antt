use Rattle.std.proofs.Common.{◌≡◌, ◌++◌, drop, take, map, Some, length}
use Rattle.ax_values.specs.Grammar.{each_in}
use Rattle.ax_values.specs.Readers.{mark_in}
use Rattle.ax_values.specs.Seen.{mark_text, comma_led}
use Rattle.ax_values.proofs.seen.write_led.Given as goal

-- what is written, with the texts of the marks that are left
abbrev pub invariant-loop-mark : goal.invariant-loop-mark
invariant-loop-mark l = record {
  text : l.out.items ++ comma_led (map mark_text (drop l.mark-index l.marks)) ≡ l.initial.out.items ++ comma_led (map mark_text l.marks);
  front : take (length l.initial.out.items) l.out.items ≡ l.initial.out.items;
  again : each_in mark_in (map mark_text (take l.mark-index l.marks)) ≡ Some (take l.mark-index l.marks);
}
