use Rattle.std.proofs.Common.{◌≡◌, ◌<◌, ◌^◌, drop, fold}
use Rattle.ax_values.specs.Grammar.{digits_value}
use Rattle.ax_values.specs.Grammar.{digit_step}
use Rattle.ax_values.proofs.number.value_of.Given as goal

-- the value so far, with the digits that are left, is the value of all
abbrev pub invariant-loop-byte : goal.invariant-loop-byte
invariant-loop-byte l = record {
  same : fold digit_step l.value (drop l.byte-index l.text) ≡ digits_value l.text;
  bound : l.value < 2 ^ 64;
}
