-- what is written, and the numbers that are left, are the whole
use Rattle.std.proofs.Common.{◌≡◌, ◌++◌, drop}
use Rattle.ax_case_lines.specs.Parted.{ints_text}
use Rattle.ax_case_lines.proofs.parts.write_ints.Given as goal

abbrev pub invariant-loop-number : goal.invariant-loop-number
invariant-loop-number l = l.out.items ++ ints_text (drop l.number-index l.numbers) ≡ l.initial.out.items ++ ints_text l.numbers
