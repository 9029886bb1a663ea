use Rattle.std.proofs.Common.{◌≡◌, take, map, Some}
use Rattle.std.specs.Prelude.{IsTrue}
use Rattle.ax_values.specs.Words.{rises, field_below}
use Rattle.ax_journal.specs.Arguments.{arguments_in}
use Rattle.ax_journal.proofs.arguments.read_any_order.Given as goal

-- the words before are arguments, and the fields are they
abbrev pub invariant-loop-word : goal.invariant-loop-word
invariant-loop-word l = record {
  read : arguments_in (map (λ w. w.now) (take l.word-index l.words)) ≡ Some l.fields.items;
  rising : IsTrue (rises field_below l.fields.items);
}
