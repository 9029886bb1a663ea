-- the outcomes so far and those of the items that are left are all outcomes; the row has one number for each declared field
use Rattle.std.proofs.Common.{[], ◌∷◌, drop, IsTrue}
use Rattle.std.specs.List.{list_all}
use Rattle.ax_basis.specs.Basis.{is_of_member, row_fits}
use Rattle.ax_basis.specs.Outcomes.{outcomes_of, rows_after}
use Rattle.ax_basis.proofs.OneItem.{IsGoing}
use Rattle.ax_basis.proofs.lone.fold.Given as goal

abbrev pub invariant-loop-item : goal.invariant-loop-item
invariant-loop-item l = record {
  going : IsGoing l.rules l.keep (l.member.aggregate ∷ [])
      (outcomes_of l.rules l.keep (l.member.aggregate ∷ []) l.parked l.items (l.fn.row ∷ []))
      (rows_after l.rules (l.member.aggregate ∷ []) l.items (outcomes_of l.rules l.keep (l.member.aggregate ∷ []) l.parked l.items (l.fn.row ∷ [])) (l.fn.row ∷ []))
      l.outcomes.items l.behind (drop l.item-index l.items) (l.row ∷ []);
  own : IsTrue (list_all (is_of_member (l.member ∷ [])) (drop l.item-index l.items));
  fit : IsTrue (row_fits l.rules l.row);
}
