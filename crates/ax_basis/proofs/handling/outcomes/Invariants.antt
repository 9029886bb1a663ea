-- the outcomes so far and those of the items that are left are all outcomes; each row has one number for each declared field
use Rattle.std.proofs.Common.{◌≡◌, length, drop, IsTrue}
use Rattle.std.specs.List.{list_all}
use Rattle.ax_basis.specs.Basis.{is_of_member, member_names, row_fits}
use Rattle.ax_basis.specs.Outcomes.{outcomes_of, rows_after}
use Rattle.ax_basis.proofs.OneItem.{IsGoing}
use Rattle.ax_basis.proofs.handling.outcomes.Given as goal

abbrev pub invariant-loop-item : goal.invariant-loop-item
invariant-loop-item l = record {
  going : IsGoing l.rules l.keep (member_names l.members)
      (outcomes_of l.rules l.keep (member_names l.members) l.parked l.items l.fn.rows.items)
      (rows_after l.rules (member_names l.members) l.items (outcomes_of l.rules l.keep (member_names l.members) l.parked l.items l.fn.rows.items) l.fn.rows.items)
      l.outcomes.items l.behind (drop l.item-index l.items) l.rows.items;
  long : length l.rows.items ≡ length l.members;
  own : IsTrue (list_all (is_of_member l.members) (drop l.item-index l.items));
  fit : IsTrue (list_all (row_fits l.rules) l.rows.items);
}
