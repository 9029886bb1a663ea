-- the shares of the items so far, and the items that are left
use Rattle.std.proofs.Common.{◌≡◌, ◌++◌, List}
use Rattle.std.specs.Vec.Iter.{into_iter_items}
use Rattle.ax_step_work.specs.Sharing.{member_read, single_shares}
use Rattle.ax_basis.specs.declared.item.BasisItem.{BasisItem}
use Rattle.ax_step_work.proofs.sharing.shares_of.Given as goal

abbrev pub invariant-loop-item : goal.invariant-loop-item
invariant-loop-item l =
    (goal.iterator-loop-item).can_next l.item-iterator
    × (goal.iterator-loop-item).is_finite l.item-iterator
    × ((done : List BasisItem) × (l.shares.items ≡ single_shares (member_read l.rules l.kept.entries) done) × (done ++ into_iter_items l.item-iterator ≡ l.fn.items.items))
