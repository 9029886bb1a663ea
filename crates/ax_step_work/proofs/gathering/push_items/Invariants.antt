-- the items so far, and those that are left
use Rattle.std.proofs.Common.{◌≡◌, ◌++◌, None, map}
use Rattle.std.specs.Vec.Iter.{into_iter_items}
use Rattle.ax_tokens.specs.Nodes.{token_of}
use Rattle.ax_projections.specs.Items.{placed, placed_items}
use Rattle.ax_state.specs.Batches.{basis_item}
use Rattle.ax_step_work.specs.Sharing.{taken}
use Rattle.ax_step_work.proofs.gathering.push_items.Given as goal

abbrev pub invariant-loop-item : goal.invariant-loop-item
invariant-loop-item l =
    (goal.iterator-loop-item).can_next l.item-iterator
    × (goal.iterator-loop-item).is_finite l.item-iterator
    × (l.items.items ++ map (basis_item None (taken l.segment (token_of l.old) (token_of l.old))) (map (placed l.index) (into_iter_items l.item-iterator))
    ≡ l.initial.items.items ++ map (basis_item None (taken l.segment (token_of l.old) (token_of l.old))) (placed_items l.chain (record { index = l.index; record_of = l.event })))
