-- the edits so far, and those of the shares that are left
use Rattle.std.proofs.Common.{◌≡◌, ◌+◌, ◌++◌, length, drop}
use Rattle.std.specs.List.{AllByRecursion}
use Rattle.std.specs.Vec.Iter.{into_iter_items}
use Rattle.ax_step_work.specs.Installing.{HasOneRow, entries_in, row_edits}
use Rattle.ax_step_work.proofs.installing.push_rows.Given as goal

abbrev pub invariant-loop-made : goal.invariant-loop-made
invariant-loop-made l =
    (goal.iterator-loop-made).can_next l.made-iterator
    × (goal.iterator-loop-made).is_finite l.made-iterator
    × (l.place + length (into_iter_items l.made-iterator) ≡ length l.shares)
    × AllByRecursion HasOneRow (into_iter_items l.made-iterator)
    × (l.edits.items ++ row_edits l.processor (entries_in (drop l.place l.shares) (into_iter_items l.made-iterator)) ≡ l.initial.edits.items ++ row_edits l.processor (entries_in l.shares l.fn.results))
