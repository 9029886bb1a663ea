use Rattle.std.proofs.Common.{◌≡◌, ◌++◌}
use Rattle.std.specs.Vec.Iter.{into_iter_items}
use Rattle.ax_machine.proofs.turns.queues_of.Given as goal

-- the queues so far and those that are left are all
abbrev pub invariant-loop-queue : goal.invariant-loop-queue
invariant-loop-queue l =
    (goal.iterator-loop-queue).can_next l.queue-iterator × (goal.iterator-loop-queue).is_finite l.queue-iterator
    × (l.queues.items ++ into_iter_items l.queue-iterator ≡ l.fn.orders)
