-- the records so far, and those that are left
use Rattle.std.proofs.Common.{◌≡◌, ◌+◌, ◌++◌, length}
use Rattle.std.specs.Vec.Iter.{into_iter_items}
use Rattle.ax_step_log.specs.Logging.{as_records}
use Rattle.ax_step_log.proofs.sending.records_of.Given as goal

abbrev pub invariant-loop-event : goal.invariant-loop-event
invariant-loop-event l =
    (goal.iterator-loop-event).can_next l.event-iterator
    × (goal.iterator-loop-event).is_finite l.event-iterator
    × (l.seq + length (into_iter_items l.event-iterator) ≡ l.first + length l.fn.events)
    × (l.records.items ++ as_records l.aggregate l.seq (into_iter_items l.event-iterator) ≡ as_records l.aggregate l.first l.fn.events)
