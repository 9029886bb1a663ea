-- the puts so far and those of the records that are left are all puts
use Rattle.std.proofs.Common.{◌≡◌, ◌+◌, ◌≤◌, ◌++◌, length, map}
use Rattle.std.specs.Vec.Iter.{into_iter_items}
use Rattle.ax_values.specs.declared.cell.Cell.{Cell}
use Rattle.ax_log.specs.Puts.{puts_at}
use Rattle.ax_log.proofs.log.event_puts.Given as goal

abbrev pub invariant-loop-event : goal.invariant-loop-event
invariant-loop-event l =
    (goal.iterator-loop-event).can_next l.event-iterator
    × (goal.iterator-loop-event).is_finite l.event-iterator
    × (l.index + length (into_iter_items l.event-iterator) ≤ 200000)
    × (l.puts.items ++ puts_at l.index (map Cell.Event (into_iter_items l.event-iterator)) ≡ puts_at l.first (map Cell.Event l.fn.records.items))
