-- the log has grown
use Rattle.ax_snapshot_cases.specs.Grows.{Grows}
use Rattle.ax_snapshot_cases.proofs.events.append_all.Given as goal

abbrev pub invariant-loop-event : goal.invariant-loop-event
invariant-loop-event l = Grows l.fn.log.cells l.log.cells
