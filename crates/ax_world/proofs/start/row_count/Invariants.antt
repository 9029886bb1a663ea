-- the segments so far, and those of the processors that are left
use Rattle.std.proofs.Common.{◌≡◌, ◌+◌, ◌*◌, ◌≤◌, drop}
use Rattle.ax_state.specs.State.{row_count}
use Rattle.ax_world.proofs.start.row_count.Given as goal

abbrev pub invariant-loop-processor : goal.invariant-loop-processor
invariant-loop-processor l = (l.count ≤ l.processor-index * 4294967296) × (l.count + row_count (drop l.processor-index l.processors) ≡ row_count l.processors)
