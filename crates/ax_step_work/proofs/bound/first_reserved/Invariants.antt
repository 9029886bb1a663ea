-- no cell below the index is reserved
use Rattle.std.proofs.Common.{◌-◌}
use Rattle.ax_step_work.proofs.Bounds.{IsSettledBelow}
use Rattle.ax_step_work.proofs.bound.first_reserved.Given as goal

abbrev pub invariant-loop-index : goal.invariant-loop-index
invariant-loop-index l = IsSettledBelow l.cells l.index

abbrev pub decreases-loop-index : goal.decreases-loop-index
decreases-loop-index l = l.end - l.index
