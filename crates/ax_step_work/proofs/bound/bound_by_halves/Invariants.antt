-- the token fits to the lower bound, and to none from the higher one up to the first
use Rattle.std.proofs.Common.{◌-◌}
use Rattle.ax_tokens.specs.Nodes.{token_of}
use Rattle.ax_step_work.proofs.Halving.{IsHalved}
use Rattle.ax_step_work.proofs.bound.bound_by_halves.Given as goal

abbrev pub invariant-loop-low : goal.invariant-loop-low
invariant-loop-low l = IsHalved l.cells (token_of l.token) l.fn.high l.low l.high

abbrev pub decreases-loop-low : goal.decreases-loop-low
decreases-loop-low l = l.high - l.low
