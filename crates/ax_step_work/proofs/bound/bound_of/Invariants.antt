-- so many events below the index are new
use Rattle.std.proofs.Common.{◌-◌, ◌≡◌, ◌≤◌}
use Rattle.std.specs.Option.{option_copied}
use Rattle.ax_tokens.specs.Nodes.{token_of}
use Rattle.ax_step_work.proofs.Bounds.{count_below}
use Rattle.ax_step_work.proofs.bound.bound_of.Given as goal

abbrev pub invariant-loop-index : goal.invariant-loop-index
invariant-loop-index l = (l.count ≤ l.most) × (l.count ≡ count_below (option_copied l.whole) l.segment (token_of l.token) l.cells l.index)

abbrev pub decreases-loop-index : goal.decreases-loop-index
decreases-loop-index l = l.limit - l.index
