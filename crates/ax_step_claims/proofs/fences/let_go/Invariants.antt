-- the fences so far, and those that are left, are all that are not of the segment
use Rattle.std.proofs.Common.{◌≡◌, ◌++◌, drop}
use Rattle.ax_step_claims.specs.Claiming.{let_go}
use Rattle.ax_step_claims.proofs.fences.let_go.Given as goal

abbrev pub invariant-loop-older : goal.invariant-loop-older
invariant-loop-older l = l.fences.items ++ let_go l.processor l.segment (drop l.older-index l.held) ≡ let_go l.processor l.segment l.held
