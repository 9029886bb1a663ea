-- no item so far is left
use Rattle.std.proofs.Common.{◌≡◌, drop}
use Rattle.ax_step_work.proofs.Tallied.{left_of}
use Rattle.ax_step_work.proofs.tally.left_among.Given as goal

abbrev pub invariant-loop-place : goal.invariant-loop-place
invariant-loop-place l = left_of (drop l.place l.items) (drop l.place l.outcomes) ≡ left_of l.items l.outcomes
