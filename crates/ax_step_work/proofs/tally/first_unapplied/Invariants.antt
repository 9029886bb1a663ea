-- no item of the shares so far is left
use Rattle.std.proofs.Common.{◌≡◌, drop}
use Rattle.ax_step_work.proofs.Tallied.{left_in}
use Rattle.ax_step_work.proofs.tally.first_unapplied.Given as goal

abbrev pub invariant-loop-place : goal.invariant-loop-place
invariant-loop-place l = left_in (drop l.place l.shares) (drop l.place l.results) ≡ left_in l.shares l.results
