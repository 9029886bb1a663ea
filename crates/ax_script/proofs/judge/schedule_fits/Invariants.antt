use Rattle.std.proofs.Common.{◌≡◌, drop}
use Rattle.ax_script.specs.Queues.{schedule_fits}
use Rattle.ax_script.proofs.judge.schedule_fits.Given as goal

-- it fits where it fits the queues that are left
abbrev pub invariant-loop-place : goal.invariant-loop-place
invariant-loop-place l = schedule_fits l.place (drop l.place l.queues) l.places ≡ schedule_fits 0 l.queues l.places
