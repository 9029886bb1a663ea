use Rattle.std.proofs.Common.{◌≡◌}
use Rattle.ax_machine.proofs.Along.{IsAlong}
use Rattle.ax_machine.proofs.machine.run.Given as goal

-- the first places of the plan's schedule are performed
abbrev pub invariant-loop-actor : goal.invariant-loop-actor
invariant-loop-actor l = (l.machine.plan ≡ l.fn.plan) × IsAlong l.actor-index l.machine
