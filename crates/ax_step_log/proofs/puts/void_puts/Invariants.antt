-- the puts so far, and those that are left
use Rattle.std.proofs.Common.{◌≡◌, ◌+◌, ◌-◌, ◌++◌}
use Rattle.ax_step_log.specs.SendParts.{void_puts}
use Rattle.ax_step_log.proofs.puts.void_puts.Given as goal

abbrev pub invariant-loop-place : goal.invariant-loop-place
invariant-loop-place l = l.puts.items ++ void_puts l.cells (l.first + l.place) (l.count - l.place) ≡ void_puts l.cells l.first l.count
