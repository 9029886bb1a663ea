-- the puts so far and those that are left are all puts
use Rattle.std.proofs.Common.{◌≡◌, ◌+◌, ◌-◌, ◌++◌, replicate}
use Rattle.ax_values.specs.declared.cell.Cell.{Cell}
use Rattle.ax_log.specs.Puts.{puts_at}
use Rattle.ax_log.proofs.log.reserved_puts.Given as goal

abbrev pub invariant-loop-place : goal.invariant-loop-place
invariant-loop-place l = l.puts.items ++ puts_at (l.first + l.place) (replicate (l.count - l.place) (Cell.Reserved l.aggregate l.first_seq l.actor l.at)) ≡ puts_at l.first (replicate l.count (Cell.Reserved l.aggregate l.first_seq l.actor l.at))
