-- the rows so far, and those that are left, are all rows
use Rattle.std.proofs.Common.{◌≡◌, ◌+◌, ◌-◌, ◌++◌}
use Rattle.ax_claims.specs.Rows.{first_rows, starting}
use Rattle.ax_claims.proofs.rows.Rows.start.Given as goal

abbrev pub invariant-loop-id : goal.invariant-loop-id
invariant-loop-id l = l.rows.items ++ first_rows (l.segments - l.id) l.id (l.segments - 1) (l.fence + l.id) ≡ starting l.segments l.fence
