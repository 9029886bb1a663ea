-- the rows so far, and those that are left, are all rows
use Rattle.std.proofs.Common.{◌≡◌, ◌+◌, ◌++◌, drop}
use Rattle.ax_claims.specs.Changes.{reset_rows}
use Rattle.ax_claims.proofs.changes.reset_rows.Given as goal

abbrev pub invariant-loop-place : goal.invariant-loop-place
invariant-loop-place l = l.anew.items ++ reset_rows l.actor l.now (l.fence + l.place) (drop l.place l.rows) ≡ reset_rows l.actor l.now l.fence l.rows
