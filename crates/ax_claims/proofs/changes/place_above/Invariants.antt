-- no row so far has a greater id
use Rattle.std.proofs.Common.{◌≡◌, ◌+◌, drop, nat_lt}
use Rattle.ax_values.specs.Words.{place_where}
use Rattle.ax_claims.proofs.changes.place_above.Given as goal

abbrev pub invariant-loop-place : goal.invariant-loop-place
invariant-loop-place l = place_where (λ r. nat_lt l.id r.segment.id) l.rows ≡ l.place + place_where (λ r. nat_lt l.id r.segment.id) (drop l.place l.rows)
