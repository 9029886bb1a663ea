-- no row so far is of the segment
use Rattle.std.proofs.Common.{◌≡◌, ◌+◌, drop}
use Rattle.ax_values.specs.Words.{place_where}
use Rattle.ax_segments.specs.Segments.{same_segment}
use Rattle.ax_claims.specs.Rows.{row_at}
use Rattle.ax_claims.proofs.rows.place_of.Given as goal

abbrev pub invariant-loop-place : goal.invariant-loop-place
invariant-loop-place l =
    (row_at l.segment l.rows ≡ row_at l.segment (drop l.place l.rows))
    × (place_where (λ r. same_segment r.segment l.segment) l.rows ≡ l.place + place_where (λ r. same_segment r.segment l.segment) (drop l.place l.rows))
