use Rattle.std.proofs.Common.{◌∙◌, sym, ap}
use Rattle.ax_segments.specs.Segments.{same_segment}
use Rattle.ax_claims.proofs.RowPlaces.{low-at}
use Rattle.ax_claims.proofs.rows.place_of.Goals as goal

pub returns-then-eq-clause-low : goal.returns-then-eq-clause-low
returns-then-eq-clause-low c =
    low-at c.args.rows.now c.loop-place.place c.index-rows-place.result c.args.segment c.requires.order c.loop-place-test.true c.index-rows-place.is
    (ap (λ r. same_segment r.segment c.args.segment) (sym c.row.view_is) ∙ sym c.eq.ensures ∙ c.if-eq.true)
