use Rattle.std.proofs.Common.{None, refl, sym, ap, ◌∙◌}
use Rattle.ax_basis.specs.Basis.{Share}
use Rattle.ax_step_work.specs.Installing.{tell}
use Rattle.ax_step_work.proofs.Tallied.{left-found, left-passed}
use Rattle.ax_step_work.proofs.tally.first_unapplied.Goals as goal

pub returns-in-Some-left_among : goal.returns-in-Some-left_among
returns-in-Some-left_among c =
    left-found c.args.shares.now c.args.results.now c.loop-place.place c.index-shares-place.result c.in-Some.made.now c.loop-place-test.true c.index-shares-place.is c.in-Some.ensures.lookup.3.0 (c.in-Some.ensures.lookup.3.1 c.in-Some.made.now)
    c.parts.result.now c.parts-in-loop-place.result.now _ (c.parts.ensures ∙ ap (λ (s : Share). s.items) c.share.view_is) c.parts-in-loop-place.ensures (sym c.in-Some-left_among.ensures)
    (tell c.in-Some-left_among.left.0.now c.in-Some-left_among.left.1.now) refl c.loop-place.invariant

pub loop-place-preserved : goal.loop-place-preserved
loop-place-preserved c =
    left-passed c.args.shares.now c.args.results.now c.loop-place.place c.index-shares-place.result c.in-Some.made.now c.loop-place-test.true c.index-shares-place.is c.in-Some.ensures.lookup.3.0 (c.in-Some.ensures.lookup.3.1 c.in-Some.made.now)
    c.parts.result.now c.parts-in-loop-place.result.now None (c.parts.ensures ∙ ap (λ (s : Share). s.items) c.share.view_is) c.parts-in-loop-place.ensures (sym c.in_default-left_among.ensures) refl c.loop-place.invariant
