use Rattle.std.proofs.Common.{◌≡◌, ◌∙◌, ◌++◌, ◌-◌, ◌+◌, sym, ap, subst, arith}
use Rattle.std.proofs.lemmas.Grind.{common_steps}
use Rattle.std.proofs.lemmas.List.{append-nil}
use Rattle.ax_claims.specs.Rows.{AreRows, first_rows}
use Rattle.ax_claims.proofs.Starts.{are-starting, rows-more, some-segments}
use Rattle.ax_claims.proofs.rows.Rows.start.Goals as goal

pub loop-id-preserved : goal.loop-id-preserved
loop-id-preserved c = grind (arith, common_steps, rows-more)

pub invariant_of-result : goal.invariant_of-result
invariant_of-result c =
    let none : c.args.segments - c.loop-id.id ≡ 0 = omega (arith, c.loop-id-test.false) in
    subst AreRows
    (sym c.loop-id.invariant ∙ ap (λ n. c.loop-id.rows.items ++ first_rows n c.loop-id.id (c.args.segments - 1) (c.args.fence + c.loop-id.id)) none ∙ append-nil c.loop-id.rows.items)
    (are-starting c.args.segments c.args.fence (some-segments c.args.segments c.requires.power) c.requires.power c.requires.few)
