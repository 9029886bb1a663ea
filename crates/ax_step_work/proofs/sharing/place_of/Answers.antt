use Rattle.std.proofs.Common.{sym, ap, ◌∙◌}
use Rattle.ax_values.specs.Words.{name_cmp}
use Rattle.ax_basis.specs.Basis.{Share}
use Rattle.ax_step_work.proofs.SharePlaces.{last-below, last-here}
use Rattle.ax_step_work.proofs.sharing.place_of.Goals as goal

pub returns-in-Less : goal.returns-in-Less
returns-in-Less c =
    last-below c.args.aggregate.now c.args.shares.now c.in-Some.last.now c.requires (sym c.in-Some.ensures.value)
    (ap (λ (s : Share). name_cmp s.sequence c.args.aggregate.now) (sym c.last-2.view_is) ∙ sym c.cmp.ensures ∙ c.in-Less.is)

pub returns-in-Equal : goal.returns-in-Equal
returns-in-Equal c =
    last-here c.args.aggregate.now c.args.shares.now c.in-Some.last.now c.requires (sym c.in-Some.ensures.value)
    (ap (λ (s : Share). name_cmp s.sequence c.args.aggregate.now) (sym c.last-2.view_is) ∙ sym c.cmp.ensures ∙ c.in-Equal.is)
