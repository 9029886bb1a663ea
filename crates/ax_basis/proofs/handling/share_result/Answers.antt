use Rattle.std.proofs.Common.{◌≡◌, true, sym, ap, ◌∙◌, subst}
use Rattle.std.specs.List.{list_all}
use Rattle.ax_basis.specs.Basis.{row_fits, members_fit, member_rows}
use Rattle.ax_basis.proofs.Fitting.{fits-members}
use Rattle.ax_basis.proofs.handling.share_result.Goals as goal

pub outcomes-requires-clause-fit : goal.outcomes-requires-clause-fit
outcomes-requires-clause-fit c =
    subst (λ rows. list_all (row_fits c.args.rules.now) rows ≡ true) (sym (c.in_ok-rows.ensures ∙ ap member_rows c.parts-members.ensures))
    (fits-members c.args.rules.now c.share.inside.members (ap (λ s. members_fit c.args.rules.now s.members) c.share.view_is ∙ c.requires))
