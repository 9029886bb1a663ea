use Rattle.std.proofs.Common.{◌∙◌, Some, refl, ap}
use Rattle.ax_basis.specs.Basis.{Basis}
use Rattle.ax_basis.specs.Outcomes.{results_of}
use Rattle.ax_rules.specs.Rules.{Rules}
use Rattle.ax_state.specs.Setting.{projection_at}
use Rattle.ax_world.proofs.StepMoves.{basis-at}
use Rattle.ax_step_work.proofs.Fitted.{basis-fits}
use Rattle.ax_step_work.proofs.committing.commit_basis.Goals as goal

pub results_of-requires : goal.results_of-requires
results_of-requires c =
    basis-fits c.args.world.now.tables.setting c.args.world.now.tables.cells c.args.basis.now c.projection-rules.result.now c.args.basis.now.shares (basis-at c.args.world.now.tables c.args.actor (Some c.args.basis.now) c.facts.ensures c.requires.batch)
    (c.projection-rules.ensures ∙ ap (λ (b : Basis). projection_at c.args.world.now.tables.setting b.processor) c.basis.view_is) refl

pub commit_results-requires-clause-results : goal.commit_results-requires-clause-results
commit_results-requires-clause-results c =
    c.in_ok-results.ensures
    ∙ ap (λ (rs : Rules). results_of rs c.args.basis.now) (c.projection-rules.ensures ∙ ap (λ (b : Basis). projection_at c.args.world.now.tables.setting b.processor) c.basis.view_is)
