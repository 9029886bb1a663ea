use Rattle.std.proofs.Common.{◌∙◌, Some, ap, subst, map}
use Rattle.std.specs.List.{IsDistinct}
use Rattle.std.proofs.lemmas.Result.{IfOk-weaker}
use Rattle.ax_values.specs.Words.{same_name}
use Rattle.ax_upcast.specs.Upcast.{KeepsLimit}
use Rattle.ax_basis.specs.Basis.{Basis}
use Rattle.ax_world.specs.WorldTables.{processor_tables_at}
use Rattle.ax_world.proofs.StepMoves.{basis-at}
use Rattle.ax_step_work.specs.Installing.{tell}
use Rattle.ax_step_work.proofs.CommitAnswers.{count-answer, failed-answer, installed-answer, paired-answer, row-answer, single-answer}
use Rattle.ax_step_work.proofs.Tallied.{left-read}
use Rattle.ax_step_work.proofs.committing.commit_rows.Goals as goal

pub install-requires-clause-single : goal.install-requires-clause-single
install-requires-clause-single c =
    single-answer c.args.world.now.tables c.args.actor c.args.basis.now c.facts.ensures c.requires.mine (basis-at c.args.world.now.tables c.args.actor (Some c.args.basis.now) c.facts.ensures c.requires.batch)
    c.args.results c.requires.results c.args.rows c.requires.rows (subst KeepsLimit (c.chain.ensures.value ∙ ap (λ s. s.chain) c.sheet.ensures) c.parts.ensures.few)

pub install-requires-clause-few : goal.install-requires-clause-few
install-requires-clause-few c =
    count-answer c.args.world.now.tables c.args.actor c.args.basis.now c.facts.ensures c.requires.mine (basis-at c.args.world.now.tables c.args.actor (Some c.args.basis.now) c.facts.ensures c.requires.batch)
    c.args.results c.requires.results c.args.rows c.requires.rows (subst KeepsLimit (c.chain.ensures.value ∙ ap (λ s. s.chain) c.sheet.ensures) c.parts.ensures.few)

pub install-requires-clause-paired : goal.install-requires-clause-paired
install-requires-clause-paired c =
    paired-answer c.args.world.now.tables c.args.actor c.args.basis.now c.facts.ensures c.requires.mine (basis-at c.args.world.now.tables c.args.actor (Some c.args.basis.now) c.facts.ensures c.requires.batch)
    c.args.results c.requires.results c.args.rows c.requires.rows

pub install-requires-clause-row : goal.install-requires-clause-row
install-requires-clause-row c =
    row-answer c.args.world.now.tables c.args.actor c.args.basis.now c.facts.ensures c.requires.mine (basis-at c.args.world.now.tables c.args.actor (Some c.args.basis.now) c.facts.ensures c.requires.batch)
    c.args.results c.requires.results c.args.rows c.requires.rows (subst KeepsLimit (c.chain.ensures.value ∙ ap (λ s. s.chain) c.sheet.ensures) c.parts.ensures.few)

pub returns-in-Some : goal.returns-in-Some
returns-in-Some c =
    IfOk-weaker c.not_applied-made.result _ _
    (λ mv e. failed-answer c.args.world.now.tables c.args.actor c.args.basis.now c.facts.ensures c.requires.mine (basis-at c.args.world.now.tables c.args.actor (Some c.args.basis.now) c.facts.ensures c.requires.batch)
    c.args.results c.requires.results c.args.rows c.requires.rows (tell c.in-Some.item.now c.in-Some.outcome.now) mv
    (c.in-Some.ensures ∙ left-read c.args.basis.now.shares c.parts-2.result.now c.args.results c.parts-3.result.now (c.parts-2.ensures ∙ ap (λ (b : Basis). b.shares) c.basis.view_is) c.parts-3.ensures) e) c.not_applied-made.ensures

pub returns-in-None : goal.returns-in-None
returns-in-None c =
    IfOk-weaker c.install.result _ _
    (λ mv e. installed-answer c.args.world.now.tables c.args.actor c.args.basis.now c.facts.ensures c.requires.mine (basis-at c.args.world.now.tables c.args.actor (Some c.args.basis.now) c.facts.ensures c.requires.batch)
    c.args.results c.requires.results c.args.rows c.requires.rows c.args.desk mv
    (c.in-None.ensures ∙ left-read c.args.basis.now.shares c.parts-2.result.now c.args.results c.parts-3.result.now (c.parts-2.ensures ∙ ap (λ (b : Basis). b.shares) c.basis.view_is) c.parts-3.ensures) c.requires.desk (subst KeepsLimit (c.chain.ensures.value ∙ ap (λ s. s.chain) c.sheet.ensures) c.parts.ensures.few)
    (subst (λ t. IsDistinct same_name (map (λ e. e.name) t)) (c.table.ensures ∙ ap (λ (b : Basis). (processor_tables_at c.args.world.now.tables b.processor).table) c.basis.view_is) c.len.ensures.names)
    c.requires.actor e) c.install.ensures
