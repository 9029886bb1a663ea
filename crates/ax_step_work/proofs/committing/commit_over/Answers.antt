use Rattle.std.proofs.Common.{◌∙◌, ap, sym}
use Rattle.std.proofs.lemmas.Result.{IfOk-weaker}
use Rattle.ax_basis.specs.Basis.{Basis}
use Rattle.ax_world.specs.WorldTables.{rows_at}
use Rattle.ax_step_work.proofs.CommitAnswers.{stale-answer}
use Rattle.ax_step_work.proofs.committing.commit_over.Goals as goal

pub returns-in-Err : goal.returns-in-Err
returns-in-Err c =
    IfOk-weaker c.give_up.result _ _
    (λ mv e. stale-answer c.args.world.now.tables c.args.actor c.args.basis.now c.clock-now.ensures.world c.requires.mine c.clock-now.result c.rows.result.now c.in-Err.reply c.args.desk mv c.requires.actor c.requires.desk
    (c.rows.ensures ∙ ap (λ (b : Basis). rows_at c.args.world.now.tables b.processor) c.basis.view_is) (sym c.in-Err.is ∙ c.in_ok-rows.ensures) e) c.give_up.ensures
