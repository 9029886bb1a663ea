use Rattle.std.proofs.Common.{[], ◌∷◌, ◌∙◌, sym, ap, subst}
use Rattle.ax_world.specs.WorldTables.{state_of}
use Rattle.ax_world.specs.Moves.{IsMove}
use Rattle.ax_world.specs.declared.edit.Edit.{Edit}
use Rattle.ax_journal.specs.declared.reply.Reply.{Reply}
use Rattle.ax_step_log.specs.Logging.{void}
use Rattle.ax_step_log.proofs.OtherSteps.{IsVoidMove, void-move}
use Rattle.ax_step_log.proofs.others.void.Goals as goal

pub returns-in_ok-edits-in-Ok : goal.returns-in_ok-edits-in-Ok
returns-in_ok-edits-in-Ok c =
    subst (IsMove c.args.world.now.tables (void (state_of c.args.world.now.tables) c.args.cell))
    (sym (c.of.ensures ∙ ap (λ es. record { edits = es; reply = Reply.Voided c.args.cell; report = [] }) (c.in_ok-edits-in-Ok.ensures ∙ ap (λ ps. Edit.Cells ps ∷ []) c.in_ok-one_put-in-Ok.ensures)))
    (subst (IsVoidMove c.args.world.now.tables c.args.cell) c.in-Ok.is
    (void-move c.args.world.now.tables c.args.cell c.clock.result c.log.result.now.cells c.void.result c.log.ensures.world c.clock.ensures.value c.log.ensures.value c.void.ensures.value))
