use Rattle.std.proofs.Common.{[], ◌∷◌, ◌∙◌, sym, ap, subst}
use Rattle.ax_world.specs.WorldTables.{state_of}
use Rattle.ax_world.specs.Moves.{IsMove}
use Rattle.ax_world.specs.declared.edit.Edit.{Edit}
use Rattle.ax_journal.specs.declared.reply.Reply.{Reply}
use Rattle.ax_step_log.specs.Logging.{stop}
use Rattle.ax_step_log.proofs.OtherSteps.{stop-move}
use Rattle.ax_step_log.proofs.others.stop.Goals as goal

pub returns : goal.returns
returns c =
    subst (IsMove c.args.world.now.tables (stop (state_of c.args.world.now.tables) c.args.actor))
    (sym (c.of.ensures ∙ ap (λ es. record { edits = es; reply = Reply.Done; report = [] }) (c.in_ok-edits.ensures ∙ ap (λ d. Edit.SetDesk c.args.actor d ∷ []) c.empty-desk.ensures)))
    (stop-move c.args.world.now.tables c.args.actor c.facts.ensures c.requires)
