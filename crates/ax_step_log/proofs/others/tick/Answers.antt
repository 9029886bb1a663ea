use Rattle.std.proofs.Common.{◌+◌, ◌≤◌, ◌^◌, [], ◌∙◌, sym, ap, subst}
use Rattle.ax_world.specs.WorldTables.{state_of}
use Rattle.ax_world.specs.Moves.{IsMove}
use Rattle.ax_journal.specs.declared.reply.Reply.{Reply}
use Rattle.ax_step_log.specs.Logging.{tick, later_by}
use Rattle.ax_step_log.proofs.OtherSteps.{tick-move, later-now}
use Rattle.ax_step_log.proofs.others.tick.Goals as goal

pub returns : goal.returns
returns c =
    subst (IsMove c.args.world.now.tables (tick (state_of c.args.world.now.tables) c.args.ms))
    (sym (c.of.ensures ∙ ap (λ es. record { edits = es; reply = Reply.Now (c.clock-clock.result + c.min.result); report = [] }) c.in_ok-edits.ensures))
    (tick-move c.args.world.now.tables c.args.ms (c.clock-clock.result + c.min.result) c.clock-clock.ensures.world
    (later-now c.clock-clock.result c.args.ms c.min.result (subst (λ n. n ≤ 10 ^ 18) (sym c.clock-clock.ensures.value) c.clock-clock.ensures.world.state.clock.limit) c.min.ensures ∙ ap (later_by c.args.ms) c.clock-clock.ensures.value))
