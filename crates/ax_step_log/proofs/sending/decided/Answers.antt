use Rattle.std.specs.Prelude.{length}
use Rattle.std.proofs.lemmas.Result.{IfOk-weaker}
use Rattle.ax_step_log.proofs.Decisions.{decided-fits}
use Rattle.ax_step_log.proofs.sending.decided.Goals as goal

pub returns-clause-fits : goal.returns-clause-fits
returns-clause-fits c =
    IfOk-weaker c.decide.result _ _
    (λ d e. decided-fits (length c.args.world.now.tables.setting.sheet.aggregate.fields) c.args.command.now c.args.args.now c.in_ok-row.row d c.requires e) c.decide.ensures.value
