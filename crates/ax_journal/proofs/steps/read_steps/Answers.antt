use Rattle.std.proofs.lemmas.Result.{IfOk-weaker}
use Rattle.ax_journal.proofs.Stops.{stops-any}
use Rattle.ax_journal.proofs.steps.read_steps.Goals as goal

pub returns-in-Some-clause-stops : goal.returns-in-Some-clause-stops
returns-in-Some-clause-stops c = IfOk-weaker c.steps.result _ _ (λ read e. stops-any c.args.form c.in-Some.fields read e) c.steps.ensures
