use Rattle.std.proofs.Common.{arith}
use Rattle.std.proofs.lemmas.Grind.{common_steps}
use Rattle.serde_json.specs.View.{view}
use Rattle.ax_sheet_reading.proofs.Places.{handlers_fit}
use Rattle.ax_sheet_reading.proofs.saga.SagaReaderReadsMember.member.Goals as goal

pub of-requires : goal.of-requires
of-requires c = handlers_fit c.args.self.now.commands.now c.in-Some-2.fields (view c.in-Some.object.now) c.in-Some-3.handlers (grind (arith, common_steps))
