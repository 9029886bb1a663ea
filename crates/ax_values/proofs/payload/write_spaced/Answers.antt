use Rattle.std.proofs.Common.{arith}
use Rattle.std.proofs.lemmas.Grind.{common_steps}
use Rattle.ax_values.proofs.Lists.{take-front, each_in-push}
use Rattle.ax_values.proofs.Payloads.{spaced-next}
use Rattle.ax_values.proofs.payload.write_spaced.Goals as goal

pub loop-field-preserved : goal.loop-field-preserved
loop-field-preserved c = record {
  text = grind (arith, common_steps, spaced-next);
  front = grind (arith, common_steps, take-front);
  again = grind (arith, common_steps, each_in-push);
}
