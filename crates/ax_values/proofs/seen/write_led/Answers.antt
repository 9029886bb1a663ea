use Rattle.std.proofs.Common.{arith}
use Rattle.std.proofs.lemmas.Grind.{common_steps}
use Rattle.ax_values.proofs.Lists.{take-front, each_in-push}
use Rattle.ax_values.proofs.Seens.{led-next}
use Rattle.ax_values.proofs.seen.write_led.Goals as goal

pub loop-mark-preserved : goal.loop-mark-preserved
loop-mark-preserved c = record {
  text = grind (arith, common_steps, led-next);
  front = grind (arith, common_steps, take-front);
  again = grind (arith, common_steps, each_in-push);
}
