use Rattle.std.proofs.Common.{arith}
use Rattle.std.proofs.lemmas.Grind.{common_steps}
use Rattle.ax_values.proofs.Lists.{take-front}
use Rattle.ax_journal.proofs.LineLaws.{parts_next}
use Rattle.ax_journal.proofs.part.write_each.Goals as goal

pub loop-part-preserved : goal.loop-part-preserved
loop-part-preserved c = record {
  text = grind (arith, common_steps, parts_next);
  front = grind (arith, common_steps, take-front);
}
