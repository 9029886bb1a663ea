use Rattle.std.proofs.Common.{arith}
use Rattle.std.proofs.lemmas.Grind.{common_steps}
use Rattle.ax_script.proofs.Standing.{planned}
use Rattle.ax_script.proofs.reading.Reading.into_plan.Goals as goal

pub of-requires-5 : goal.of-requires-5
of-requires-5 c = planned _ (record { sheet = c.in_ok-sheet.field-0; processors = c.of.result; actors = c.of-2.result; orders = c.of-3.result; schedule = c.of-4.result })
    c.self.invariant (grind (arith, common_steps)) (grind (arith, common_steps))
