use Rattle.std.proofs.Common.{arith}
use Rattle.std.proofs.lemmas.Grind.{common_steps}
use Rattle.ax_sheet.proofs.Sheets.{is_sheet}
use Rattle.ax_sheet.proofs.sheet.Sheet.read.Goals as goal

pub invariant_of-result : goal.invariant_of-result
invariant_of-result c = is_sheet c.args.text.now c.in-Some.parts (grind (arith, common_steps))
