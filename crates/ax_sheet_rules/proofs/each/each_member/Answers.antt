use Rattle.std.proofs.Common.{arith}
use Rattle.std.proofs.lemmas.Grind.{common_steps}
use Rattle.ax_sheet_rules.proofs.Loops.{kept}
use Rattle.ax_sheet_rules.proofs.each.each_member.Goals as goal

pub loop-key-preserved : goal.loop-key-preserved
loop-key-preserved g c =
    kept (g.R.ReadsMember.read c.args.reader.now) c.loop-key.parts c.in-Some.key.now c.in-Some.value.now c.in-Some-2.name c.in-Some-3.part c.next.new.self c.args.members.now.entries
    c.loop-key.invariant c.in-Some.ensures.steps (grind (arith, common_steps)) (grind (arith, common_steps)) (grind (arith, common_steps))
