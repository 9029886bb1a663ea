use Rattle.std.proofs.Common.{◌<◌, length, ◌∙◌, subst}
use Rattle.ax_world.specs.WorldTables.{state_of}
use Rattle.ax_report.specs.Reports.{rebuild_lines}
use Rattle.ax_report.proofs.Shown.{next-processor}
use Rattle.ax_report.proofs.rebuilding.rebuild_lines.Goals as goal

pub loop-number-preserved : goal.loop-number-preserved
loop-number-preserved c =
    next-processor (state_of c.args.world.now.tables) c.loop-number.number c.loop-number.lines c.add_rebuilt.new.lines (rebuild_lines (state_of c.args.world.now.tables))
    (subst (λ qs. c.loop-number.number < length qs) (c.parts-number-end.ensures ∙ c.processors.ensures) c.loop-number-test.true)
    c.in_ok-add_rebuilt.ensures c.loop-number.invariant
