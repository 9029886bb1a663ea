-- the lines so far, and those of the processors that are left
use Rattle.std.proofs.Common.{◌≡◌, ◌++◌, drop}
use Rattle.ax_world.specs.WorldTables.{state_of}
use Rattle.ax_report.specs.Reports.{rebuild_from, rebuild_lines}
use Rattle.ax_report.proofs.rebuilding.rebuild_lines.Given as goal

abbrev pub invariant-loop-number : goal.invariant-loop-number
invariant-loop-number l = l.lines ++ rebuild_from (state_of l.world.tables) l.number (drop l.number l.world.tables.setting.processors) ≡ rebuild_lines (state_of l.world.tables)
