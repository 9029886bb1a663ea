-- the lines so far, and those of the cells that are left
use Rattle.std.proofs.Common.{◌≡◌, ◌++◌, drop}
use Rattle.ax_report.specs.LogReports.{cell_lines}
use Rattle.ax_report.proofs.cells.cell_lines.Given as goal

abbrev pub invariant-loop-index : goal.invariant-loop-index
invariant-loop-index l = l.lines ++ cell_lines l.index (drop l.index l.cells) ≡ cell_lines 0 l.cells
