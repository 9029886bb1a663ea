-- the lines so far, and those of the names that are left
use Rattle.std.proofs.Common.{◌≡◌, ◌++◌, map, drop}
use Rattle.ax_report.specs.Reports.{listed, line_of}
use Rattle.ax_report.proofs.rows.add_each.Given as goal

abbrev pub invariant-loop-name : goal.invariant-loop-name
invariant-loop-name l = l.lines ++ map (line_of l.fields) (listed l.table.entries (drop l.name-index l.names)) ≡ l.initial.lines ++ map (line_of l.fields) (listed l.table.entries l.names)
