-- the lines so far, and those of the rows that are left
use Rattle.std.proofs.Common.{◌≡◌, ◌++◌, map, drop}
use Rattle.ax_report.specs.TokenReports.{token_line}
use Rattle.ax_report.proofs.tokens.token_lines.Given as goal

abbrev pub invariant-loop-row : goal.invariant-loop-row
invariant-loop-row l = l.lines ++ map token_line (drop l.row-index l.rows) ≡ map token_line l.rows
