-- the names so far
use Rattle.std.proofs.Common.{◌≡◌, map, take}
use Rattle.ax_report.proofs.names.names_of.Given as goal

abbrev pub invariant-loop-place : goal.invariant-loop-place
invariant-loop-place l = l.names.items ≡ take l.place (map (λ row. row.name) l.table.entries)
