use Rattle.std.proofs.Common.{◌≡◌, drop}
use Rattle.ax_sheet_rules.specs.Shape.{place_from}
use Rattle.ax_sheet_rules.proofs.expr.place_of.Given as goal

-- the place among the fields that are left is that among all
abbrev pub invariant-loop-place : goal.invariant-loop-place
invariant-loop-place l = place_from l.place (drop l.place l.fields) l.name ≡ place_from 0 l.fields l.name
