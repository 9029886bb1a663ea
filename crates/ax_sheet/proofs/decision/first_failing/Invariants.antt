use Rattle.std.proofs.Common.{◌≡◌, length, drop, IsTrue}
use Rattle.std.specs.List.{list_all}
use Rattle.ax_rules.specs.Guards.{guard_fits}
use Rattle.ax_sheet_parts.specs.Sheet.{first_failing}
use Rattle.ax_sheet.proofs.decision.first_failing.Given as goal

-- the first that fails among those that are left is that among all
abbrev pub invariant-loop-number : goal.invariant-loop-number
invariant-loop-number l = record {
  same : first_failing l.number (drop l.number l.guards) l.row l.args ≡ first_failing 0 l.guards l.row l.args;
  places : IsTrue (list_all (guard_fits (length l.row)) (drop l.number l.guards));
}
