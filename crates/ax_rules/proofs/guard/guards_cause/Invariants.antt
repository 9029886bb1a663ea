use Rattle.std.proofs.Common.{◌≡◌, length, drop, IsTrue}
use Rattle.std.specs.List.{list_all}
use Rattle.ax_rules.specs.Guards.{guard_fits, guards_cause}
use Rattle.ax_rules.proofs.guard.guards_cause.Given as goal

-- the first cause of the guards that are left is that of all
abbrev pub invariant-loop-number : goal.invariant-loop-number
invariant-loop-number l = record {
  same : guards_cause l.number (drop l.number l.guards) l.row l.payload ≡ guards_cause 0 l.guards l.row l.payload;
  places : IsTrue (list_all (guard_fits (length l.row)) (drop l.number l.guards));
}
