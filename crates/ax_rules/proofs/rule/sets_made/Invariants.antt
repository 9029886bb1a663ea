use Rattle.std.proofs.Common.{◌≡◌, length, drop, IsTrue}
use Rattle.std.specs.List.{list_all}
use Rattle.ax_rules.specs.Rules.{set_fits, sets_made}
use Rattle.ax_rules.proofs.rule.sets_made.Given as goal

-- the sets that are left, made on the row so far, give what all give
abbrev pub invariant-loop-set : goal.invariant-loop-set
invariant-loop-set l = record {
  same : sets_made (drop l.set-index l.sets) l.row l.payload l.made.items ≡ sets_made l.sets l.row l.payload l.row;
  long : length l.made.items ≡ length l.row;
  places : IsTrue (list_all (set_fits (length l.row)) (drop l.set-index l.sets));
}
