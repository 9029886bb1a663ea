-- the items that are left lead to the row of all, and have not been counted
use Rattle.std.proofs.Common.{◌≡◌, ◌+◌, length, drop}
use Rattle.ax_rules.specs.Rules.{lenient_from}
use Rattle.ax_repo.proofs.loading.take_items.Given as goal

abbrev pub invariant-loop-item : goal.invariant-loop-item
invariant-loop-item g l = record {
  row : lenient_from l.rules (drop l.item-index l.items) l.row ≡ lenient_from l.rules l.items l.fn.row;
  fields : length l.row ≡ length l.rules.fields;
  cost : l.steps ≡ l.fn.steps + l.item-index;
}
