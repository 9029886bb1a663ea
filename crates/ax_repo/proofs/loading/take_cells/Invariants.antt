-- the items of the cells that are left lead to the row of all, and have not been counted
use Rattle.std.proofs.Common.{◌≡◌, ◌+◌, length, drop}
use Rattle.ax_rules.specs.Rules.{lenient_from}
use Rattle.ax_repo.specs.Snapshots.{listed_items}
use Rattle.ax_repo.proofs.loading.take_cells.Given as goal

abbrev pub invariant-loop-index : goal.invariant-loop-index
invariant-loop-index g l = record {
  row : lenient_from l.rules (listed_items l.chain l.log.cells (drop l.index-index l.indexes)) l.row ≡ lenient_from l.rules (listed_items l.chain l.log.cells l.indexes) l.fn.row;
  fields : length l.row ≡ length l.rules.fields;
  cost : l.steps + length (listed_items l.chain l.log.cells (drop l.index-index l.indexes)) ≡ l.fn.steps + length (listed_items l.chain l.log.cells l.indexes);
}
