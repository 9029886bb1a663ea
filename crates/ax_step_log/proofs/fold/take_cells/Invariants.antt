-- the items of the cells that are left lead to the row of all
use Rattle.std.proofs.Common.{◌≡◌, length, drop}
use Rattle.ax_rules.specs.Rules.{lenient_from}
use Rattle.ax_step_log.specs.SendParts.{listed_items}
use Rattle.ax_step_log.proofs.fold.take_cells.Given as goal

abbrev pub invariant-loop-index : goal.invariant-loop-index
invariant-loop-index l = record {
  row : lenient_from l.rules (listed_items l.chain l.log.cells (drop l.index-index l.indexes)) l.row ≡ lenient_from l.rules (listed_items l.chain l.log.cells l.indexes) l.fn.row;
  fields : length l.row ≡ length l.rules.fields;
}
