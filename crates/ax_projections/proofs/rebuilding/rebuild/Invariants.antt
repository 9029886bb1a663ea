use Rattle.std.proofs.Common.{◌≡◌, ◌≤◌, ◌*◌, length, take}
use Rattle.ax_projections.specs.Items.{all_items}
use Rattle.ax_projections.specs.Rebuild.{rebuilt}
use Rattle.ax_projections.proofs.rebuilding.rebuild.Given as goal

-- the table of the cells before, with at most 8 items a cell
abbrev pub invariant-loop-cell : goal.invariant-loop-cell
invariant-loop-cell l = record {
  rows : l.table.entries ≡ rebuilt l.rules l.chain (take l.cell-index l.cells);
  few : length (all_items l.chain (take l.cell-index l.cells)) ≤ 8 * l.cell-index;
}
