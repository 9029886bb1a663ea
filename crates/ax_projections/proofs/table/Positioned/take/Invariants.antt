use Rattle.std.proofs.Common.{◌≡◌, ◌+◌, length, drop}
use Rattle.ax_rules.specs.Rules.{lenient_from}
use Rattle.ax_projections.proofs.table.Positioned.take.Given as goal

abbrev pub invariant-loop-item : goal.invariant-loop-item
invariant-loop-item l = record {
  position : l.self.position + length (drop l.item-index l.items) ≡ l.fn.self.position + length l.items;
  row : lenient_from l.rules (drop l.item-index l.items) l.self.row ≡ lenient_from l.rules l.items l.fn.self.row;
  fields : length l.self.row ≡ length l.rules.fields;
}
