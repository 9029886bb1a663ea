use Rattle.std.proofs.Common.{◌≡◌, length, drop}
use Rattle.ax_rules.specs.Rules.{lenient_from}
use Rattle.ax_step_log.proofs.fold.take_items.Given as goal

abbrev pub invariant-loop-item : goal.invariant-loop-item
invariant-loop-item l = record {
  row : lenient_from l.rules (drop l.item-index l.items) l.row ≡ lenient_from l.rules l.items l.fn.row;
  fields : length l.row ≡ length l.rules.fields;
}
