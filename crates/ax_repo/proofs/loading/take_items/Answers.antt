use Rattle.std.proofs.Common.{ap, ◌∙◌, ◌+◌, length, drop, arith}
use Rattle.ax_rules.specs.Rules.{lenient_from}
use Rattle.ax_projections.proofs.RowLaws.{length_applied, step_row}
use Rattle.ax_repo.proofs.loading.take_items.Goals as goal

pub loop-item-preserved : goal.loop-item-preserved
loop-item-preserved g c =
    let i = c.loop-item.item-index in
    let items = c.args.items.now in
    let row = c.in_ok-take_item.ensures.row in
    record {
      row = ap (lenient_from c.args.rules.now (drop (i + 1) items)) row ∙ step_row c.args.rules.now items i c.item-item.result c.loop-item.row c.loop-item-test.true c.item-item.is ∙ c.loop-item.invariant.row;
      fields = ap length row ∙ length_applied c.args.rules.now c.loop-item.row c.item-item.result ∙ c.loop-item.invariant.fields;
      cost = omega (arith, c.in_ok-take_item.ensures.cost, c.loop-item.invariant.cost);
    }
