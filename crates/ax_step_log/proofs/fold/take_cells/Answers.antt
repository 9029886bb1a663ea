use Rattle.std.proofs.Common.{ap, ◌∙◌, ◌+◌, drop}
use Rattle.ax_rules.specs.Rules.{lenient_from}
use Rattle.ax_step_log.specs.SendParts.{found_items, listed_items}
use Rattle.ax_step_log.proofs.Items.{next-cell}
use Rattle.ax_step_log.proofs.fold.take_cells.Goals as goal

pub loop-index-preserved : goal.loop-index-preserved
loop-index-preserved c =
    let i = c.loop-index.index-index in
    record {
      row = ap (lenient_from c.args.rules.now (listed_items c.args.chain.now c.args.log.now.cells (drop (i + 1) c.args.indexes.now))) (c.in_ok-take_cell.ensures.row ∙ ap (λ found. lenient_from c.args.rules.now (found_items c.args.chain.now found) c.loop-index.row) c.scan.ensures)
          ∙ next-cell c.args.rules.now c.args.chain.now c.args.log.now.cells c.args.indexes.now i c.loop-index.row c.loop-index-test.true ∙ c.loop-index.invariant.row;
      fields = c.in_ok-take_cell.ensures.fields;
    }
