use Rattle.std.proofs.Common.{ap, ◌∙◌, arith, length, take}
use Rattle.ax_projections.specs.Rebuild.{or_start, added_cell}
use Rattle.ax_projections.specs.Table.{look_up}
use Rattle.ax_projections.proofs.RebuildLaws.{next_rows, next_few, position_few, row_fits, rows_few}
use Rattle.ax_projections.proofs.rebuilding.rebuild.Goals as goal

pub add_cell-requires-clause-fits : goal.add_cell-requires-clause-fits
add_cell-requires-clause-fits c a =
    let same = ap (λ es. (or_start c.args.rules.now (look_up a es)).position) c.loop-cell.invariant.rows in
    let most = position_few c.args.rules.now c.args.chain.now (take c.loop-cell.cell-index c.args.cells.now) a in
    omega (arith, same, most, c.loop-cell.invariant.few, c.loop-cell-test.true, c.requires)

pub add_cell-requires-clause-fields : goal.add_cell-requires-clause-fields
add_cell-requires-clause-fields c a =
    ap (λ es. length (or_start c.args.rules.now (look_up a es)).row) c.loop-cell.invariant.rows ∙ row_fits c.args.rules.now c.args.chain.now (take c.loop-cell.cell-index c.args.cells.now) a

pub add_cell-requires-clause-few : goal.add_cell-requires-clause-few
add_cell-requires-clause-few c =
    let same = ap length c.loop-cell.invariant.rows in
    let most = rows_few c.args.rules.now c.args.chain.now (take c.loop-cell.cell-index c.args.cells.now) in
    omega (arith, same, most, c.loop-cell.invariant.few, c.loop-cell-test.true, c.requires)

pub loop-cell-preserved : goal.loop-cell-preserved
loop-cell-preserved c =
    let cell = c.cell-item.result in
    let i = c.loop-cell.cell-index in
    record {
      rows = c.in_ok-add_cell.ensures.rows ∙ ap (added_cell c.args.rules.now c.args.chain.now cell) c.loop-cell.invariant.rows ∙ next_rows c.args.rules.now c.args.chain.now c.args.cells.now i cell c.loop-cell-test.true c.cell-item.is;
      few = next_few c.args.chain.now c.args.cells.now i cell c.loop-cell-test.true c.cell-item.is c.in_ok-add_cell.ensures.items c.loop-cell.invariant.few;
    }
