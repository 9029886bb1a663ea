use Rattle.std.proofs.Common.{◌≡◌, ap, ◌∙◌, ◌+◌, sym, length, drop, get_or, arith}
use Rattle.std.specs.Prelude.{slice_get}
use Rattle.std.proofs.lemmas.List.{length-append}
use Rattle.ax_rules.specs.Rules.{lenient_from}
use Rattle.ax_repo.specs.Snapshots.{found_items, listed_items}
use Rattle.ax_repo.proofs.Loaded.{next-cell, next-list}
use Rattle.ax_repo.proofs.loading.take_cells.Goals as goal

pub loop-index-preserved : goal.loop-index-preserved
loop-index-preserved g c =
    let i = c.loop-index.index-index in
    let cells = c.args.log.now.cells in
    let chain = c.args.chain.now in
    record {
      row = ap (lenient_from c.args.rules.now (listed_items chain cells (drop (i + 1) c.args.indexes.now))) (c.in_ok-take_cell.ensures.row ∙ ap (λ found. lenient_from c.args.rules.now (found_items chain found) c.loop-index.row) c.scan.ensures)
          ∙ next-cell c.args.rules.now chain cells c.args.indexes.now i c.loop-index.row c.loop-index-test.true ∙ c.loop-index.invariant.row;
      fields = c.in_ok-take_cell.ensures.fields;
      cost = (
          let found = found_items chain (slice_get cells (get_or c.args.indexes.now i 0)) in
          let a : c.take_cell.new.steps ≡ c.loop-index.steps + length found = c.in_ok-take_cell.ensures.cost ∙ ap (λ x. c.loop-index.steps + length (found_items chain x)) c.scan.ensures in
          let b : length found + length (listed_items chain cells (drop (i + 1) c.args.indexes.now)) ≡ length (listed_items chain cells (drop i c.args.indexes.now)) =
          sym (length-append found (listed_items chain cells (drop (i + 1) c.args.indexes.now))) ∙ ap length (next-list chain cells c.args.indexes.now i c.loop-index-test.true) in
          omega (arith, a, b, c.loop-index.invariant.cost));
    }
