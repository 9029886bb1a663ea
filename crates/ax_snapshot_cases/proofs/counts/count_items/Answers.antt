use Rattle.std.proofs.Common.{◌≡◌, ap, ◌∙◌, ◌+◌, length}
use Rattle.ax_repo.specs.Snapshots.{found_items, listed_items}
use Rattle.ax_snapshot_cases.proofs.Counting.{counted_more}
use Rattle.ax_snapshot_cases.proofs.counts.count_items.Goals as goal

pub loop-index-preserved : goal.loop-index-preserved
loop-index-preserved c =
    counted_more c.args.chain.now c.args.log.now.cells c.args.indexes.now c.loop-index.index-index c.loop-index.sum _ (length (listed_items c.args.chain.now c.args.log.now.cells c.args.indexes.now))
    c.loop-index-test.true c.loop-index.invariant (c.in_ok-sum.ensures ∙ ap (λ x. c.loop-index.sum + length (found_items c.args.chain.now x)) c.scan.ensures)
