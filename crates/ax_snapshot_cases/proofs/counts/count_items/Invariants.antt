-- what was counted and what is left are all items
use Rattle.std.proofs.Common.{◌≡◌, ◌+◌, length, drop}
use Rattle.ax_repo.specs.Snapshots.{listed_items}
use Rattle.ax_snapshot_cases.proofs.counts.count_items.Given as goal

abbrev pub invariant-loop-index : goal.invariant-loop-index
invariant-loop-index l = l.sum + length (listed_items l.chain l.log.cells (drop l.index-index l.indexes)) ≡ length (listed_items l.chain l.log.cells l.indexes)
