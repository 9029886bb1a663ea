-- the items so far, and those of the shares that are left
use Rattle.std.proofs.Common.{◌≡◌, ◌+◌, length, drop}
use Rattle.ax_step_work.specs.Installing.{share_items}
use Rattle.ax_step_work.proofs.tally.item_count.Given as goal

abbrev pub invariant-loop-share : goal.invariant-loop-share
invariant-loop-share l = l.count + length (share_items (drop l.share-index l.shares)) ≡ length (share_items l.shares)
