-- the items of the events below the index that are taken, and how many events they are
use Rattle.std.proofs.Common.{◌-◌, ◌≡◌, ◌≤◌, None, length}
use Rattle.ax_log.specs.Log.{events}
use Rattle.ax_tokens.specs.Nodes.{token_of}
use Rattle.ax_state.specs.Batches.{is_fetched}
use Rattle.ax_step_work.specs.Sharing.{taken}
use Rattle.ax_step_work.proofs.Gathered.{items_of_events}
use Rattle.ax_step_work.proofs.Walks.{passed}
use Rattle.ax_step_work.proofs.gathering.fetched_items.Given as goal

abbrev pub invariant-loop-index : goal.invariant-loop-index
invariant-loop-index l = record {
  few : l.records ≤ l.index;
  count : l.records ≡ length (passed (is_fetched None l.segment (token_of l.old) (token_of l.new)) (events l.cells) l.index);
  made : l.items.items ≡ items_of_events l.chain (taken l.segment (token_of l.old) (token_of l.new)) (passed (is_fetched None l.segment (token_of l.old) (token_of l.new)) (events l.cells) l.index);
}

abbrev pub decreases-loop-index : goal.decreases-loop-index
decreases-loop-index l = l.end - l.index
