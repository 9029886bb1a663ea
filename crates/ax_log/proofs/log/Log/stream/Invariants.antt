-- the indexes of the events before the place, and those so far backwards, are all indexes
use Rattle.std.proofs.Common.{◌≡◌, ◌≤◌, length}
use Rattle.ax_log.proofs.Heads.{IsBack}
use Rattle.ax_log.proofs.log.Log.stream.Given as goal

abbrev pub invariant-loop-at : goal.invariant-loop-at
invariant-loop-at l = record {
  long : length l.before ≡ length l.self.cells;
  within : l.at ≤ length l.self.cells;
  back : IsBack l.self.cells l.before l.aggregate l.at l.indexes.items;
}

abbrev pub decreases-loop-at : goal.decreases-loop-at
decreases-loop-at l = l.at
