-- what is left can be put, has room, and leads to the same cells
use Rattle.std.proofs.Common.{◌≡◌}
use Rattle.std.specs.Vec.Iter.{into_iter_items}
use Rattle.ax_log.specs.Puts.{CanPutAll, HasRoom, put_all}
use Rattle.ax_world.proofs.parts.put_all.Given as goal

abbrev pub invariant-loop-change : goal.invariant-loop-change
invariant-loop-change l =
    (goal.iterator-loop-change).can_next l.change-iterator
    × (goal.iterator-loop-change).is_finite l.change-iterator
    × HasRoom l.log.room (into_iter_items l.change-iterator)
    × CanPutAll l.log.cells (into_iter_items l.change-iterator)
    × (put_all (into_iter_items l.change-iterator) l.log.cells ≡ put_all l.fn.puts l.initial.log.cells)
