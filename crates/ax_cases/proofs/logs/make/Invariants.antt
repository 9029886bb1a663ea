-- the puts that are left can be made, and lead to where all lead
use Rattle.std.proofs.Common.{◌≡◌}
use Rattle.std.specs.Vec.Iter.{into_iter_items}
use Rattle.ax_log.specs.Puts.{CanPutAll, put_all}
use Rattle.ax_cases.proofs.logs.make.Given as goal

abbrev pub invariant-loop-change : goal.invariant-loop-change
invariant-loop-change l =
    (goal.iterator-loop-change).can_next l.change-iterator
    × (goal.iterator-loop-change).is_finite l.change-iterator
    × CanPutAll l.log.cells (into_iter_items l.change-iterator)
    × (put_all (into_iter_items l.change-iterator) l.log.cells ≡ put_all l.fn.puts l.fn.log.cells)
