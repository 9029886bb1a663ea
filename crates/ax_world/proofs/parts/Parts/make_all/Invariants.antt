-- what is left can be made, has room, and leads to the same
use Rattle.std.proofs.Common.{◌≡◌, ◌≤◌}
use Rattle.std.specs.Vec.Iter.{into_iter_items}
use Rattle.ax_state.specs.Every.{count}
use Rattle.ax_world.specs.EditsApplied.{edits_applied}
use Rattle.ax_world.specs.Fits.{CanMakeAll, HasRoom, is_cells}
use Rattle.ax_world.proofs.parts.Parts.make_all.Given as goal

abbrev pub invariant-loop-edit : goal.invariant-loop-edit
invariant-loop-edit l =
    (goal.iterator-loop-edit).can_next l.edit-iterator
    × (goal.iterator-loop-edit).is_finite l.edit-iterator
    × (count is_cells (into_iter_items l.edit-iterator) ≤ 1)
    × HasRoom l.self.room (into_iter_items l.edit-iterator)
    × CanMakeAll l.self.tables (into_iter_items l.edit-iterator)
    × (edits_applied (into_iter_items l.edit-iterator) l.self.tables ≡ edits_applied l.fn.edits l.initial.self.tables)
