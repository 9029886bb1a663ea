use Rattle.std.proofs.Common.{◌∙◌}
use Rattle.ax_world.specs.Fits.{HasCells}
use Rattle.ax_world.proofs.Rooms.{kept-cells, seen-more}
use Rattle.ax_world.proofs.parts.reserve_cells.Goals as goal

pub loop-edit-preserved : goal.loop-edit-preserved
loop-edit-preserved c = (
  c.in_ok-reserve_cells_of.ensures.cells ∙ c.loop-edit.invariant.0,
  seen-more (HasCells c.loop-edit.log.room) (HasCells c.reserve_cells_of.new.log.room) (kept-cells c.loop-edit.log.room c.reserve_cells_of.new.log.room c.in_ok-reserve_cells_of.ensures.more)
      c.args.edits.now c.loop-edit.edit-index c.edit-item.result c.loop-edit.invariant.1 c.loop-edit-test.true c.edit-item.is c.in_ok-reserve_cells_of.ensures.room,
)
