-- the cells stay, and there is room for those of each edit so far
use Rattle.std.proofs.Common.{◌≡◌, take}
use Rattle.std.specs.List.{AllByRecursion}
use Rattle.ax_world.specs.Fits.{HasCells}
use Rattle.ax_world.proofs.parts.reserve_cells.Given as goal

abbrev pub invariant-loop-edit : goal.invariant-loop-edit
invariant-loop-edit l = (l.log.cells ≡ l.initial.log.cells) × AllByRecursion (HasCells l.log.room) (take l.edit-index l.edits)
