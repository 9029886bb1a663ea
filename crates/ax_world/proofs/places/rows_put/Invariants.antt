-- how many of the edits so far put a row
use Rattle.std.proofs.Common.{◌≡◌, ◌+◌, ◌≤◌, drop}
use Rattle.ax_state.specs.Every.{count}
use Rattle.ax_world.specs.Fits.{puts_row}
use Rattle.ax_world.proofs.places.rows_put.Given as goal

abbrev pub invariant-loop-edit : goal.invariant-loop-edit
invariant-loop-edit l = (l.rows ≤ l.edit-index) × (l.rows + count (puts_row l.processor) (drop l.edit-index l.edits) ≡ count (puts_row l.processor) l.edits)
