-- how many of the edits so far put a mark
use Rattle.std.proofs.Common.{◌≡◌, ◌+◌, ◌≤◌, drop}
use Rattle.ax_state.specs.Every.{count}
use Rattle.ax_world.specs.Fits.{puts_mark}
use Rattle.ax_world.proofs.places.marks_put.Given as goal

abbrev pub invariant-loop-edit : goal.invariant-loop-edit
invariant-loop-edit l = (l.marks ≤ l.edit-index) × (l.marks + count (puts_mark l.processor) (drop l.edit-index l.edits) ≡ count (puts_mark l.processor) l.edits)
