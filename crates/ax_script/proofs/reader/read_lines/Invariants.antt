use Rattle.std.proofs.Common.{◌≡◌, ◌+◌, ◌≤◌, length}
use Rattle.ax_script.specs.Judging.{nothing_read}
use Rattle.ax_script.proofs.Pieces.{script_from}
use Rattle.ax_script.proofs.reader.read_lines.Given as goal

-- what is left gives the rest of the script
abbrev pub invariant-loop-this : goal.invariant-loop-this
invariant-loop-this l = (script_from l.line l.reading l.rest ≡ script_from 1 nothing_read l.text) × (l.line + length l.rest ≤ length l.text + 1)

abbrev pub decreases-loop-this : goal.decreases-loop-this
decreases-loop-this l = length l.rest
