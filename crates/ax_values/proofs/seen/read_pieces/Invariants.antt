use Rattle.std.proofs.Common.{length}
use Rattle.ax_values.specs.Readers.{mark_in}
use Rattle.ax_values.proofs.Pieces.{IsReadTo}
use Rattle.ax_values.proofs.seen.read_pieces.Given as goal

abbrev pub invariant-loop-first : goal.invariant-loop-first
invariant-loop-first l = IsReadTo mark_in l.marks.items l.rest l.text

abbrev pub decreases-loop-first : goal.decreases-loop-first
decreases-loop-first l = length l.rest
