use Rattle.std.proofs.Common.{length}
use Rattle.ax_values.specs.Grammar.{u32_in}
use Rattle.ax_values.proofs.Pieces.{IsReadTo}
use Rattle.ax_tokens.proofs.text.read_gaps.Given as goal

abbrev pub invariant-loop-first : goal.invariant-loop-first
invariant-loop-first l = IsReadTo u32_in l.gaps.items l.rest l.text

abbrev pub decreases-loop-first : goal.decreases-loop-first
decreases-loop-first l = length l.rest
