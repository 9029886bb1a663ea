use Rattle.std.proofs.Common.{◌≡◌, length}
use Rattle.ax_tokens.specs.Outside.{from}
use Rattle.ax_tokens.proofs.plain.from.Given as goal

abbrev pub invariant-loop-rest : goal.invariant-loop-rest
invariant-loop-rest l = from l.index l.rest ≡ from l.index l.gaps

abbrev pub decreases-loop-rest : goal.decreases-loop-rest
decreases-loop-rest l = length l.rest
