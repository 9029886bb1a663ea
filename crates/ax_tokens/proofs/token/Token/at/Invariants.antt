use Rattle.std.proofs.Common.{◌≡◌, ◌+◌, ◌/◌}
use Rattle.ax_tokens.specs.Nodes.{token_of, size_of}
use Rattle.ax_tokens.proofs.Bits.{half_by}
use Rattle.ax_tokens.proofs.token.Token.at.Given as goal

-- what is left of the way leads where the whole way does
abbrev pub invariant-loop-token : goal.invariant-loop-token
invariant-loop-token l = half_by (token_of l.token) l.bits ≡ half_by (token_of l.self) (l.hash / (l.fn.segment.mask + 1))

abbrev pub decreases-loop-token : goal.decreases-loop-token
decreases-loop-token l = size_of (token_of l.token)
