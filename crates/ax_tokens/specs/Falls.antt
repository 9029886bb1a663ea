-- Each half has fewer nodes than the token.
use Rattle.std.specs.Prelude.{◌≤◌, max}
use Rattle.std.proofs.Common.{arith}
use Rattle.ax_tokens.specs.Nodes.{token_of, size_of}
use Rattle.ax_tokens.specs.declared.token.Token.{Token as Node}
use Rattle.ax_tokens.specs.declared.token.Half.TheDeep.{deep-Token}

pub falls : (t : Node) → max (deep-Token t) 0 ≤ size_of (token_of t)
falls (Node.Plain p) = omega arith
falls (Node.Merged l u) = omega arith
falls (Node.Replay r c) = omega arith
