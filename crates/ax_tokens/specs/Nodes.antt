-- What a token of the program is.
use Rattle.std.specs.Prelude.{ℕ, ◌+◌}
use Rattle.ax_tokens.specs.Tokens.{Token, plain, merged, replay}
use Rattle.ax_tokens.specs.declared.token.Token.{Token as Node}

-- one level: the halves are seen as tokens
abbrev pub token_of : Node → Token
token_of (Node.Plain p) = plain p
token_of (Node.Merged l u) = merged l u
token_of (Node.Replay r c) = replay r c

-- how many nodes it has
abbrev pub size_of : Token → ℕ
size_of (plain p) = 1
size_of (merged l u) = size_of l + size_of u + 1
size_of (replay r c) = 1
