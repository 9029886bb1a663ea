use Rattle.std.proofs.Common.{◌∙◌, ◌≡◌, ℕ, refl, sym}
use Rattle.ax_tokens.specs.Nodes.{token_of}
use Rattle.ax_tokens.specs.declared.token.Token.{Token as Node}
use Rattle.ax_tokens.specs.declared.token.Half.{Half}
use Rattle.ax_tokens.proofs.Bits.{half_by, half-by}
use Rattle.ax_tokens.proofs.token.Token.at.Goals as goal

leaf : (t : Node) (bits : ℕ) → ((l u : Half) → t ≡ Node.Merged l u → ⊥) → token_of t ≡ half_by (token_of t) bits
leaf (Node.Plain p) bits h = refl
leaf (Node.Merged l u) bits h = absurd (h l u refl)
leaf (Node.Replay r c) bits h = refl

pub returns : goal.returns
returns c = record {
  value = leaf c.loop-token.token.now c.loop-token.bits c.in_default.not-Merged ∙ c.loop-token.invariant ∙ sym (half-by (token_of c.args.self.now) c.args.segment.mask c.args.hash);
}
