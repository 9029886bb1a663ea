use Rattle.std.proofs.Common.{◌∙◌, ◌≡◌, ap, not}
use Rattle.std.specs.Prelude.{filter}
use Rattle.ax_tokens.specs.Plain.{has, union, is_canonical_plain}
use Rattle.ax_tokens.proofs.Gaps.{with-is, canonical-union}
use Rattle.ax_tokens.proofs.plain.Plain.with_shorter.Goals as goal

is : (c : goal.After-of) → record { next = c.next.result; gaps = c.of.result } ≡ union c.args.self.now c.args.shorter.now
is c =
    with-is c.args.self.now c.args.shorter.now c.next.result c.of.result c.next.ensures.canonical c.requires c.next.ensures.value
    (c.of.ensures ∙ c.in_ok-gaps.ensures ∙ ap (filter (λ g. not (has c.args.shorter.now g))) c.gaps.ensures.value)

pub invariant_of-result : goal.invariant_of-result
invariant_of-result c = ap is_canonical_plain (is c) ∙ canonical-union c.args.self.now c.args.shorter.now

pub returns : goal.returns
returns c = record { value = is c }
