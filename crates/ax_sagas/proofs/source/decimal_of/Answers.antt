use Rattle.std.proofs.Common.{◌≡◌, ◌≤◌, IsTrue, ℕ, List, ap, sym, length, subst, arith, rules}
use Rattle.std.specs.Fmt.{signed_decimal}
use Rattle.ax_values.specs.Grammar.{is_content}
use Rattle.ax_sagas.proofs.TextLaws.{content-int}
use Rattle.ax_sagas.proofs.source.decimal_of.Goals as goal

pub returns-clause-content : goal.returns-clause-content
returns-clause-content c =
    let text : c.as_bytes.result.now ≡ signed_decimal c.args.int = search rules in
    let short : length (signed_decimal c.args.int) ≤ 40 = omega (arith, ap length text, ap length c.as_bytes.ensures.value, c.format.ensures.short) in
    subst (λ (bytes : List ℕ). IsTrue (is_content bytes)) (sym text) (content-int c.args.int c.ranges.int.sfits short)
