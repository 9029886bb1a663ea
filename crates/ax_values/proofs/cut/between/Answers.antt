use Rattle.std.proofs.Common.{◌≡◌, ◌-◌, ◌==◌, ◌&&◌, false, get_or, length, take, drop, sym, ap, ◌∙◌, arith}
use Rattle.std.proofs.lemmas.Bool.Decides.{nat_tests}
use Rattle.ax_values.specs.Grammar.{when}
use Rattle.ax_laws.proofs.Tests.{and-true}
use Rattle.ax_values.proofs.Options.{when-true}
use Rattle.ax_values.proofs.Cuts.{between-ends}
use Rattle.ax_values.proofs.cut.between.Goals.{else-begin-first-via-then-begin-first+else-end-last, else-begin-first-via-else-begin-first}
use Rattle.ax_values.proofs.cut.between.Goals as goal

pub returns-then-end-last-clause-value : goal.returns-then-end-last-clause-value
returns-then-end-last-clause-value c =
    let w = c.args.text.now in
    let first = get_or w 0 0 == c.args.first in
    let last = get_or w (length w - 1) 0 == c.args.last in
    sym (between-ends c.args.first c.args.last w c.in-len2-up.len_at_least
    ∙ when-true (first && last) (take (length w - 1 - 1) (drop 1 w)) (and-true first last (grind (arith, nat_tests)) (grind (arith, nat_tests))))

pub returns-else-begin-first-clause-value : goal.returns-else-begin-first-clause-value
returns-else-begin-first-clause-value c =
    let w = c.args.text.now in
    let ends = (get_or w 0 0 == c.args.first) && (get_or w (length w - 1) 0 == c.args.last) in
    let apart : ends ≡ false = elim c.else-begin-first.branch [
      | else-begin-first-via-then-begin-first+else-end-last v ↦ grind (arith, nat_tests)
      | else-begin-first-via-else-begin-first v ↦ grind (arith, nat_tests)
    ] in
    sym (between-ends c.args.first c.args.last w c.in-len2-up.len_at_least ∙ ap (λ b. when b (take (length w - 1 - 1) (drop 1 w))) apart)
