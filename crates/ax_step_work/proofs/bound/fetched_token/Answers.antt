use Rattle.std.proofs.Common.{◌≡◌, ℕ, ◌<◌, ◌≤◌, length, sym, ap, ◌∙◌, subst, arith}
use Rattle.std.specs.Option.{option_copied}
use Rattle.ax_tokens.specs.Nodes.{token_of}
use Rattle.ax_tokens.specs.Tokens.{collapsed, gaps_fit}
use Rattle.ax_step_work.specs.Working.{fetch_limit, fetched_token}
use Rattle.ax_step_work.proofs.Bounds.{limit-within, ok-map, token-is}
use Rattle.ax_step_work.proofs.Halving.{over-zero}
use Rattle.ax_step_work.proofs.bound.fetched_token.Goals as goal

pub bound_of-bound-requires-clause-limit : goal.bound_of-bound-requires-clause-limit
bound_of-bound-requires-clause-limit c =
    subst (λ n. n ≤ length c.args.cells.now) (sym c.fetch_limit-limit.ensures) (limit-within (option_copied c.args.whole) c.args.cells.now)

pub advance-requires : goal.advance-requires
advance-requires c =
    let low : c.bound_of-bound.result ≤ c.fetch_limit-limit.result = c.bound_of-bound.ensures.within in
    let limit : c.fetch_limit-limit.result ≡ fetch_limit (option_copied c.args.whole) c.args.cells.now = c.fetch_limit-limit.ensures in
    let most : fetch_limit (option_copied c.args.whole) c.args.cells.now ≤ length c.args.cells.now = limit-within (option_copied c.args.whole) c.args.cells.now in
    omega (arith, low, limit, most)

pub returns-then-gaps_fit : goal.returns-then-gaps_fit
returns-then-gaps_fit c =
    ok-map c.collapse.result (λ less. token_of less ≡ collapsed (token_of c.in_ok-new.new)) (λ new. token_of new ≡ fetched_token (option_copied c.args.whole) c.args.segment (token_of c.args.token.now) c.args.cells.now c.args.most)
    (λ less e. token-is (option_copied c.args.whole) c.args.segment (token_of c.args.token.now) c.args.cells.now c.args.most c.bound_of-bound.result c.bound_of-bound.result (token_of c.in_ok-new.new) (token_of less) (omega arith)
    (subst (λ (n : ℕ). c.bound_of-bound.result ≤ n) c.fetch_limit-limit.ensures c.bound_of-bound.ensures.within) c.bound_of-bound.ensures.few
    (λ b lt le. c.bound_of-bound.ensures.above b lt (subst (λ (n : ℕ). b ≤ n) (sym c.fetch_limit-limit.ensures) le))
    (sym (ap gaps_fit c.in_ok-new.ensures.value) ∙ sym c.gaps_fit.ensures ∙ c.if-gaps_fit.true) (λ b lt le. absurd (omega arith)) c.in_ok-new.ensures.value e)
    c.collapse.ensures.value

pub bound_by_halves-requires-clause-some : goal.bound_by_halves-requires-clause-some
bound_by_halves-requires-clause-some c =
    over-zero c.args.cells.now (token_of c.args.token.now) c.bound_of-bound.result c.facts.ensures.canonical c.requires.fits (sym (ap gaps_fit c.in_ok-new.ensures.value) ∙ sym c.gaps_fit.ensures ∙ c.if-gaps_fit.false)

pub bound_by_halves-requires-clause-high : goal.bound_by_halves-requires-clause-high
bound_by_halves-requires-clause-high c =
    let low : c.bound_of-bound.result ≤ c.fetch_limit-limit.result = c.bound_of-bound.ensures.within in
    let limit : c.fetch_limit-limit.result ≡ fetch_limit (option_copied c.args.whole) c.args.cells.now = c.fetch_limit-limit.ensures in
    let most : fetch_limit (option_copied c.args.whole) c.args.cells.now ≤ length c.args.cells.now = limit-within (option_copied c.args.whole) c.args.cells.now in
    omega (arith, low, limit, most)

pub advance-requires-2 : goal.advance-requires-2
advance-requires-2 c =
    let below : c.in_ok-bound.bound < c.bound_of-bound.result = c.in_ok-bound.ensures.below in
    let low : c.bound_of-bound.result ≤ c.fetch_limit-limit.result = c.bound_of-bound.ensures.within in
    let limit : c.fetch_limit-limit.result ≡ fetch_limit (option_copied c.args.whole) c.args.cells.now = c.fetch_limit-limit.ensures in
    let most : fetch_limit (option_copied c.args.whole) c.args.cells.now ≤ length c.args.cells.now = limit-within (option_copied c.args.whole) c.args.cells.now in
    omega (arith, below, low, limit, most)

pub returns : goal.returns
returns c =
    ok-map c.collapse-2.result (λ less. token_of less ≡ collapsed (token_of c.in_ok-advance.field-0)) (λ new. token_of new ≡ fetched_token (option_copied c.args.whole) c.args.segment (token_of c.args.token.now) c.args.cells.now c.args.most)
    (λ less e. token-is (option_copied c.args.whole) c.args.segment (token_of c.args.token.now) c.args.cells.now c.args.most c.in_ok-bound.bound c.bound_of-bound.result (token_of c.in_ok-advance.field-0) (token_of less)
    (let below : c.in_ok-bound.bound < c.bound_of-bound.result = c.in_ok-bound.ensures.below in omega (arith, below))
    (subst (λ (n : ℕ). c.bound_of-bound.result ≤ n) c.fetch_limit-limit.ensures c.bound_of-bound.ensures.within) c.bound_of-bound.ensures.few
    (λ b lt le. c.bound_of-bound.ensures.above b lt (subst (λ (n : ℕ). b ≤ n) (sym c.fetch_limit-limit.ensures) le))
    c.in_ok-bound.ensures.fits c.in_ok-bound.ensures.over c.in_ok-advance.ensures.value e)
    c.collapse-2.ensures.value
