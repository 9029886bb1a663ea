use Rattle.std.proofs.Common.{◌∙◌, ◌≡◌, ◌||◌, ap, sym, arith, true, false, Bool, max, ◌≤◌}
use Rattle.ax_tokens.specs.Plain.{has, settles, plain_of}
use Rattle.ax_tokens.proofs.Gaps.{walk-starts, walk-covers, walk-leaves, walk-ends, canonical-as, settled-past}
use Rattle.ax_tokens.proofs.plain.Plain.covered_to.Goals as goal
use Rattle.ax_tokens.proofs.plain.Plain.covered_to.Goals.{then-is_settled, else-is_settled+in_ok-push}

pub loop-index-init : goal.loop-index-init
loop-index-init c = record {
  walked =
      walk-starts (settles c.args.cells.now c.args.to) c.args.self.now c.next-index.result c.next-next.result c.len-kept.result c.args.gaps.items
      c.next-next.ensures.canonical c.requires.gaps c.next-index.ensures.value c.next-next.ensures.value (omega (arith, c.args.gaps.ok.0));
  bound = omega (arith, c.next-index.ensures.value);
}

test_at : (c : goal.Joined-is_settled) (b : Bool) → c.is_settled.result ≡ b → (has c.args.self.now c.loop-index.index || settles c.args.cells.now c.args.to c.loop-index.index) ≡ b
test_at c b e =
    let low : c.args.self.now.next ≤ c.loop-index.index = omega (arith, c.next-index.ensures.value, c.loop-index.auto.index) in
    settled-past c.args.cells.now c.args.to c.args.self.now c.loop-index.index low c.loop-index-test.true ∙ sym c.is_settled.ensures ∙ e

pub loop-index-preserved : goal.loop-index-preserved
loop-index-preserved c = record {
  walked =
      elim c.if-is_settled.branch [ then-is_settled w ↦ walk-covers _ _ _ _ _ _ _ _ _ c.loop-index.invariant.walked (test_at c true w.if-is_settled.true) (omega arith) (omega (arith, w.next-is)) (omega (arith, w.kept-is, c.loop-index.gaps.ok.0)) (ap (λ v. v.items) w.gaps-is) | else-is_settled+in_ok-push w ↦ walk-leaves _ _ _ _ _ _ _ _ _ c.loop-index.invariant.walked (test_at c false w.if-is_settled.false) (omega arith) w.next-is w.kept-is (ap (λ v. v.items) w.gaps-is ∙ w.in_ok-push.ensures.items) ];
  bound = omega arith;
}

is : (c : goal.After-of) → record { next = c.loop-index.next; gaps = c.of.result } ≡ plain_of (λ i. has c.args.self.now i || settles c.args.cells.now c.args.to i) c.loop-index.index
is c = walk-ends _ _ _ _ _ _ c.loop-index.invariant.walked (c.of.ensures ∙ c.truncate.ensures.items)

pub invariant_of-result : goal.invariant_of-result
invariant_of-result c = canonical-as _ (λ i. has c.args.self.now i || settles c.args.cells.now c.args.to i) c.loop-index.index (is c)

pub returns : goal.returns
returns c =
    let end : c.loop-index.index ≡ max c.args.self.now.next c.args.to = omega (arith, c.next-index.ensures.value, c.loop-index.auto.index, c.loop-index.invariant.bound) in
    record { value = is c ∙ ap (plain_of (λ i. has c.args.self.now i || settles c.args.cells.now c.args.to i)) end }
