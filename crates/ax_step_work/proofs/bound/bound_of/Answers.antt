use Rattle.std.proofs.Common.{◌<◌, ◌≤◌, sym, ◌∙◌, subst, arith}
use Rattle.std.specs.Option.{option_copied}
use Rattle.ax_tokens.specs.Nodes.{token_of}
use Rattle.ax_step_work.proofs.Bounds.{count_below, counted-start, counted-in, counted-out, counted-above, counted-few}
use Rattle.ax_step_work.proofs.bound.bound_of.Goals as goal
use Rattle.ax_step_work.proofs.bound.bound_of.Goals.{then-has_new+else-count-most, else-has_new}

pub loop-index-init : goal.loop-index-init
loop-index-init c = (omega arith, counted-start (option_copied c.args.whole) c.args.segment (token_of c.args.token.now) c.args.cells.now c.next_open-index.result c.next_open-index.ensures.between)

pub returns-then-count-most-clause-above : goal.returns-then-count-most-clause-above
returns-then-count-most-clause-above c = λ b over within.
    subst (λ n. n < count_below (option_copied c.args.whole) c.args.segment (token_of c.args.token.now) c.args.cells.now b) c.if-count-most.true
    (counted-above (option_copied c.args.whole) c.args.segment (token_of c.args.token.now) c.args.cells.now c.loop-index.count c.loop-index.index c.index-cells-index.result
    (omega (arith, c.loop-index-test.true, c.requires.limit)) c.index-cells-index.is c.loop-index.invariant.1 (sym c.has_new.ensures ∙ c.if-has_new.true) b over)

pub loop-index-preserved : goal.loop-index-preserved
loop-index-preserved c = elim c.if-has_new.branch [
  | then-has_new+else-count-most w ↦ (
    (let le : c.loop-index.count ≤ c.args.most = c.loop-index.invariant.0 in omega (arith, le, w.count-is, w.if-count-most.false)),
    w.count-is
        ∙ counted-in (option_copied c.args.whole) c.args.segment (token_of c.args.token.now) c.args.cells.now c.loop-index.count c.loop-index.index c.next_open-index-in-loop-index.result c.index-cells-index.result
        (omega (arith, c.loop-index-test.true, c.requires.limit)) c.index-cells-index.is c.loop-index.invariant.1 c.next_open-index-in-loop-index.ensures.from c.next_open-index-in-loop-index.ensures.between (sym c.has_new.ensures ∙ w.if-has_new.true),
  )
  | else-has_new w ↦ (
    (let le : c.loop-index.count ≤ c.args.most = c.loop-index.invariant.0 in omega (arith, le, w.count-is)),
    w.count-is
        ∙ counted-out (option_copied c.args.whole) c.args.segment (token_of c.args.token.now) c.args.cells.now c.loop-index.count c.loop-index.index c.next_open-index-in-loop-index.result c.index-cells-index.result
        (omega (arith, c.loop-index-test.true, c.requires.limit)) c.index-cells-index.is c.loop-index.invariant.1 c.next_open-index-in-loop-index.ensures.from c.next_open-index-in-loop-index.ensures.between (sym c.has_new.ensures ∙ w.if-has_new.false),
  )
]

pub returns-clause-few : goal.returns-clause-few
returns-clause-few c =
    counted-few (option_copied c.args.whole) c.args.segment (token_of c.args.token.now) c.args.cells.now c.loop-index.count c.args.most c.args.limit c.loop-index.index
    (omega (arith, c.loop-index-test.false)) c.loop-index.invariant.1 c.loop-index.invariant.0
