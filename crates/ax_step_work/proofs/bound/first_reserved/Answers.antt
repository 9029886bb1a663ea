use Rattle.std.proofs.Common.{sym, ◌∙◌, arith}
use Rattle.ax_tokens.specs.Nodes.{token_of}
use Rattle.ax_step_work.proofs.Bounds.{reserved-at, reserved-none, settled-start, settled-next}
use Rattle.ax_step_work.proofs.bound.first_reserved.Goals as goal

pub loop-index-init : goal.loop-index-init
loop-index-init c = settled-start (token_of c.args.token.now) c.args.cells.now c.next_open-index.result c.requires.settled c.next_open-index.ensures.between

pub returns-then-is_reserved : goal.returns-then-is_reserved
returns-then-is_reserved c =
    sym (reserved-at c.args.cells.now c.loop-index.index c.index-cells-index.result (omega (arith, c.loop-index-test.true)) c.index-cells-index.is (sym c.is_reserved.ensures ∙ c.if-is_reserved.true) c.loop-index.invariant)

pub loop-index-preserved : goal.loop-index-preserved
loop-index-preserved c =
    settled-next (token_of c.args.token.now) c.args.cells.now c.loop-index.index c.next_open-index-in-loop-index.result c.index-cells-index.result c.requires.settled (omega (arith, c.loop-index-test.true)) c.index-cells-index.is
    (sym c.is_reserved.ensures ∙ c.if-is_reserved.false) c.loop-index.invariant c.next_open-index-in-loop-index.ensures.between

pub returns : goal.returns
returns c = sym (reserved-none c.args.cells.now (λ j lt. c.loop-index.invariant j (omega (arith, c.loop-index-test.false, lt))))
