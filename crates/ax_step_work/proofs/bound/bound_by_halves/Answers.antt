use Rattle.std.proofs.Common.{◌+◌, ◌-◌, ◌/◌, sym, ◌∙◌, arith}
use Rattle.ax_tokens.specs.Nodes.{token_of}
use Rattle.ax_step_work.proofs.Halving.{halved-start, halved-high}
use Rattle.ax_step_work.proofs.bound.bound_by_halves.Goals as goal

pub loop-low-init : goal.loop-low-init
loop-low-init c = halved-start c.args.cells.now (token_of c.args.token.now) c.args.high c.facts.ensures.canonical c.requires.fits c.requires.some c.requires.over

pub loop-low-preserved : goal.loop-low-preserved
loop-low-preserved c =
    halved-high c.args.cells.now (token_of c.args.token.now) c.args.high c.loop-low.low c.loop-low.high (c.loop-low.low + (c.loop-low.high - c.loop-low.low) / 2) c.facts.ensures.canonical c.requires.fits c.loop-low.invariant
    (omega (arith, c.loop-low-test.true)) (omega (arith, c.loop-low-test.true)) (sym c.in_ok-fits_to.ensures ∙ c.if-branch.false)
