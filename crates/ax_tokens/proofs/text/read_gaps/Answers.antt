use Rattle.std.proofs.Common.{sym}
use Rattle.ax_values.specs.Grammar.{u32_in}
use Rattle.ax_values.proofs.Pieces.{piece-read, piece-unread, last-read, last-unread}
use Rattle.ax_tokens.proofs.text.read_gaps.Goals as goal

pub returns-in_default-read_u32 : goal.returns-in_default-read_u32
returns-in_default-read_u32 c =
    piece-unread u32_in c.loop-first.gaps.items c.loop-first.rest.now c.args.text.now _ c.loop-first.invariant (sym c.in-Some.ensures.value) (sym c.in_default-read_u32.ensures.value)

pub loop-first-preserved : goal.loop-first-preserved
loop-first-preserved c =
    rw c.in_ok-push.ensures.items
    (piece-read u32_in c.loop-first.gaps.items c.in-Some-read_u32.gap c.loop-first.rest.now c.args.text.now _ c.loop-first.invariant (sym c.in-Some.ensures.value) (sym c.in-Some-read_u32.ensures.value))

pub returns-in_default-read_u32-2 : goal.returns-in_default-read_u32-2
returns-in_default-read_u32-2 c =
    last-unread u32_in c.loop-first.gaps.items c.loop-first.rest.now c.args.text.now c.loop-first.invariant (sym c.in_default.ensures.value) (sym c.in_default-read_u32-2.ensures.value)

pub returns : goal.returns
returns c =
    rw c.in_ok-push-2.ensures.items
    (last-read u32_in c.loop-first.gaps.items c.in-Some-read_u32-2.gap c.loop-first.rest.now c.args.text.now c.loop-first.invariant (sym c.in_default.ensures.value) (sym c.in-Some-read_u32-2.ensures.value))
