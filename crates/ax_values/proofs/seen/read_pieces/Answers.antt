use Rattle.std.proofs.Common.{sym}
use Rattle.ax_values.specs.Readers.{mark_in}
use Rattle.ax_values.proofs.Pieces.{piece-read, piece-unread, last-read, last-unread}
use Rattle.ax_values.proofs.seen.read_pieces.Goals as goal

pub returns-in_default-read : goal.returns-in_default-read
returns-in_default-read c =
    piece-unread mark_in c.loop-first.marks.items c.loop-first.rest.now c.args.text.now _ c.loop-first.invariant (sym c.in-Some.ensures.value) (sym c.in_default-read.ensures.value)

pub loop-first-preserved : goal.loop-first-preserved
loop-first-preserved c =
    rw c.in_ok-push.ensures.items
    (piece-read mark_in c.loop-first.marks.items c.in-Some-read.mark c.loop-first.rest.now c.args.text.now _ c.loop-first.invariant (sym c.in-Some.ensures.value) (sym c.in-Some-read.ensures.value))

pub returns-in_default-read-2 : goal.returns-in_default-read-2
returns-in_default-read-2 c =
    last-unread mark_in c.loop-first.marks.items c.loop-first.rest.now c.args.text.now c.loop-first.invariant (sym c.in_default.ensures.value) (sym c.in_default-read-2.ensures.value)

pub returns : goal.returns
returns c =
    rw c.in_ok-push-2.ensures.items
    (last-read mark_in c.loop-first.marks.items c.in-Some-read-2.mark c.loop-first.rest.now c.args.text.now c.loop-first.invariant (sym c.in_default.ensures.value) (sym c.in-Some-read-2.ensures.value))
