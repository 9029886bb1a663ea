use Rattle.std.proofs.Common.{sym, ap, ◌∙◌, subst}
use Rattle.ax_letters.specs.Letters.{sequence_of}
use Rattle.ax_letters.specs.Room.{HasName, LacksName, room_of, room_under}
use Rattle.ax_letters.proofs.Changed.{read-here}
use Rattle.ax_letters.proofs.Rooms.{room-here, room-none}
use Rattle.ax_letters.proofs.Enqueued.{room-there, room-not-there}
use Rattle.ax_letters.proofs.queue.Queue.room_for.Goals as goal

pub returns-in-Ok : goal.returns-in-Ok
returns-in-Ok c =
    let here = rw c.deref.ensures.value at c.in-Ok.ensures in
    let ks = c.self.inside.sequences.items in
    let n = sequence_of c.self.inside.whole c.args.letter.now in
    c.room.ensures
    ∙ sym (room-there n ks c.self.inside.prepared.items c.in-Ok.place (subst (λ n. HasName n ks c.in-Ok.place) c.sequence_in-name.ensures here) c.self.invariant.order c.index.result.now c.index.ensures)
    ∙ ap (λ v. room_of (sequence_of v.whole c.args.letter.now) v.room) c.self.view_is

pub returns-in-Ok-place_of : goal.returns-in-Ok-place_of
returns-in-Ok-place_of c =
    let none = rw c.deref.ensures.value at c.in-Err.ensures in
    let here = rw c.deref-in-Err.ensures.value at c.in-Ok-place_of.ensures in
    let ks = c.self.inside.sequences.items in
    let ps = c.self.inside.prepared.items in
    let n = sequence_of c.self.inside.whole c.args.letter.now in
    let f : HasName n ps c.in-Ok-place_of.place = subst (λ n. HasName n ps c.in-Ok-place_of.place) c.sequence_in-name.ensures here in
    c.room-in-Ok-place_of.ensures ∙ ap (λ k. k.room) (read-here n ps c.in-Ok-place_of.place f c.index-in-Ok-place_of.result.now c.index-in-Ok-place_of.ensures)
    ∙ sym (ap (λ n. room_under n ps) (sym f.named) ∙ room-here ps c.in-Ok-place_of.place f.kept 0 c.self.invariant.rising f.here)
    ∙ sym (room-not-there n ks ps c.in-Err.field-0 (subst (λ n. LacksName n ks c.in-Err.field-0) c.sequence_in-name.ensures none))
    ∙ ap (λ v. room_of (sequence_of v.whole c.args.letter.now) v.room) c.self.view_is

pub returns-in-Err-place_of : goal.returns-in-Err-place_of
returns-in-Err-place_of c =
    let none = rw c.deref.ensures.value at c.in-Err.ensures in
    let no-room = rw c.deref-in-Err.ensures.value at c.in-Err-place_of.ensures in
    let ks = c.self.inside.sequences.items in
    let ps = c.self.inside.prepared.items in
    let n = sequence_of c.self.inside.whole c.args.letter.now in
    sym (room-not-there n ks ps c.in-Err.field-0 (subst (λ n. LacksName n ks c.in-Err.field-0) c.sequence_in-name.ensures none)
    ∙ room-none n ps c.in-Err-place_of.field-0 0 (subst (λ n. LacksName n ps c.in-Err-place_of.field-0) c.sequence_in-name.ensures no-room))
    ∙ ap (λ v. room_of (sequence_of v.whole c.args.letter.now) v.room) c.self.view_is
