use Rattle.std.proofs.Common.{◌≡◌, ◌<◌, ◌≤◌, ◌+◌, ◌∷◌, [], vec_capacity, length, set, sym, ap, ◌∙◌, subst, arith}
use Rattle.std.specs.Prelude.{insert}
use Rattle.ax_letters.specs.Letters.{enqueue, sequence_of}
use Rattle.ax_letters.specs.Room.{HasName, LacksName, IsStored, IsTakenOut, TakesRoom, blank, queue_of, room_of, room_under}
use Rattle.ax_letters.specs.Answers.{enqueue_refusal}
use Rattle.ax_letters.proofs.Rooms.{room_in}
use Rattle.ax_letters.proofs.Enqueued.{room-there, put-there, takes-put, stored-put, room-not-there, put-new, takes-put-new, stored-put-new}
use Rattle.ax_letters.proofs.queue.Queue.put.Goals as goal

pub put-requires : goal.put-requires
put-requires c =
    let here = rw c.deref.ensures.value at c.in-Ok.ensures in
    let ks = c.self.inside.sequences.items in
    let room : 0 < room_of (sequence_of c.self.inside.whole c.args.letter) (room_in ks c.self.inside.prepared.items) =
    subst (λ v. 0 < room_of (sequence_of v.whole c.args.letter) v.room) (sym c.self.view_is) c.requires.room in
    subst (λ m. 0 < m)
    (room-there (sequence_of c.self.inside.whole c.args.letter) ks c.self.inside.prepared.items c.in-Ok.place (subst (λ n. HasName n ks c.in-Ok.place) c.sequence_in-name.ensures here) c.self.invariant.order c.index_mut.result.now c.index_mut.ensures.value)
    room

pub invariant_of-self : goal.invariant_of-self
invariant_of-self c =
    let here = rw c.deref.ensures.value at c.in-Ok.ensures in
    let ks = c.self.inside.sequences.items in
    stored-put (sequence_of c.self.inside.whole c.args.letter) ks c.self.inside.prepared.items c.in-Ok.place (subst (λ n. HasName n ks c.in-Ok.place) c.sequence_in-name.ensures here) c.self.invariant.order
    c.args.letter c.index_mut.result.now c.put.new.self c.index_mut.ensures.value c.put.ensures c.self.inside.sequences.cap c.self.invariant
    (ap (λ v. enqueue_refusal v.whole c.args.letter v.sequences) c.self.view_is ∙ c.requires.fits)

pub returns-in-Ok-clause-sequences : goal.returns-in-Ok-clause-sequences
returns-in-Ok-clause-sequences c =
    let here = rw c.deref.ensures.value at c.in-Ok.ensures in
    let ks = c.self.inside.sequences.items in
    put-there (sequence_of c.self.inside.whole c.args.letter) ks c.self.inside.prepared.items c.in-Ok.place (subst (λ n. HasName n ks c.in-Ok.place) c.sequence_in-name.ensures here) c.self.invariant.order
    c.args.letter c.index_mut.result.now c.put.new.self c.index_mut.ensures.value c.put.ensures
    ∙ ap (λ v. enqueue v.whole c.args.letter v.sequences) c.self.view_is

pub returns-in-Ok-clause-room : goal.returns-in-Ok-clause-room
returns-in-Ok-clause-room c =
    let here = rw c.deref.ensures.value at c.in-Ok.ensures in
    let ks = c.self.inside.sequences.items in
    subst (λ v. TakesRoom v.room (room_in (set ks c.in-Ok.place c.put.new.self) c.self.inside.prepared.items) (sequence_of v.whole c.args.letter ∷ [])) c.self.view_is
    (takes-put (sequence_of c.self.inside.whole c.args.letter) ks c.self.inside.prepared.items c.in-Ok.place (subst (λ n. HasName n ks c.in-Ok.place) c.sequence_in-name.ensures here) c.self.invariant.order
    c.args.letter c.index_mut.result.now c.put.new.self c.index_mut.ensures.value c.put.ensures)

pub take_prepared-sequence-requires-clause-room : goal.take_prepared-sequence-requires-clause-room
take_prepared-sequence-requires-clause-room c =
    let none = rw c.deref.ensures.value at c.in-Err.ensures in
    let ks = c.self.inside.sequences.items in
    let ps = c.self.inside.prepared.items in
    let room : 0 < room_of (sequence_of c.self.inside.whole c.args.letter) (room_in ks ps) =
    subst (λ v. 0 < room_of (sequence_of v.whole c.args.letter) v.room) (sym c.self.view_is) c.requires.room in
    subst (λ n. 0 < room_under n ps) (sym c.sequence_in-name.ensures)
    (subst (λ m. 0 < m) (room-not-there (sequence_of c.self.inside.whole c.args.letter) ks ps c.in-Err.place (subst (λ n. LacksName n ks c.in-Err.place) c.sequence_in-name.ensures none)) room)

pub invariant_of-self-in-Err : goal.invariant_of-self-in-Err
invariant_of-self-in-Err c =
    let none = rw c.deref.ensures.value at c.in-Err.ensures in
    let ks = c.self.inside.sequences.items in
    let ps = c.self.inside.prepared.items in
    let new = c.take_prepared-sequence.new.prepared.items in
    let x = c.take_prepared-sequence.result in
    let n = sequence_of c.self.inside.whole c.args.letter in
    let placed : length ks + length ps ≤ c.self.inside.sequences.cap = c.self.invariant.placed in
    let len : length new + 1 ≡ length ps = c.take_prepared-sequence.ensures.len in
    subst (λ ks. IsStored ks new (vec_capacity c.insert_reserved.new.sequences)) (sym c.insert_reserved.ensures.items)
    (subst (λ places. IsStored (insert ks c.in-Err.place c.put-in-Err.new.self) new places) (sym c.insert_reserved.ensures.capacity)
    (stored-put-new n ks ps c.in-Err.place (subst (λ n. LacksName n ks c.in-Err.place) c.sequence_in-name.ensures none) c.args.letter x c.put-in-Err.new.self new
    (subst (λ n. IsTakenOut n ps new x.room) c.sequence_in-name.ensures c.take_prepared-sequence.ensures.rest) (c.take_prepared-sequence.ensures.sequence ∙ ap blank c.sequence_in-name.ensures) c.put-in-Err.ensures
    c.self.inside.sequences.cap c.self.inside.sequences.cap c.self.invariant
    (ap (λ v. enqueue_refusal v.whole c.args.letter v.sequences) c.self.view_is ∙ c.requires.fits) (omega (arith, placed, len))))

pub returns-in-Err-clause-sequences : goal.returns-in-Err-clause-sequences
returns-in-Err-clause-sequences c =
    let none = rw c.deref.ensures.value at c.in-Err.ensures in
    let ks = c.self.inside.sequences.items in
    let ps = c.self.inside.prepared.items in
    let new = c.take_prepared-sequence.new.prepared.items in
    let x = c.take_prepared-sequence.result in
    let n = sequence_of c.self.inside.whole c.args.letter in
    ap queue_of c.insert_reserved.ensures.items
    ∙ put-new n ks ps c.in-Err.place (subst (λ n. LacksName n ks c.in-Err.place) c.sequence_in-name.ensures none) c.args.letter x c.put-in-Err.new.self new
    (subst (λ n. IsTakenOut n ps new x.room) c.sequence_in-name.ensures c.take_prepared-sequence.ensures.rest) (c.take_prepared-sequence.ensures.sequence ∙ ap blank c.sequence_in-name.ensures) c.put-in-Err.ensures
    ∙ ap (λ v. enqueue v.whole c.args.letter v.sequences) c.self.view_is

pub returns-in-Err-clause-room : goal.returns-in-Err-clause-room
returns-in-Err-clause-room c =
    let none = rw c.deref.ensures.value at c.in-Err.ensures in
    let ks = c.self.inside.sequences.items in
    let ps = c.self.inside.prepared.items in
    let new = c.take_prepared-sequence.new.prepared.items in
    let x = c.take_prepared-sequence.result in
    let n = sequence_of c.self.inside.whole c.args.letter in
    subst (λ v. TakesRoom v.room (room_in c.insert_reserved.new.sequences.items new) (sequence_of v.whole c.args.letter ∷ [])) c.self.view_is
    (subst (λ there. TakesRoom (room_in ks ps) (room_in there new) (n ∷ [])) (sym c.insert_reserved.ensures.items)
    (takes-put-new n ks ps c.in-Err.place (subst (λ n. LacksName n ks c.in-Err.place) c.sequence_in-name.ensures none) c.args.letter x c.put-in-Err.new.self new
    (subst (λ n. IsTakenOut n ps new x.room) c.sequence_in-name.ensures c.take_prepared-sequence.ensures.rest) (c.take_prepared-sequence.ensures.sequence ∙ ap blank c.sequence_in-name.ensures) c.put-in-Err.ensures))
