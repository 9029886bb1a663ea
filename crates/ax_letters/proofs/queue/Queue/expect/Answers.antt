use Rattle.std.proofs.Common.{◌≤◌, ◌+◌, ◌∷◌, [], set, sym, ap, ◌∙◌, subst}
use Rattle.ax_letters.specs.Letters.{sequence_of}
use Rattle.ax_letters.specs.Room.{LacksName, MakesRoom, is_stocked, count_of, room_of, room_under}
use Rattle.ax_letters.proofs.Changed.{name_of, read-here, queue-same, stored-changed, stocked-here}
use Rattle.ax_letters.proofs.Rooms.{at-least, on-ok-then, keeps-by, room_in, makes-there, makes-prepared}
use Rattle.ax_letters.proofs.queue.Queue.expect.Goals as goal

pub invariant_of-self : goal.invariant_of-self
invariant_of-self c =
    let here = rw c.deref.ensures.value at c.in-Ok.ensures in
    let ks = c.self.inside.sequences.items in
    stored-changed c.sequence_in-name.result.now ks c.self.inside.prepared.items c.self.inside.sequences.cap c.in-Ok.place here c.index_mut.result.now c.expect.new.self c.self.invariant c.index_mut.ensures.value
    (ap (λ s. s.name) c.expect.ensures.sequence)
    (ap (λ s. is_stocked (record { sequence = s; room = 0 })) c.expect.ensures.sequence
    ∙ stocked-here c.sequence_in-name.result.now ks c.self.inside.prepared.items c.self.inside.sequences.cap c.in-Ok.place here c.index_mut.result.now c.self.invariant c.index_mut.ensures.value)

pub returns-in-Ok-clause-sequences : goal.returns-in-Ok-clause-sequences
returns-in-Ok-clause-sequences c =
    let here = rw c.deref.ensures.value at c.in-Ok.ensures in
    let ks = c.self.inside.sequences.items in
    queue-same ks c.in-Ok.place here.kept c.expect.new.self here.here (c.expect.ensures.sequence ∙ ap (λ k. k.sequence) (read-here c.sequence_in-name.result.now ks c.in-Ok.place here c.index_mut.result.now c.index_mut.ensures.value))
    ∙ ap (λ v. v.sequences) c.self.view_is

pub returns-in-Ok-clause-room : goal.returns-in-Ok-clause-room
returns-in-Ok-clause-room c =
    let here = rw c.deref.ensures.value at c.in-Ok.ensures in
    let ks = c.self.inside.sequences.items in
    let prepared = c.self.inside.prepared.items in
    let read = read-here c.sequence_in-name.result.now ks c.in-Ok.place here c.index_mut.result.now c.index_mut.ensures.value in
    on-ok-then c.expect.result c.expect.ensures.ok
    (λ more. subst (λ v. MakesRoom v.room (room_in (set ks c.in-Ok.place c.expect.new.self) prepared) (sequence_of v.whole c.args.letter.now)) c.self.view_is
    (makes-there (sequence_of c.self.inside.whole c.args.letter.now) ks prepared c.in-Ok.place here.kept c.expect.new.self c.self.invariant.order here.here (here.named ∙ c.sequence_in-name.ensures)
    (ap (λ s. s.name) c.expect.ensures.sequence ∙ ap name_of read) (more ∙ ap (λ k. k.room + 1) read)))

pub returns-in-Ok-clause-kept : goal.returns-in-Ok-clause-kept
returns-in-Ok-clause-kept c a =
    let here = rw c.deref.ensures.value at c.in-Ok.ensures in
    let ks = c.self.inside.sequences.items in
    let prepared = c.self.inside.prepared.items in
    let read = read-here c.sequence_in-name.result.now ks c.in-Ok.place here c.index_mut.result.now c.index_mut.ensures.value in
    subst (λ v. room_of a v.room ≤ room_of a (room_in (set ks c.in-Ok.place c.expect.new.self) prepared)) c.self.view_is
    (keeps-by a ks c.in-Ok.place here.kept c.expect.new.self (room_under a prepared) c.self.invariant.order here.here (ap (λ s. s.name) c.expect.ensures.sequence ∙ ap name_of read)
    (subst (λ k. k.room ≤ c.expect.new.self.room) read (at-least c.expect.result c.index_mut.result.now.room c.expect.new.self.room c.expect.ensures.ok c.expect.ensures.err)))

pub returns-in-Err-clause-room : goal.returns-in-Err-clause-room
returns-in-Err-clause-room c =
    let none = rw c.deref.ensures.value at c.in-Err.ensures in
    let ks = c.self.inside.sequences.items in
    let old = c.self.inside.prepared.items in
    let new = c.prepare.new.prepared.items in
    let n = sequence_of c.self.inside.whole c.args.letter.now in
    on-ok-then c.prepare.result c.prepare.ensures.room
    (λ more. subst (λ v. MakesRoom v.room (room_in c.prepare.new.sequences.items new) (sequence_of v.whole c.args.letter.now)) c.self.view_is
    (subst (λ there. MakesRoom (room_in ks old) (room_in there new) n) (sym c.prepare.ensures.sequences)
    (makes-prepared n ks old new c.in-Err.field-0 (subst (λ n. LacksName n ks c.in-Err.field-0) c.sequence_in-name.ensures none)
    (λ a. subst (λ n. room_under a old + count_of a (n ∷ []) ≤ room_under a new) c.sequence_in-name.ensures (more a)))))
