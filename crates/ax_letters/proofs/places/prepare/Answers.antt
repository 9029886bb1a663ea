use Rattle.std.proofs.Common.{◌≡◌, ◌≤◌, ◌+◌, ◌∷◌, [], true, sym, ap, ◌∙◌, subst, arith}
use Rattle.ax_values.specs.Words.{rises}
use Rattle.ax_letters.specs.Room.{LacksName, kept_below, room_under, count_of}
use Rattle.ax_letters.proofs.Changed.{name_of, read-here}
use Rattle.ax_letters.proofs.Rooms.{at-least, on-ok-then, keeps-by, makes-under, makes-new}
use Rattle.ax_letters.proofs.Named.{rises-set, rises-insert}
use Rattle.ax_letters.proofs.places.prepare.Goals as goal

pub returns-in-Ok-clause-rising : goal.returns-in-Ok-clause-rising
returns-in-Ok-clause-rising c =
    let here = rw c.deref.ensures.value at c.in-Ok.ensures in
    let ks = c.args.prepared.now.items in
    let read = read-here c.args.name.now ks c.in-Ok.place here c.index_mut.result.now c.index_mut.ensures.value in
    rises-set name_of ks c.in-Ok.place here.kept c.expect.new.self here.here (ap (λ s. s.name) c.expect.ensures.sequence ∙ ap name_of read) c.requires.rising

pub returns-in-Ok-clause-room : goal.returns-in-Ok-clause-room
returns-in-Ok-clause-room c =
    let here = rw c.deref.ensures.value at c.in-Ok.ensures in
    let ks = c.args.prepared.now.items in
    let read = read-here c.args.name.now ks c.in-Ok.place here c.index_mut.result.now c.index_mut.ensures.value in
    on-ok-then c.expect.result c.expect.ensures.ok
    (λ more. makes-under c.args.name.now ks c.in-Ok.place here.kept c.expect.new.self c.requires.rising here.here here.named (ap (λ s. s.name) c.expect.ensures.sequence ∙ ap name_of read)
    (more ∙ ap (λ k. k.room + 1) read))

pub returns-in-Ok-clause-kept : goal.returns-in-Ok-clause-kept
returns-in-Ok-clause-kept c a =
    let here = rw c.deref.ensures.value at c.in-Ok.ensures in
    let ks = c.args.prepared.now.items in
    let read = read-here c.args.name.now ks c.in-Ok.place here c.index_mut.result.now c.index_mut.ensures.value in
    keeps-by a ks c.in-Ok.place here.kept c.expect.new.self 0 c.requires.rising here.here (ap (λ s. s.name) c.expect.ensures.sequence ∙ ap name_of read)
    (subst (λ k. k.room ≤ c.expect.new.self.room) read (at-least c.expect.result c.index_mut.result.now.room c.expect.new.self.room c.expect.ensures.ok c.expect.ensures.err))

pub returns-in_ok-insert-in-Err-clause-rising : goal.returns-in_ok-insert-in-Err-clause-rising
returns-in_ok-insert-in-Err-clause-rising c =
    let none : LacksName c.args.name.now c.args.prepared.now.items c.in-Err.place = rw c.deref.ensures.value at c.in-Err.ensures in
    let is : c.expect-in-Err.new.self.sequence.name ≡ c.args.name.now =
    ap (λ s. s.name) c.in_ok-expect-in-Err.ensures.sequence ∙ ap name_of c.new-sequence.ensures ∙ c.in_ok-copy-in-Err.ensures in
    let there : LacksName c.expect-in-Err.new.self.sequence.name c.args.prepared.now.items c.in-Err.place = subst (λ n. LacksName n c.args.prepared.now.items c.in-Err.place) (sym is) none in
    subst (λ ks. rises kept_below ks ≡ true) (sym c.in_ok-insert-in-Err.ensures.items)
    (rises-insert name_of c.args.prepared.now.items c.in-Err.place c.expect-in-Err.new.self there.within there.parts c.requires.rising)

pub returns-in_ok-insert-in-Err-clause-room : goal.returns-in_ok-insert-in-Err-clause-room
returns-in_ok-insert-in-Err-clause-room c a =
    let none : LacksName c.args.name.now c.args.prepared.now.items c.in-Err.place = rw c.deref.ensures.value at c.in-Err.ensures in
    let is : c.expect-in-Err.new.self.sequence.name ≡ c.args.name.now =
    ap (λ s. s.name) c.in_ok-expect-in-Err.ensures.sequence ∙ ap name_of c.new-sequence.ensures ∙ c.in_ok-copy-in-Err.ensures in
    subst (λ ks. room_under a c.args.prepared.now.items + count_of a (c.args.name.now ∷ []) ≤ room_under a ks) (sym c.in_ok-insert-in-Err.ensures.items)
    (makes-new c.args.name.now c.args.prepared.now.items c.in-Err.place c.expect-in-Err.new.self none is (c.in_ok-expect-in-Err.ensures.ok ∙ ap (λ k. k.room + 1) c.new-sequence.ensures) a)

pub returns-in_ok-insert-in-Err-clause-kept : goal.returns-in_ok-insert-in-Err-clause-kept
returns-in_ok-insert-in-Err-clause-kept c a = let more = returns-in_ok-insert-in-Err-clause-room c a in omega (arith, more)
