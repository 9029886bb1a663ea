use Rattle.std.proofs.Common.{◌≡◌, ◌<◌, None, subst}
use Rattle.std.proofs.lemmas.Option.{slice_get_within}
use Rattle.ax_letters.specs.Letters.{letter_of}
use Rattle.ax_letters.specs.Room.{HasName, LacksName, IsLetterPlace}
use Rattle.ax_letters.proofs.Evicted.{no-sequence, no-letter, letter-place}
use Rattle.ax_letters.proofs.queue.Queue.place_of_letter.Goals as goal

pub returns-in_default-clause-none : goal.returns-in_default-clause-none
returns-in_default-clause-none c =
    let none = rw c.deref.ensures.value at c.in_default.ensures in
    let ks = c.self.inside.sequences.items in
    subst (λ v. letter_of v.whole c.args.item.now v.sequences ≡ None) c.self.view_is
    (no-sequence c.self.inside.whole c.args.item.now ks c.in_default.field-0 (subst (λ n. LacksName n ks c.in_default.field-0) c.sequence_in-name.ensures none))

pub index-requires : goal.index-requires
index-requires c = subst (λ n. c.in-Ok.place < n) c.deref.ensures.len (slice_get_within c.deref.result.now c.in-Ok.place c.in-Ok.ensures.kept c.in-Ok.ensures.here)

pub returns-in-Some-clause-there : goal.returns-in-Some-clause-there
returns-in-Some-clause-there c =
    let here = rw c.deref.ensures.value at c.in-Ok.ensures in
    let ks = c.self.inside.sequences.items in
    let there = rw c.letters.ensures at c.in-Some.ensures.there in
    subst (λ v. IsLetterPlace v.whole c.args.item.now v.sequences c.in-Ok.place c.in-Some.at) c.self.view_is
    (letter-place c.self.inside.whole c.args.item.now ks c.in-Ok.place c.in-Some.at (subst (λ n. HasName n ks c.in-Ok.place) c.sequence_in-name.ensures here) c.index.result.now c.index.ensures there.0 there.1)

pub returns-in-None-clause-none : goal.returns-in-None-clause-none
returns-in-None-clause-none c =
    let here = rw c.deref.ensures.value at c.in-Ok.ensures in
    let ks = c.self.inside.sequences.items in
    let none = rw c.letters.ensures at c.in-None.ensures.none in
    subst (λ v. letter_of v.whole c.args.item.now v.sequences ≡ None) c.self.view_is
    (no-letter c.self.inside.whole c.args.item.now ks c.in-Ok.place (subst (λ n. HasName n ks c.in-Ok.place) c.sequence_in-name.ensures here) c.index.result.now c.self.invariant.order c.index.ensures none)
