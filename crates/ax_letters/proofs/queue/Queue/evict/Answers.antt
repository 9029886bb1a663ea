use Rattle.std.proofs.Common.{vec_capacity, sym, ap, ◌∙◌, subst}
use Rattle.std.specs.Prelude.{ok_or}
use Rattle.ax_letters.specs.Letters.{letter_of, evict}
use Rattle.ax_letters.specs.Room.{IsLetterPlace, IsStored, queue_of}
use Rattle.ax_letters.specs.declared.fault.QueueFault.{QueueFault}
use Rattle.ax_letters.proofs.Evicted.{letter-is, evicted, stored-taken}
use Rattle.ax_letters.proofs.queue.Queue.evict.Goals as goal

pub invariant_of-self : goal.invariant_of-self
invariant_of-self c =
    let ks = c.self.inside.sequences.items in
    let g : IsLetterPlace c.self.inside.whole c.args.item.now (queue_of ks) c.in-Some.place c.in-Some.at =
    subst (λ v. IsLetterPlace v.whole c.args.item.now v.sequences c.in-Some.place c.in-Some.at) (sym c.self.view_is) c.in-Some.ensures.there in
    subst (λ places. IsStored c.take_letter.new.sequences.items c.self.inside.prepared.items places) (sym c.take_letter.ensures.capacity)
    (stored-taken c.self.inside.whole c.args.item.now ks c.in-Some.place c.in-Some.at g c.take_letter.new.sequences.items c.self.inside.prepared.items (vec_capacity c.self.inside.sequences) c.self.invariant c.take_letter.ensures.rest)

pub returns-clause-value : goal.returns-clause-value
returns-clause-value c =
    let ks = c.self.inside.sequences.items in
    let g : IsLetterPlace c.self.inside.whole c.args.item.now (queue_of ks) c.in-Some.place c.in-Some.at =
    subst (λ v. IsLetterPlace v.whole c.args.item.now v.sequences c.in-Some.place c.in-Some.at) (sym c.self.view_is) c.in-Some.ensures.there in
    sym (ap (λ v. ok_or (letter_of v.whole c.args.item.now v.sequences) QueueFault.NoLetter) (sym c.self.view_is)
    ∙ ap (λ o. ok_or o QueueFault.NoLetter) (letter-is c.self.inside.whole c.args.item.now ks c.in-Some.place c.in-Some.at g c.take_letter.result c.self.invariant.order c.take_letter.ensures.letter))

pub returns-clause-ok : goal.returns-clause-ok
returns-clause-ok c =
    let ks = c.self.inside.sequences.items in
    let g : IsLetterPlace c.self.inside.whole c.args.item.now (queue_of ks) c.in-Some.place c.in-Some.at =
    subst (λ v. IsLetterPlace v.whole c.args.item.now v.sequences c.in-Some.place c.in-Some.at) (sym c.self.view_is) c.in-Some.ensures.there in
    evicted c.self.inside.whole c.args.item.now ks c.in-Some.place c.in-Some.at g c.take_letter.new.sequences.items c.self.invariant.order c.take_letter.ensures.rest
    ∙ ap (λ v. evict v.whole c.args.item.now v.sequences) c.self.view_is
