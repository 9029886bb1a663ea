use Rattle.std.proofs.Common.{sym, ap, ◌∙◌, subst}
use Rattle.std.specs.Prelude.{ok_or, option_map}
use Rattle.ax_letters.specs.Letters.{letter_of, requeue}
use Rattle.ax_letters.specs.Room.{IsLetterPlace, queue_of}
use Rattle.ax_letters.specs.declared.fault.QueueFault.{QueueFault}
use Rattle.ax_letters.proofs.Evicted.{letter-there, requeued, stored-touched}
use Rattle.ax_letters.proofs.queue.Queue.requeue.Goals as goal

pub invariant_of-self : goal.invariant_of-self
invariant_of-self c =
    let ks = c.self.inside.sequences.items in
    let g : IsLetterPlace c.self.inside.whole c.args.item.now (queue_of ks) c.in-Some.place c.in-Some.at =
    subst (λ v. IsLetterPlace v.whole c.args.item.now v.sequences c.in-Some.place c.in-Some.at) (sym c.self.view_is) c.in-Some.ensures.there in
    stored-touched c.self.inside.whole c.args.item.now ks c.in-Some.place c.in-Some.at g c.args.why c.args.now c.index_mut.result.now c.touch.new.self c.index_mut.ensures.value c.touch.ensures
    c.self.inside.prepared.items c.self.inside.sequences.cap c.self.invariant

pub returns-clause-value : goal.returns-clause-value
returns-clause-value c =
    let ks = c.self.inside.sequences.items in
    let g : IsLetterPlace c.self.inside.whole c.args.item.now (queue_of ks) c.in-Some.place c.in-Some.at =
    subst (λ v. IsLetterPlace v.whole c.args.item.now v.sequences c.in-Some.place c.in-Some.at) (sym c.self.view_is) c.in-Some.ensures.there in
    sym (ap (λ v. ok_or (option_map (λ _. tt) (letter_of v.whole c.args.item.now v.sequences)) QueueFault.NoLetter) (sym c.self.view_is)
    ∙ ap (λ o. ok_or (option_map (λ _. tt) o) QueueFault.NoLetter)
    (letter-there c.self.inside.whole c.args.item.now ks c.in-Some.place c.in-Some.at g c.args.why c.args.now c.index_mut.result.now c.touch.new.self c.index_mut.ensures.value c.touch.ensures c.self.invariant.order))

pub returns-clause-ok : goal.returns-clause-ok
returns-clause-ok c =
    let ks = c.self.inside.sequences.items in
    let g : IsLetterPlace c.self.inside.whole c.args.item.now (queue_of ks) c.in-Some.place c.in-Some.at =
    subst (λ v. IsLetterPlace v.whole c.args.item.now v.sequences c.in-Some.place c.in-Some.at) (sym c.self.view_is) c.in-Some.ensures.there in
    requeued c.self.inside.whole c.args.item.now ks c.in-Some.place c.in-Some.at g c.args.why c.args.now c.index_mut.result.now c.touch.new.self c.index_mut.ensures.value c.touch.ensures c.self.invariant.order
    ∙ ap (λ v. requeue v.whole c.args.item.now c.args.why c.args.now v.sequences) c.self.view_is
