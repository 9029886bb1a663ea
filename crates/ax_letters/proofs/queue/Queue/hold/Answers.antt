use Rattle.std.proofs.Common.{◌<◌, sym, ap, ◌∙◌, subst}
use Rattle.std.specs.Prelude.{is_some}
use Rattle.std.proofs.lemmas.Option.{slice_get_within}
use Rattle.ax_laws.proofs.Tests.{apart}
use Rattle.ax_letters.specs.Letters.{is_parked, hold}
use Rattle.ax_letters.specs.Room.{QueueView, is_stocked}
use Rattle.ax_letters.proofs.Changed.{name_of, sequence-none, stored-changed, stocked-here, held}
use Rattle.ax_letters.proofs.queue.Queue.hold.Goals as goal

pub unreachable-requires : goal.unreachable-requires
unreachable-requires c =
    let none = rw c.deref.ensures.value at c.in_default.ensures in
    apart (is_parked c.args.sequence.now c.args.self.now.sequences) c.requires
    (ap (λ v. is_parked c.args.sequence.now v.sequences) (sym c.self.view_is) ∙ ap is_some (sequence-none c.args.sequence.now c.self.inside.sequences.items c.in_default.field-0 none))

pub index_mut-requires : goal.index_mut-requires
index_mut-requires c = subst (λ n. c.in-Ok.place < n) c.deref.ensures.len (slice_get_within c.deref.result.now c.in-Ok.place c.in-Ok.ensures.kept c.in-Ok.ensures.here)

pub invariant_of-self : goal.invariant_of-self
invariant_of-self c =
    let here = rw c.deref.ensures.value at c.in-Ok.ensures in
    let ks = c.self.inside.sequences.items in
    stored-changed c.args.sequence.now ks c.self.inside.prepared.items c.self.inside.sequences.cap c.in-Ok.place here c.index_mut.result.now c.hold.new.self c.self.invariant c.index_mut.ensures.value
    (ap name_of c.hold.ensures)
    (ap is_stocked c.hold.ensures ∙ stocked-here c.args.sequence.now ks c.self.inside.prepared.items c.self.inside.sequences.cap c.in-Ok.place here c.index_mut.result.now c.self.invariant c.index_mut.ensures.value)

pub returns : goal.returns
returns c =
    let here = rw c.deref.ensures.value at c.in-Ok.ensures in
    let ks = c.self.inside.sequences.items in
    held c.args.sequence.now c.self.inside.whole ks c.self.inside.prepared.items c.in-Ok.place here c.index_mut.result.now c.hold.new.self c.args.taken c.self.invariant.order c.index_mut.ensures.value c.hold.ensures
    ∙ ap (λ (v : QueueView). record v { sequences = hold c.args.sequence.now c.args.taken v.sequences }) c.self.view_is
