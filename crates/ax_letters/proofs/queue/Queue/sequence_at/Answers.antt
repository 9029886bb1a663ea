use Rattle.std.proofs.Common.{Some, slice_get, map, sym, ap, ◌∙◌}
use Rattle.ax_letters.proofs.Changed.{name-read, name-past}
use Rattle.ax_letters.proofs.queue.Queue.sequence_at.Goals as goal

pub returns-in-Some : goal.returns-in-Some
returns-in-Some c =
    let look = rw c.deref.ensures.value at c.in-Some.ensures.lookup in
    ap Some c.name.ensures ∙ sym (name-read c.self.inside.sequences.items c.args.place c.in-Some.sequence.now look.3.0 look.1)
    ∙ ap (λ v. slice_get (map (λ s. s.name) v.sequences) c.args.place) c.self.view_is

pub returns-in-None : goal.returns-in-None
returns-in-None c =
    let look = rw c.deref.ensures.value at c.in-None.ensures.lookup in
    sym (name-past c.self.inside.sequences.items c.args.place look.3) ∙ ap (λ v. slice_get (map (λ s. s.name) v.sequences) c.args.place) c.self.view_is
