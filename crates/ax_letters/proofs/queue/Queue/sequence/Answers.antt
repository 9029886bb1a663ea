use Rattle.std.proofs.Common.{Some, sym, ap, ◌∙◌}
use Rattle.ax_letters.specs.Letters.{sequence_named}
use Rattle.ax_letters.proofs.Changed.{sequence-found, sequence-none, read-here}
use Rattle.ax_letters.proofs.queue.Queue.sequence.Goals as goal

pub returns-in-Ok : goal.returns-in-Ok
returns-in-Ok c =
    let here = rw c.deref.ensures.value at c.in-Ok.ensures in
    let ks = c.self.inside.sequences.items in
    ap (λ k. Some k.sequence) (read-here c.args.name.now ks c.in-Ok.place here c.index.result.now c.index.ensures)
    ∙ sym (sequence-found c.args.name.now ks c.in-Ok.place here c.self.invariant.order)
    ∙ ap (λ v. sequence_named c.args.name.now v.sequences) c.self.view_is

pub returns-in-Err : goal.returns-in-Err
returns-in-Err c =
    let none = rw c.deref.ensures.value at c.in-Err.ensures in
    sym (ap (λ v. sequence_named c.args.name.now v.sequences) (sym c.self.view_is) ∙ sequence-none c.args.name.now c.self.inside.sequences.items c.in-Err.field-0 none)
