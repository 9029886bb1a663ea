use Rattle.std.proofs.Common.{◌<◌, sym, ap, ◌∙◌, subst, arith}
use Rattle.std.specs.Prelude.{remove}
use Rattle.ax_letters.specs.Room.{IsTakenOut, blank}
use Rattle.ax_letters.proofs.Changed.{read-here}
use Rattle.ax_letters.proofs.Rooms.{room-none, taken-out, blank-at}
use Rattle.ax_letters.proofs.places.take_prepared.Goals as goal

pub unreachable-requires : goal.unreachable-requires
unreachable-requires c =
    let none = rw c.deref.ensures.value at c.in_default.ensures in
    let zero = room-none c.args.name.now c.args.prepared.now.items c.in_default.field-0 0 none in omega (arith, zero)

pub returns-clause-sequence : goal.returns-clause-sequence
returns-clause-sequence c =
    let here = rw c.deref.ensures.value at c.in-Ok.ensures in
    let ks = c.args.prepared.now.items in
    ap (λ k. k.sequence) (read-here c.args.name.now ks c.in-Ok.place here c.remove.result c.remove.ensures.value)
    ∙ blank-at ks c.in-Ok.place here.kept c.requires.blanks here.here ∙ ap blank here.named

pub returns-clause-rest : goal.returns-clause-rest
returns-clause-rest c =
    let here = rw c.deref.ensures.value at c.in-Ok.ensures in
    let ks = c.args.prepared.now.items in
    subst (λ new. IsTakenOut c.args.name.now ks new c.remove.result.room) (sym c.remove.ensures.items)
    (subst (λ k. IsTakenOut c.args.name.now ks (remove ks c.in-Ok.place) k.room) (sym (read-here c.args.name.now ks c.in-Ok.place here c.remove.result c.remove.ensures.value))
    (taken-out c.args.name.now ks c.in-Ok.place here c.requires.rising c.requires.blanks))

pub returns-clause-room : goal.returns-clause-room
returns-clause-room c =
    let rest : IsTakenOut c.args.name.now c.args.prepared.now.items c.remove.new.self.items c.remove.result.room = returns-clause-rest c in
    subst (λ n. 0 < n) (sym rest.same) c.requires.room
