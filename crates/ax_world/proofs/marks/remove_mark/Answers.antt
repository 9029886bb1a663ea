use Rattle.std.proofs.Common.{sym, ◌∙◌}
use Rattle.ax_values.specs.Words.{item_cmp}
use Rattle.ax_values.specs.Orders.{item_cmp_total}
use Rattle.ax_values.proofs.Rising.{remove-found, remove-none, rises-nondecreasing}
use Rattle.ax_world.proofs.marks.remove_mark.Goals as goal

pub returns-in-Ok-clause-made : goal.returns-in-Ok-clause-made
returns-in-Ok-clause-made c =
    let bound = rw c.deref.ensures.value at c.in-Ok.ensures.bound in
    let place = rw c.deref.ensures.value at c.in-Ok.ensures.place in
    c.remove.ensures.items ∙ sym (remove-found item_cmp item_cmp_total c.args.item.now c.args.marks.now.items c.in-Ok.place c.requires.rising bound (place c.args.item.now))

pub returns-in-Err-clause-made : goal.returns-in-Err-clause-made
returns-in-Err-clause-made c =
    let bound = rw c.deref.ensures.value at c.in-Err.ensures.bound in
    let place = rw c.deref.ensures.value at c.in-Err.ensures.place in
    let marks = c.args.marks.now.items in
    sym (remove-none item_cmp item_cmp_total c.args.item.now marks c.in-Err._place bound (place (rises-nondecreasing item_cmp item_cmp_total c.args.item.now marks c.requires.rising)))
