use Rattle.std.proofs.Common.{sym, ◌∙◌}
use Rattle.ax_values.proofs.Rising.{rises-nondecreasing}
use Rattle.ax_sagas.specs.Links.{link_of, link_cmp}
use Rattle.ax_sagas.proofs.LinkLaws.{link_total, removed-there, removed-none}
use Rattle.ax_sagas.proofs.links.remove_from.Goals as goal

pub returns-in-Ok-clause-value : goal.returns-in-Ok-clause-value
returns-in-Ok-clause-value c =
    let bound = rw c.deref.ensures.value at c.in-Ok.ensures.bound in
    let place = rw c.deref.ensures.value at c.in-Ok.ensures.place in
    let link = link_of c.args.key.now c.args.value.now in
    c.remove.ensures.items ∙ (removed-there link c.args.links.now.items c.in-Ok.place c.requires bound (place link)).same

pub returns-in-Ok-clause-rising : goal.returns-in-Ok-clause-rising
returns-in-Ok-clause-rising c =
    let bound = rw c.deref.ensures.value at c.in-Ok.ensures.bound in
    let place = rw c.deref.ensures.value at c.in-Ok.ensures.place in
    let link = link_of c.args.key.now c.args.value.now in
    rw c.remove.ensures.items (removed-there link c.args.links.now.items c.in-Ok.place c.requires bound (place link)).rising

pub returns-in-Err-clause-value : goal.returns-in-Err-clause-value
returns-in-Err-clause-value c =
    let bound = rw c.deref.ensures.value at c.in-Err.ensures.bound in
    let place = rw c.deref.ensures.value at c.in-Err.ensures.place in
    let link = link_of c.args.key.now c.args.value.now in
    let links = c.args.links.now.items in
    sym (removed-none link links c.in-Err.field-0 bound (place (rises-nondecreasing link_cmp link_total link links c.requires)))
