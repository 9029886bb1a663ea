use Rattle.std.proofs.Common.{◌≡◌, sym, ap, ◌∙◌}
use Rattle.std.specs.Prelude.{insert}
use Rattle.ax_values.proofs.Rising.{rises-nondecreasing}
use Rattle.ax_sagas.specs.Links.{link_of, link_cmp}
use Rattle.ax_sagas.proofs.LinkLaws.{link_total, added-there, added-between}
use Rattle.ax_sagas.proofs.links.add_to.Goals as goal

pub returns-in-Ok-clause-ok : goal.returns-in-Ok-clause-ok
returns-in-Ok-clause-ok c =
    let bound = rw c.deref.ensures.value at c.in-Ok.ensures.bound in
    let place = rw c.deref.ensures.value at c.in-Ok.ensures.place in
    let link = link_of c.args.key.now c.args.value.now in
    sym (added-there link c.args.links.now.items c.in-Ok.field-0 c.requires.rising bound (place link))

pub returns-in_ok-insert-in-Err : goal.returns-in_ok-insert-in-Err
returns-in_ok-insert-in-Err c =
    let bound = rw c.deref.ensures.value at c.in-Err.ensures.bound in
    let place = rw c.deref.ensures.value at c.in-Err.ensures.place in
    let link = link_of c.args.key.now c.args.value.now in
    let links = c.args.links.now.items in
    let is : c.insert.new.self.items ≡ insert links c.in-Err.place link = c.in_ok-insert-in-Err.ensures.items ∙ ap (insert links c.in-Err.place) c.in_ok-owned-in-Err.ensures in
    let made = added-between link links c.in-Err.place c.requires.rising bound (place (rises-nondecreasing link_cmp link_total link links c.requires.rising)) in
    record { ok = is ∙ made.same; err = tt; rising = rw is made.rising }
