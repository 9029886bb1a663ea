use Rattle.std.proofs.Common.{◌∙◌}
use Rattle.ax_values.specs.Words.{field_cmp}
use Rattle.ax_values.proofs.Rising.{rises-nondecreasing}
use Rattle.ax_sagas.proofs.PutLaws.{field_total, put-there, put-between}
use Rattle.ax_sagas.proofs.args.put.Goals as goal

pub returns-in-Ok : goal.returns-in-Ok
returns-in-Ok c =
    let bound = rw c.deref.ensures.value at c.in-Ok.ensures.bound in
    let place = rw c.deref.ensures.value at c.in-Ok.ensures.place in
    let made = put-there field_cmp field_total c.args.field c.args.fields.now.items c.in-Ok.place c.requires bound (place c.args.field) in
    record { ok = made.same; rising = made.rising }

pub returns-in_ok-insert-in-Err : goal.returns-in_ok-insert-in-Err
returns-in_ok-insert-in-Err c =
    let bound = rw c.deref.ensures.value at c.in-Err.ensures.bound in
    let place = rw c.deref.ensures.value at c.in-Err.ensures.place in
    let fields = c.args.fields.now.items in
    let made = put-between field_cmp field_total c.args.field fields c.in-Err.place c.requires bound (place (rises-nondecreasing field_cmp field_total c.args.field fields c.requires)) in
    record { ok = c.in_ok-insert-in-Err.ensures.items ∙ made.same; rising = rw c.in_ok-insert-in-Err.ensures.items made.rising }
