use Rattle.std.proofs.Common.{not, sym, ap, ◌∙◌}
use Rattle.ax_values.specs.Words.{field_cmp}
use Rattle.ax_values.proofs.Rising.{put-none, rises-put, rises-nondecreasing}
use Rattle.ax_journal.proofs.Sorting.{field_total, any-found, any-none}
use Rattle.ax_journal.proofs.arguments.put_new.Goals as goal

pub returns-in-Ok-clause-is_new : goal.returns-in-Ok-clause-is_new
returns-in-Ok-clause-is_new c =
    let bound = rw c.deref.ensures.value at c.in-Ok.ensures.bound in
    let place = rw c.deref.ensures.value at c.in-Ok.ensures.place in
    ap not (sym (any-found c.args.field c.args.fields.now.items c.in-Ok.field-0 bound (place c.args.field)))

pub returns-in_ok-insert-in-Err-clause-is_new : goal.returns-in_ok-insert-in-Err-clause-is_new
returns-in_ok-insert-in-Err-clause-is_new c =
    let place = rw c.deref.ensures.value at c.in-Err.ensures.place in
    let fields = c.args.fields.now.items in
    ap not (sym (any-none c.args.field fields c.in-Err.place (place (rises-nondecreasing field_cmp field_total c.args.field fields c.requires))))

pub returns-in_ok-insert-in-Err-clause-put : goal.returns-in_ok-insert-in-Err-clause-put
returns-in_ok-insert-in-Err-clause-put c t =
    let bound = rw c.deref.ensures.value at c.in-Err.ensures.bound in
    let place = rw c.deref.ensures.value at c.in-Err.ensures.place in
    let fields = c.args.fields.now.items in
    c.in_ok-insert-in-Err.ensures.items ∙ sym (put-none field_cmp field_total c.args.field fields c.in-Err.place bound (place (rises-nondecreasing field_cmp field_total c.args.field fields c.requires)))

pub returns-in_ok-insert-in-Err-clause-rising : goal.returns-in_ok-insert-in-Err-clause-rising
returns-in_ok-insert-in-Err-clause-rising c =
    let bound = rw c.deref.ensures.value at c.in-Err.ensures.bound in
    let place = rw c.deref.ensures.value at c.in-Err.ensures.place in
    let fields = c.args.fields.now.items in
    rw (c.in_ok-insert-in-Err.ensures.items ∙ sym (put-none field_cmp field_total c.args.field fields c.in-Err.place bound (place (rises-nondecreasing field_cmp field_total c.args.field fields c.requires))))
    (rises-put field_cmp field_total c.args.field fields c.requires)
