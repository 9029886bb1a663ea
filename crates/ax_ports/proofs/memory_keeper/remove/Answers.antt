use Rattle.std.proofs.Common.{sym, ◌∙◌}
use Rattle.ax_values.proofs.Rising.{remove-found, remove-none, rises-nondecreasing}
use Rattle.ax_ports.specs.Tables.{row_cmp, row_at}
use Rattle.ax_ports.proofs.RowOrder.{row_total}
use Rattle.ax_ports.proofs.memory_keeper.remove.Goals as goal

pub returns-in-Ok-clause-made : goal.returns-in-Ok-clause-made
returns-in-Ok-clause-made c =
    let bound = rw c.deref.ensures.value at c.in-Ok.ensures.bound in
    let place = rw c.deref.ensures.value at c.in-Ok.ensures.place in
    let row = row_at c.args.table c.args.key.now in
    c.remove.ensures.items ∙ sym (remove-found row_cmp row_total row c.args.rows.now.items c.in-Ok.place c.requires.rising bound (place row))

pub returns-in-Err-clause-made : goal.returns-in-Err-clause-made
returns-in-Err-clause-made c =
    let bound = rw c.deref.ensures.value at c.in-Err.ensures.bound in
    let place = rw c.deref.ensures.value at c.in-Err.ensures.place in
    let row = row_at c.args.table c.args.key.now in
    let rows = c.args.rows.now.items in
    sym (remove-none row_cmp row_total row rows c.in-Err._place bound (place (rises-nondecreasing row_cmp row_total row rows c.requires.rising)))
