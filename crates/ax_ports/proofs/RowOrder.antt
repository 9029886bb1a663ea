-- The order of rows, and what changes do where rows rise in it.
use Rattle.std.proofs.Common.{◌≡◌, true, List}
use Rattle.std.specs.Cmp.{IsTotalOrder, on_total, nat_cmp_total}
use Rattle.std.proofs.lemmas.Cmp.{nat_list_cmp_total}
use Rattle.ax_values.proofs.Rising.{then_total, rises-put, rises-remove}
use Rattle.ax_ports.specs.declared.keeper.TableRow.{TableRow}
use Rattle.ax_ports.specs.declared.keeper.Change.{Change}
use Rattle.ax_ports.specs.Tables.{row_cmp, row_at, are_rows, change_made}

pub row_total : IsTotalOrder row_cmp
row_total = then_total (on_total (λ (r : TableRow). r.table) nat_cmp_total) (on_total (λ (r : TableRow). r.key) nat_list_cmp_total)

-- a change keeps the order
pub rows-changed : (c : Change) (rows : List TableRow) → are_rows rows ≡ true → are_rows (change_made c rows) ≡ true
rows-changed (Change.Put r) rows h = rises-put row_cmp row_total r rows h
rows-changed (Change.Remove t k) rows h = rises-remove row_cmp row_total (row_at t k) rows h
