-- Kept tables: their rows in order, what changes do to them, and the cause of a keeper's faults.
use Rattle.std.specs.Prelude.{◌≡◌, ◌≤◌, ℕ, Bool, List, [], ◌∷◌, ◌++◌, Option, Result, IfSome, IsTrue, OnOk, OnErr, IsErrOf}
use Rattle.std.specs.declared.cmp.Ordering.{Ordering}
use Rattle.std.specs.Ordering.{nat_cmp, ordering_then, is_lt}
use Rattle.ax_values.specs.Grammar.{Line}
use Rattle.ax_values.specs.Words.{name_cmp, put_rising, remove_rising, rises}
use Rattle.ax_ports.specs.Ports.{Rose}
use Rattle.ax_ports.specs.declared.keeper.TableRow.{TableRow}
use Rattle.ax_ports.specs.declared.keeper.Change.{Change}
use Rattle.ax_ports.specs.declared.keeper.KeeperFault.{KeeperFault}

-- rows stand by table and key bytes
abbrev pub row_cmp : TableRow → TableRow → Ordering
row_cmp r s = ordering_then (nat_cmp r.table s.table) (name_cmp r.key s.key)

abbrev pub row_below : TableRow → TableRow → Bool
row_below r s = is_lt (row_cmp r s)

-- rows that rise by table and key, no key twice
abbrev pub are_rows : List TableRow → Bool
are_rows rows = rises row_below rows

abbrev pub row_at : ℕ → Line → TableRow
row_at table key = record { table = table; key = key; value = [] }

abbrev pub change_made : Change → List TableRow → List TableRow
change_made (Change.Put row) rows = put_rising row_cmp row rows
change_made (Change.Remove table key) rows = remove_rising row_cmp (row_at table key) rows

-- the rows after the changes, in order
abbrev pub changes_made : List Change → List TableRow → List TableRow
changes_made [] rows = rows
changes_made (c ∷ cs) rows = changes_made cs (change_made c rows)

-- a load adds the rows that are told, which rise; at an error the list is as before
pub record Loads {T E : Type 0} (rows : Option (List TableRow)) (old new : List TableRow) (result : Result T E) : Type 0 where
  pub loaded : OnOk result (IfSome rows (λ all. new ≡ old ++ all))
  pub rising : IfSome rows (λ all. IsTrue (are_rows all))
  pub err : OnErr result (new ≡ old)

-- `Failed` is answered only where the count of faults rose, and any other answer leaves it
pub record HasKeeperCause {T : Type 0} (before now : ℕ) (result : Result T KeeperFault) : Type 0 where
  pub later : before ≤ now
  pub kept : OnOk result (now ≡ before)
  pub wanting : IsErrOf result KeeperFault.Memory → now ≡ before
  pub failed : IsErrOf result KeeperFault.Failed → Rose before now
