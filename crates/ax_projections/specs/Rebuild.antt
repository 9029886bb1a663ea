-- The rebuild of a projection from the log alone.
use Rattle.std.specs.Prelude.{◌+◌, not, List, [], ◌∷◌, map, filter, length, Option, Some, None}
use Rattle.ax_values.specs.Grammar.{Name}
use Rattle.ax_values.specs.Words.{same_name}
use Rattle.ax_values.specs.declared.cell.Cell.{Cell}
use Rattle.ax_values.specs.declared.item.Item.{Item}
use Rattle.ax_rules.specs.Rules.{Rules, start_row, lenient_from, lenient}
use Rattle.ax_upcast.specs.Upcast.{upcast}
use Rattle.ax_upcast.specs.declared.upcaster.Upcaster.{Upcaster}
use Rattle.ax_projections.specs.Table.{Entry, look_up, put_entry}
use Rattle.ax_projections.specs.Items.{Placed, all_items, items_of, plain_items, aggregate_of}
use Rattle.ax_projections.specs.declared.table.Positioned.{Positioned}

abbrev pub without : Name → List Name → List Name
without n ms = filter (λ m. not (same_name n m)) ms

-- the names without repeats, in the order in which they first stand there
abbrev pub first_names : List Name → List Name
first_names [] = []
first_names (n ∷ ns) = n ∷ without n (first_names ns)

-- how many items there are, and the row that is folded from them, in which an item with a cause leaves the row
abbrev pub folded : Rules → List Placed → Positioned
folded rules xs = record { position = length xs; row = lenient rules (plain_items xs) }

abbrev pub row_of : Rules → List Upcaster → List Cell → Name → Entry
row_of rules chain cells a = record { name = a; value = folded rules (items_of chain a cells) }

-- a row for each aggregate that has an item, in the order of their first items, from the aggregate's own items
abbrev pub rebuilt : Rules → List Upcaster → List Cell → List Entry
rebuilt rules chain cells = map (row_of rules chain cells) (first_names (map aggregate_of (all_items chain cells)))

-- ---- items added to a table

abbrev pub start : Rules → Positioned
start rules = record { position = 0; row = start_row rules.fields }

abbrev pub or_start : Rules → Option Positioned → Positioned
or_start rules None = start rules
or_start rules (Some v) = v

abbrev pub after : Rules → List Item → Positioned → Positioned
after rules xs v = record { position = v.position + length xs; row = lenient_from rules xs v.row }

-- the table with items of an aggregate
abbrev pub added : Rules → Name → List Item → List Entry → List Entry
added rules a [] es = es
added rules a (x ∷ xs) es = put_entry a (after rules (x ∷ xs) (or_start rules (look_up a es))) es

-- the items of a cell
abbrev pub cell_items : List Upcaster → Cell → List Item
cell_items chain (Cell.Event r) = upcast chain r
cell_items chain (Cell.Reserved a s w t) = []
cell_items chain Cell.Void = []

abbrev pub added_cell : Rules → List Upcaster → Cell → List Entry → List Entry
added_cell rules chain (Cell.Event r) es = added rules r.aggregate (upcast chain r) es
added_cell rules chain (Cell.Reserved a s w t) es = es
added_cell rules chain Cell.Void es = es
