-- The items of a log.
use Rattle.std.specs.Prelude.{ℕ, List, map}
use Rattle.std.specs.List.{flat_map}
use Rattle.ax_values.specs.Grammar.{Name}
use Rattle.ax_values.specs.declared.cell.Cell.{Cell}
use Rattle.ax_values.specs.declared.item.Item.{Item}
use Rattle.ax_log.specs.Log.{Stored, events, stream_of}
use Rattle.ax_upcast.specs.Upcast.{upcast}
use Rattle.ax_upcast.specs.declared.upcaster.Upcaster.{Upcaster}

-- an item with the index of its record's cell
pub record Placed : Type 0 where
  pub index : ℕ
  pub item : Item

abbrev pub placed : ℕ → Item → Placed
placed i x = record { index = i; item = x }

abbrev pub placed_items : List Upcaster → Stored → List Placed
placed_items chain e = map (placed e.index) (upcast chain e.record_of)

-- all items, by index, then part
abbrev pub all_items : List Upcaster → List Cell → List Placed
all_items chain cells = flat_map (placed_items chain) (events cells)

-- the items of an aggregate, in order
abbrev pub items_of : List Upcaster → Name → List Cell → List Placed
items_of chain a cells = flat_map (placed_items chain) (stream_of a cells)

abbrev pub plain_items : List Placed → List Item
plain_items = map (λ x. x.item)

abbrev pub aggregate_of : Placed → Name
aggregate_of x = x.item.name.aggregate
