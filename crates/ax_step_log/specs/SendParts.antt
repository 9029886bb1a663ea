-- What the parts of a step make: the items of cells, events that fit into the log, and puts that make cells void.
use Rattle.std.specs.Prelude.{◌≡◌, ℕ, zero, suc, ◌<◌, ◌≤◌, Bool, true, List, [], ◌∷◌, ◌++◌, length, Option, Some, None, nat_le, slice_get, if◌then◌else◌}
use Rattle.std.specs.List.{list_all}
use Rattle.ax_log.specs.Log.{is_reserved, option_is}
use Rattle.ax_log.specs.Order.{max_fields}
use Rattle.ax_upcast.specs.Upcast.{upcast}
use Rattle.ax_state.specs.State.{Reservation}
use Rattle.ax_values.specs.declared.cell.Cell.{Cell}
use Rattle.ax_values.specs.declared.item.Item.{Item}
use Rattle.ax_log.specs.declared.put.CellPut.{CellPut}
use Rattle.ax_upcast.specs.declared.event.Event.{Event}
use Rattle.ax_upcast.specs.declared.upcaster.Upcaster.{Upcaster}
use Rattle.ax_sheet.specs.declared.decision.Decided.{Decided}

-- ---- items

-- the items of a cell
abbrev pub found_items : List Upcaster → Option Cell → List Item
found_items chain None = []
found_items chain (Some (Cell.Event r)) = upcast chain r
found_items chain (Some (Cell.Reserved b s w t)) = []
found_items chain (Some Cell.Void) = []

-- the items of the cells at these indexes
abbrev pub listed_items : List Upcaster → List Cell → List ℕ → List Item
listed_items chain cells [] = []
listed_items chain cells (i ∷ is) = found_items chain (slice_get cells i) ++ listed_items chain cells is

-- ---- events

abbrev pub few_fields : Event → Bool
few_fields e = nat_le (length e.payload) max_fields

-- 1 to 8 events, each with few fields
pub record EventsFit (es : List Event) : Type 0 where
  pub some : 0 < length es
  pub few : length es ≤ 8
  pub fields : list_all few_fields es ≡ true

abbrev pub DecidedFits : Decided → Type 0
DecidedFits (Decided.Guard g) = Unit {0}
DecidedFits (Decided.Events es) = EventsFit es

-- ---- puts

-- the reserved ones of n cells from an index on made void
abbrev pub void_puts : List Cell → ℕ → ℕ → List CellPut
void_puts cells i zero = []
void_puts cells i (suc n) = if option_is is_reserved (slice_get cells i) then record { index = i; cell = Cell.Void } ∷ void_puts cells (suc i) n else void_puts cells (suc i) n

abbrev pub release_puts : List Cell → Option Reservation → List CellPut
release_puts cells None = []
release_puts cells (Some r) = void_puts cells r.first (length r.records)

-- the first number of the cell that the first put reserves
abbrev pub reserved_number : Cell → ℕ
reserved_number (Cell.Reserved a s w t) = s
reserved_number Cell.Void = 0
reserved_number (Cell.Event r) = 0

abbrev pub puts_number : List CellPut → ℕ
puts_number [] = 0
puts_number (p ∷ ps) = reserved_number p.cell
