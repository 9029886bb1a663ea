-- Snapshots: the state of an aggregate after some of its events, from which a later state is read.
use Rattle.std.specs.Prelude.{◌≡◌, ◌≤◌, ℕ, ◌==◌, List, [], ◌∷◌, ◌++◌, take, drop, length, Option, Some, None, slice_get, if◌then◌else◌}
use Rattle.std.specs.List.{flat_map}
use Rattle.ax_values.specs.Grammar.{Name}
use Rattle.ax_values.specs.declared.cell.Cell.{Cell}
use Rattle.ax_values.specs.declared.item.Item.{Item}
use Rattle.ax_log.specs.Log.{Stored, stream_of, length_of}
use Rattle.ax_rules.specs.Expr.{Row}
use Rattle.ax_rules.specs.Rules.{Rules, start_row, lenient}
use Rattle.ax_upcast.specs.Upcast.{upcast}
use Rattle.ax_upcast.specs.declared.upcaster.Upcaster.{Upcaster}
use Rattle.ax_projections.specs.Items.{placed_items, plain_items, items_of}
use Rattle.ax_repo.specs.declared.snapshot.Snapshot.{Snapshot}

-- the items of events, in order
abbrev pub items_in : List Upcaster → List Stored → List Item
items_in chain events = plain_items (flat_map (placed_items chain) events)

-- the state of an aggregate: a fold of all its items, in which one that fails leaves the state as it is
abbrev pub state_of : Rules → List Upcaster → Name → List Cell → Row
state_of rules chain a cells = lenient rules (plain_items (items_of chain a cells))

-- the state after the first k events
abbrev pub state_after : Rules → List Upcaster → Name → List Cell → ℕ → Row
state_after rules chain a cells k = lenient rules (items_in chain (take k (stream_of a cells)))

-- the items of the events from number k on
abbrev pub items_from : List Upcaster → Name → List Cell → ℕ → List Item
items_from chain a cells k = items_in chain (drop k (stream_of a cells))

-- the snapshot holds the state of the aggregate after as many of its events as it says
pub record IsSnapshotOf (rules : Rules) (chain : List Upcaster) (a : Name) (cells : List Cell) (s : Snapshot) : Type 0 where
  pub aggregate : s.aggregate ≡ a
  pub events : s.events ≤ length (stream_of a cells)
  pub state : s.state ≡ state_after rules chain a cells s.events

-- how many events a snapshot saves: none where it is of another revision of the sheet
abbrev pub saved : ℕ → Option Snapshot → ℕ
saved revision None = 0
saved revision (Some s) = if s.revision == revision then s.events else 0

-- the snapshot of all events of an aggregate, where it has one
abbrev pub snapshot_of : Rules → List Upcaster → ℕ → Name → List Cell → Option Snapshot
snapshot_of rules chain revision a cells =
    if length_of a cells == 0 then None
    else Some (record { aggregate = a; revision = revision; events = length_of a cells; state = state_of rules chain a cells })

-- ---- parts of a load

-- the state from which the fold goes on
abbrev pub begun_row : Rules → ℕ → Option Snapshot → Row
begun_row rules revision None = start_row rules.fields
begun_row rules revision (Some s) = if s.revision == revision then s.state else start_row rules.fields

-- the items of a cell
abbrev pub found_items : List Upcaster → Option Cell → List Item
found_items chain None = []
found_items chain (Some (Cell.Event r)) = upcast chain r
found_items chain (Some (Cell.Reserved b s w t)) = []
found_items chain (Some Cell.Void) = []

-- the items of the cells at these indexes
abbrev pub listed_items : List Upcaster → List Cell → List ℕ → List Item
listed_items chain cells [] = []
listed_items chain cells (i ∷ is) = found_items chain (slice_get cells i) ++ listed_items chain cells is
