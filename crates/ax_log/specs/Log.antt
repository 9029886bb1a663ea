-- The log: a list of cells. An index is a place in it.
use Rattle.std.specs.Prelude.{ℕ, zero, suc, ◌==◌, Bool, true, false, not, List, [], ◌∷◌, ◌++◌, length, filter, Option, Some, None, slice_get, slice_set, if◌then◌else◌}
use Rattle.ax_values.specs.Grammar.{Name}
use Rattle.ax_values.specs.Words.{same_name, insert_rising, name_cmp}
use Rattle.ax_values.specs.declared.record.Record.{Record}
use Rattle.ax_values.specs.declared.cell.Cell.{Cell}

-- ---- events

-- the event of a cell, with the cell's index
pub record Stored : Type 0 where
  pub index : ℕ
  pub record_of : Record

-- the events of the cells, the first of which has the index i
abbrev pub events_from : ℕ → List Cell → List Stored
events_from i [] = []
events_from i (Cell.Event r ∷ cells) = record { index = i; record_of = r } ∷ events_from (suc i) cells
events_from i (Cell.Reserved a s w t ∷ cells) = events_from (suc i) cells
events_from i (Cell.Void ∷ cells) = events_from (suc i) cells

-- all events, in index order
abbrev pub events : List Cell → List Stored
events cells = events_from 0 cells

-- whether an event is of the aggregate
abbrev pub is_of : Name → Stored → Bool
is_of a e = same_name e.record_of.aggregate a

-- of a list of events those of an aggregate
abbrev pub stream_in : Name → List Stored → List Stored
stream_in a es = filter (is_of a) es

-- the events of an aggregate, in index order
abbrev pub stream_of : Name → List Cell → List Stored
stream_of a cells = stream_in a (events cells)

-- the next sequence number of an aggregate
abbrev pub length_of : Name → List Cell → ℕ
length_of a cells = length (stream_of a cells)

-- the aggregates that have events, in the order of their bytes
abbrev pub aggregates_of : List Stored → List Name
aggregates_of [] = []
aggregates_of (e ∷ es) = insert_rising name_cmp e.record_of.aggregate (aggregates_of es)

abbrev pub aggregates : List Cell → List Name
aggregates cells = aggregates_of (events cells)

-- ---- kinds of cell

abbrev pub is_reserved : Cell → Bool
is_reserved (Cell.Reserved a s w t) = true
is_reserved Cell.Void = false
is_reserved (Cell.Event r) = false

abbrev pub is_void : Cell → Bool
is_void (Cell.Reserved a s w t) = false
is_void Cell.Void = true
is_void (Cell.Event r) = false

abbrev pub option_is : {A : Type 0} → (A → Bool) → Option A → Bool
option_is test None = false
option_is test (Some x) = test x

-- whether the index has a cell that is not reserved
abbrev pub is_settled : List Cell → ℕ → Bool
is_settled cells i = option_is (λ c. not (is_reserved c)) (slice_get cells i)

-- the index of the first reserved cell, or the log's length
abbrev pub first_reserved : List Cell → ℕ
first_reserved [] = 0
first_reserved (c ∷ cells) = if is_reserved c then 0 else suc (first_reserved cells)

-- ---- changes

-- the list with x at a place of its own, or at its end
abbrev pub put_at : {A : Type 0} → List A → ℕ → A → List A
put_at xs i x = if i == length xs then xs ++ x ∷ [] else slice_set xs i x

-- the cells with new ones from an index on, in the place of those there and past the end
abbrev pub put_cells : ℕ → List Cell → List Cell → List Cell
put_cells zero [] cells = cells
put_cells zero (c ∷ new) [] = c ∷ new
put_cells zero (c ∷ new) (old ∷ cells) = c ∷ put_cells zero new cells
put_cells (suc i) new [] = []
put_cells (suc i) new (old ∷ cells) = old ∷ put_cells i new cells
