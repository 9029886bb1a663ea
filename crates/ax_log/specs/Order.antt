-- What every log keeps: index order and sequence order agree.
use Rattle.std.specs.Prelude.{◌≡◌, ℕ, suc, ◌≤◌, Bool, true, IsTrue, nat_le, List, [], ◌∷◌, length, take, Some, slice_get}
use Rattle.std.specs.List.{list_all}
use Rattle.ax_values.specs.Grammar.{Name}
use Rattle.ax_values.specs.declared.record.Record.{Record}
use Rattle.ax_values.specs.declared.cell.Cell.{Cell}
use Rattle.ax_log.specs.Log.{Stored, stream_of, length_of}

-- the most cells of a log
abbrev pub max_cells : ℕ
max_cells = 200000

-- the most fields of an event
abbrev pub max_fields : ℕ
max_fields = 16

abbrev pub has_few_fields : Record → Bool
has_few_fields r = nat_le (length r.payload) max_fields

-- an event of the cell has few fields
abbrev pub is_small : Cell → Bool
is_small (Cell.Reserved a s w t) = true
is_small Cell.Void = true
is_small (Cell.Event r) = has_few_fields r

-- the events are numbered in order, from n on
abbrev pub AreNumbered : ℕ → List Stored → Type 0
AreNumbered n [] = Unit {0}
AreNumbered n (e ∷ es) = (e.record_of.seq ≡ n) × AreNumbered (suc n) es

-- The first number of a reserved cell at index i is at most the stream's length. Where it is equal, all events of the
-- aggregate stand before the cell
pub record IsReservedRight (cells : List Cell) (i : ℕ) (a : Name) (seq : ℕ) : Type 0 where
  pub bound : seq ≤ length_of a cells
  pub before : seq ≡ length_of a cells → length_of a (take i cells) ≡ length_of a cells

pub record IsOrdered (cells : List Cell) : Type 0 where
  pub numbered : (a : Name) → AreNumbered 0 (stream_of a cells)
  pub reserved : (i : ℕ) (a : Name) (s : ℕ) (w : Name) (t : ℕ) → slice_get cells i ≡ Some (Cell.Reserved a s w t) → IsReservedRight cells i a s
  pub size : length cells ≤ max_cells
  pub small : IsTrue (list_all is_small cells)
