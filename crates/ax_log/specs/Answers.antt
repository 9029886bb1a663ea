-- What reserve, append and void answer, and why they refuse.
use Rattle.std.specs.Prelude.{◌≡◌, ◌≢◌, ℕ, suc, ◌+◌, ◌<◌, ◌≤◌, ◌⊎◌, List, [], ◌∷◌, length, take, drop, Option, Some, None, Result, Ok, Err, nat_lt, slice_get, if◌then◌else◌}
use Rattle.ax_values.specs.Grammar.{Name}
use Rattle.ax_values.specs.declared.record.Record.{Record}
use Rattle.ax_values.specs.declared.cell.Cell.{Cell}
use Rattle.ax_log.specs.Log.{length_of, is_void}
use Rattle.ax_log.specs.Order.{max_cells}
use Rattle.ax_log.specs.declared.put.CellPut.{CellPut}
use Rattle.ax_log.specs.declared.fault.LogFault.{LogFault}

-- ---- reserve

-- it is refused exactly where the cells would pass the limit
abbrev pub IsReserveAnswer : {A : Type 0} → List Cell → ℕ → Result A LogFault → Type 0
IsReserveAnswer cells count (Ok x) = length cells + count ≤ max_cells
IsReserveAnswer cells count (Err LogFault.LogFull) = max_cells < length cells + count
IsReserveAnswer cells count (Err LogFault.Memory) = Unit {0}
IsReserveAnswer cells count (Err (LogFault.Conflict e f)) = ⊥
IsReserveAnswer cells count (Err (LogFault.Voided i)) = ⊥
IsReserveAnswer cells count (Err LogFault.NotReserved) = ⊥
IsReserveAnswer cells count (Err (LogFault.Young t)) = ⊥

-- ---- append

-- the records are of one aggregate, numbered from n
abbrev pub AreOf : Name → ℕ → List Record → Type 0
AreOf a n [] = Unit {0}
AreOf a n (r ∷ rs) = (r.aggregate ≡ a) × (r.seq ≡ n) × AreOf a (suc n) rs

-- the records' aggregate, and their first number
abbrev pub aggregate_of : List Record → Name
aggregate_of [] = []
aggregate_of (r ∷ rs) = r.aggregate

abbrev pub number_of : List Record → ℕ
number_of [] = 0
number_of (r ∷ rs) = r.seq

-- the cell is void, or reserved for the aggregate and the first number
abbrev pub IsKeptFor : Name → ℕ → Option Cell → Type 0
IsKeptFor a s None = ⊥
IsKeptFor a s (Some Cell.Void) = Unit {0}
IsKeptFor a s (Some (Cell.Event r)) = ⊥
IsKeptFor a s (Some (Cell.Reserved b t w at)) = (b ≡ a) × (t ≡ s)

-- from an index on there is a cell for each record, void or reserved for the records
pub record TakesKept (cells : List Cell) (first : ℕ) (rs : List Record) : Type 0 where
  pub numbered : AreOf (aggregate_of rs) (number_of rs) rs
  pub kept : (k : ℕ) → k < length rs → IsKeptFor (aggregate_of rs) (number_of rs) (slice_get cells (first + k))

-- the records go on with the stream at the log's end
pub record TakesEnd (cells : List Cell) (first : ℕ) (rs : List Record) : Type 0 where
  pub numbered : AreOf (aggregate_of rs) (length_of (aggregate_of rs) cells) rs
  pub end : first ≡ length cells

abbrev pub HasCells : List Cell → ℕ → List Record → Type 0
HasCells cells first rs = TakesKept cells first rs ⊎ TakesEnd cells first rs

-- the index of the first void cell among those, the first of which has the index i
abbrev pub first_void : ℕ → List Cell → Option ℕ
first_void i [] = None
first_void i (c ∷ cells) = if is_void c then Some i else first_void (suc i) cells

-- the first void cell of the records' cells
abbrev pub void_among : List Cell → ℕ → List Record → Option ℕ
void_among cells first rs = first_void first (take (length rs) (drop first cells))

-- no cell of the records is void, and they go on with the stream
pub record GoesOn (cells : List Cell) (first : ℕ) (rs : List Record) : Type 0 where
  pub clear : void_among cells first rs ≡ None
  pub next : length_of (aggregate_of rs) cells ≡ number_of rs
  pub room : first + length rs ≤ max_cells

-- no cell of the records is void, but the stream is not where they were to go on
pub record IsConflict (cells : List Cell) (first : ℕ) (rs : List Record) (expected found : ℕ) : Type 0 where
  pub clear : void_among cells first rs ≡ None
  pub expected_is : expected ≡ number_of rs
  pub found_is : found ≡ length_of (aggregate_of rs) cells
  pub differ : found ≢ expected

-- it is refused for a void cell, then for the stream's length, and at the end for the limit
abbrev pub IsAppendAnswer : {A : Type 0} → List Cell → ℕ → List Record → Result A LogFault → Type 0
IsAppendAnswer cells first rs (Ok x) = GoesOn cells first rs
IsAppendAnswer cells first rs (Err (LogFault.Voided i)) = void_among cells first rs ≡ Some i
IsAppendAnswer cells first rs (Err (LogFault.Conflict e f)) = IsConflict cells first rs e f
IsAppendAnswer cells first rs (Err LogFault.LogFull) = max_cells < first + length rs
IsAppendAnswer cells first rs (Err LogFault.Memory) = Unit {0}
IsAppendAnswer cells first rs (Err LogFault.NotReserved) = ⊥
IsAppendAnswer cells first rs (Err (LogFault.Young t)) = ⊥

-- ---- void

-- for how long a reserved cell may not be made void, in milliseconds
abbrev pub void_period : ℕ
void_period = 60000

-- what making the cell at an index void answers at a moment
abbrev pub voiding : ℕ → ℕ → Option Cell → Result CellPut LogFault
voiding i now None = Err LogFault.NotReserved
voiding i now (Some Cell.Void) = Err LogFault.NotReserved
voiding i now (Some (Cell.Event r)) = Err LogFault.NotReserved
voiding i now (Some (Cell.Reserved a s w at)) = if nat_lt (at + void_period) now then Ok (record { index = i; cell = Cell.Void }) else Err (LogFault.Young at)
