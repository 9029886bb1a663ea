-- The index of the log: of each aggregate the last event, and of each event the one before it in its stream.
use Rattle.std.specs.Prelude.{◌≡◌, ℕ, suc, ◌≤◌, Bool, false, IsTrue, List, length, take, Some, slice_get, if◌then◌else◌}
use Rattle.std.specs.Option.{unwrap_or}
use Rattle.std.specs.Map.{lookup}
use Rattle.ax_values.specs.Grammar.{Name}
use Rattle.ax_values.specs.Words.{same_name}
use Rattle.ax_values.specs.declared.record.Record.{Record}
use Rattle.ax_values.specs.declared.cell.Cell.{Cell}
use Rattle.ax_log.specs.Log.{stream_of, option_is}

-- an event of the aggregate is in the cell
abbrev pub has_event_of : Name → Cell → Bool
has_event_of a (Cell.Reserved b s w t) = false
has_event_of a Cell.Void = false
has_event_of a (Cell.Event r) = same_name r.aggregate a

-- l is one more than the index of the aggregate's last event, or 0 where it has none
pub record IsLast (a : Name) (cells : List Cell) (l : ℕ) : Type 0 where
  pub within : l ≤ length cells
  pub all : stream_of a (take l cells) ≡ stream_of a cells
  pub own : (k : ℕ) → l ≡ suc k → IsTrue (option_is (has_event_of a) (slice_get cells k))

-- the number of an aggregate, or 0
abbrev pub last_of : Name → List (Name × ℕ) → ℕ
last_of a last = unwrap_or (lookup (same_name a) last) 0

-- at each event's index stands the last event before it of its aggregate, and at each aggregate its last event
pub record IsIndexed (cells : List Cell) (before : List ℕ) (last : List (Name × ℕ)) : Type 0 where
  pub long : length before ≡ length cells
  pub linked : (i : ℕ) (r : Record) (l : ℕ) → slice_get cells i ≡ Some (Cell.Event r) → slice_get before i ≡ Some l → IsLast r.aggregate (take i cells) l
  pub lasts : (a : Name) → IsLast a cells (last_of a last)

-- the aggregate's last event after a cell is put
abbrev pub last_after : ℕ → Cell → Name → ℕ → ℕ
last_after i x a l = if has_event_of a x then suc i else l

-- the last event before a cell that is put, of its aggregate
abbrev pub before_of : Cell → List (Name × ℕ) → ℕ
before_of (Cell.Reserved a s w t) last = 0
before_of Cell.Void last = 0
before_of (Cell.Event r) last = last_of r.aggregate last
