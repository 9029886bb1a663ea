-- Logs at whose end events were added.
use Rattle.std.specs.Prelude.{◌≡◌, ◌≤◌, ℕ, List, length, take}
use Rattle.ax_values.specs.Grammar.{Name}
use Rattle.ax_values.specs.declared.cell.Cell.{Cell}
use Rattle.ax_log.specs.Log.{Stored, stream_of}

-- the first k events of a stream are so still
pub record IsFront (k : ℕ) (old new : List Stored) : Type 0 where
  pub within : k ≤ length new
  pub same : take k new ≡ take k old

-- each stream begins as it was
pub record Grows (old new : List Cell) : Type 0 where
  pub front : (a : Name) (k : ℕ) → k ≤ length (stream_of a old) → IsFront k (stream_of a old) (stream_of a new)
