-- Changed cells, and what contracts see of a log that takes them.
use Rattle.std.specs.Prelude.{◌≡◌, ℕ, suc, ◌-◌, ◌≤◌, ◌==◌, ◌⊎◌, Bool, IsTrue, List, [], ◌∷◌, length, slice_get, if◌then◌else◌}
use Rattle.std.specs.List.{AllByRecursion, list_any}
use Rattle.ax_values.specs.Grammar.{Name}
use Rattle.ax_values.specs.Words.{same_name}
use Rattle.ax_values.specs.declared.cell.Cell.{Cell}
use Rattle.ax_log.specs.Log.{is_reserved, option_is, put_at}
use Rattle.ax_log.specs.Order.{IsOrdered}
use Rattle.ax_log.specs.declared.put.CellPut.{CellPut}

-- what takes no memory: so many new cells, and events of these aggregates
pub record Room : Type 0 where
  pub cells : ℕ
  pub names : List Name

-- the cells, and for what there is room
pub record LogView : Type 0 where
  pub cells : List Cell
  pub room : Room

abbrev pub is_known : List Name → Name → Bool
is_known names a = list_any (same_name a) names

-- an event of the cell is of one of the aggregates
abbrev pub IsKnown : List Name → Cell → Type 0
IsKnown names (Cell.Reserved a s w t) = Unit {0}
IsKnown names Cell.Void = Unit {0}
IsKnown names (Cell.Event r) = IsTrue (is_known names r.aggregate)

-- the puts take no memory
pub record HasRoom (room : Room) (puts : List CellPut) : Type 0 where
  pub cells : length puts ≤ room.cells
  pub names : AllByRecursion (λ p. IsKnown room.names p.cell) puts

-- for what there was room, there still is
pub record IsKept (old new : Room) : Type 0 where
  pub cells : old.cells ≤ new.cells
  pub names : (a : Name) → IsTrue (is_known old.names a) → IsTrue (is_known new.names a)

-- the index is the log's length, or that of a reserved cell
abbrev pub HasPlace : List Cell → ℕ → Type 0
HasPlace cells i = (i ≡ length cells) ⊎ IsTrue (option_is is_reserved (slice_get cells i))

-- the put has a place, and the log keeps its order
pub record CanPut (cells : List Cell) (put : CellPut) : Type 0 where
  pub place : HasPlace cells put.index
  pub after : IsOrdered (put_at cells put.index put.cell)

-- the puts can be made one after another
abbrev pub CanPutAll : List Cell → List CellPut → Type 0
CanPutAll cells [] = Unit {0}
CanPutAll cells (p ∷ ps) = CanPut cells p × CanPutAll (put_at cells p.index p.cell) ps

-- the cells after puts one after another
abbrev pub put_all : List CellPut → List Cell → List Cell
put_all [] cells = cells
put_all (p ∷ ps) cells = put_all ps (put_at cells p.index p.cell)

-- cells as puts at consecutive indexes
abbrev pub puts_at : ℕ → List Cell → List CellPut
puts_at i [] = []
puts_at i (c ∷ cs) = record { index = i; cell = c } ∷ puts_at (suc i) cs

-- a put at the end takes up room
abbrev pub room_after : List Cell → ℕ → CellPut → ℕ
room_after cells room put = if put.index == length cells then room - 1 else room

-- the log after a put
abbrev pub after_put : LogView → CellPut → LogView
after_put l put = record { cells = put_at l.cells put.index put.cell; room = record l.room { cells = room_after l.cells l.room.cells put } }
