-- what is kept stays, and the tables so far have room
use Rattle.std.proofs.Common.{◌≡◌, ◌<◌, ◌≤◌, ℕ, map, length}
use Rattle.ax_state.specs.Every.{count}
use Rattle.ax_world.specs.WorldTables.{room_in}
use Rattle.ax_world.specs.Fits.{puts_mark, puts_row}
use Rattle.ax_world.proofs.places.reserve_entries.Given as goal

abbrev pub invariant-loop-processor : goal.invariant-loop-processor
invariant-loop-processor l =
    (length l.processor_tables.items ≡ length l.initial.processor_tables.items)
    × (map (λ x. x.place) l.processor_tables.items ≡ map (λ x. x.place) l.initial.processor_tables.items)
    × ((q : ℕ) → q < l.processor → count (puts_row q) l.edits ≤ (room_in (map (λ x. x.room) l.processor_tables.items) q).rows)
    × ((q : ℕ) → q < l.processor → count (puts_mark q) l.edits ≤ (room_in (map (λ x. x.room) l.processor_tables.items) q).marks)
