-- the processor_tables so far, and those of the processors that are left
use Rattle.std.proofs.Common.{◌≡◌, ◌+◌, ◌*◌, ◌≤◌, ◌++◌, map, drop, None}
use Rattle.ax_state.specs.State.{first_processors}
use Rattle.ax_world.specs.WorldTables.{bare}
use Rattle.ax_world.proofs.start.first_places.Given as goal

abbrev pub invariant-loop-processor : goal.invariant-loop-processor
invariant-loop-processor l =
    (l.fence ≤ 1 + l.processor-index * 4294967296)
    × (map (λ x. x.place) l.processor_tables.items ++ map (bare None) (first_processors (drop l.processor-index l.processors) l.fence) ≡ map (bare None) (first_processors l.processors 1))
