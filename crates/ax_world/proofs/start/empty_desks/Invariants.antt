-- the desks so far, and those of the actors that are left
use Rattle.std.proofs.Common.{◌≡◌, ◌++◌, map, drop}
use Rattle.ax_world.specs.WorldTables.{no_desk}
use Rattle.ax_world.proofs.start.empty_desks.Given as goal

abbrev pub invariant-loop : goal.invariant-loop
invariant-loop l = l.desks.items ++ map (λ actor. no_desk) (drop l.index l.actors) ≡ map (λ actor. no_desk) l.actors
