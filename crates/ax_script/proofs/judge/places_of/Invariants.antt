use Rattle.std.proofs.Common.{◌≡◌, map, take}
use Rattle.ax_script.specs.Judging.{actor_place}
use Rattle.ax_script.proofs.judge.places_of.Given as goal

abbrev pub invariant-loop-name : goal.invariant-loop-name
invariant-loop-name l = l.places.items ≡ map (actor_place l.actors) (take l.name-index l.names)
