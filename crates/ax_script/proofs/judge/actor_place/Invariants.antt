use Rattle.std.proofs.Common.{◌≡◌, ◌+◌, drop}
use Rattle.ax_script.specs.Judging.{actor_place}
use Rattle.ax_script.proofs.judge.actor_place.Given as goal

-- the place is behind the actors so far
abbrev pub invariant-loop-place : goal.invariant-loop-place
invariant-loop-place l = l.place + actor_place (drop l.place l.actors) l.name ≡ actor_place l.actors l.name
