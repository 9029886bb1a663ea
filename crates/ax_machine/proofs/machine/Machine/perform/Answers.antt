use Rattle.ax_machine.proofs.Performed.{turn-known, turn-performed, turn-actor, turn-room, room-after, turn-machine, fence-below}
use Rattle.ax_machine.proofs.machine.Machine.perform.Goals as goal

pub perform_next-requires-clause-known : goal.perform_next-requires-clause-known
perform_next-requires-clause-known c = turn-known _ c.args.actor c.self.invariant.0 (rw (← c.self.view_is) at c.requires)

pub perform_next-requires-clause-performed : goal.perform_next-requires-clause-performed
perform_next-requires-clause-performed c = turn-performed _ c.args.actor c.self.invariant.0 (rw (← c.self.view_is) at c.requires)

pub perform_next-requires-clause-actor : goal.perform_next-requires-clause-actor
perform_next-requires-clause-actor c = turn-actor _ c.args.actor c.self.invariant.0 (rw (← c.self.view_is) at c.requires)

pub perform_next-requires-clause-fence : goal.perform_next-requires-clause-fence
perform_next-requires-clause-fence c = fence-below _ c.self.invariant.0

pub perform_next-requires-clause-room : goal.perform_next-requires-clause-room
perform_next-requires-clause-room c = turn-room c.self.inside.left.items c.args.actor _ _ (rw (← c.self.view_is) at c.requires) c.self.invariant.1

pub invariant_of-self-2 : goal.invariant_of-self-2
invariant_of-self-2 c = (
  turn-machine _ c.args.actor _ _ _ c.self.invariant.0 (rw (← c.self.view_is) at c.requires) c.in_ok-perform_next.ensures.entry c.in_ok-perform_next.ensures.state c.in_ok-perform_next.ensures.left,
  room-after c.self.inside.left.items _ c.args.actor _ _ _ _ (rw (← c.self.view_is) at c.requires) c.self.invariant.1 c.in_ok-perform_next.ensures.len c.in_ok-perform_next.ensures.capacity c.in_ok-perform_next.ensures.left,
)
