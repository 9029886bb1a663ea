use Rattle.std.proofs.Common.{◌≡◌, ◌++◌}
use Rattle.std.specs.Vec.Iter.{into_iter_items}
use Rattle.ax_script.proofs.reading.add_steps.Given as goal

-- the queue so far and the steps that are left are all of it
abbrev pub invariant-loop-step : goal.invariant-loop-step
invariant-loop-step l =
    (goal.iterator-loop-step).can_next l.step-iterator
    × (goal.iterator-loop-step).is_finite l.step-iterator
    × (l.queue ++ into_iter_items l.step-iterator ≡ l.initial.queue ++ l.fn.steps)
