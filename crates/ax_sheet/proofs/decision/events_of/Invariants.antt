use Rattle.std.proofs.Common.{◌≡◌, map, take}
use Rattle.ax_upcast.specs.Upcast.{event_of_template}
use Rattle.ax_sheet.proofs.decision.events_of.Given as goal

-- the events so far
abbrev pub invariant-loop-template : goal.invariant-loop-template
invariant-loop-template l = l.events ≡ map (event_of_template l.args) (take l.template-index l.templates)
