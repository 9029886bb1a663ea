-- The decision of a command.
use Rattle.std.specs.Prelude.{ℕ, List, map, Option, Some, None}
use Rattle.ax_values.specs.Words.{Payload}
use Rattle.ax_rules.specs.Expr.{Row}
use Rattle.ax_upcast.specs.Upcast.{event_of_template}
use Rattle.ax_upcast.specs.declared.event.Event.{Event}
use Rattle.ax_sheet_parts.specs.Sheet.{first_failing}
use Rattle.ax_sheet_parts.specs.Commands.{Command}
use Rattle.ax_sheet.specs.declared.decision.Decided.{Decided}

abbrev pub decided_by : Option ℕ → List Event → Decided
decided_by None es = Decided.Events es
decided_by (Some g) es = Decided.Guard g

-- the first guard that fails for the row, or else the command's events with copied parameters
abbrev pub decision : Command → Payload → Row → Decided
decision command args row = decided_by (first_failing 0 command.guards row args) (map (event_of_template args) command.events)
