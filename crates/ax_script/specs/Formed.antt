-- What the form of a line says of it.
use Rattle.std.specs.Prelude.{◌≡◌, IsTrue}
use Rattle.ax_sheet.specs.Declarations.{is_segment_count, is_actor_name}
use Rattle.ax_journal.specs.Orders.{stops_last}
use Rattle.ax_script.specs.declared.line.Part.{Part}
use Rattle.ax_script.specs.declared.line.ScriptLine.{ScriptLine}

-- in which part of the script the line stands, and what it declares; a stop is the last step of an order
abbrev pub IsFormed : Part → ScriptLine → Type 0
IsFormed part ScriptLine.Axon = part ≡ Part.Start
IsFormed part (ScriptLine.Sheet sheet) = part ≡ Part.Sheet
IsFormed part (ScriptLine.Processor q) = (part ≡ Part.Head) × IsTrue (is_segment_count q.segments)
IsFormed part (ScriptLine.Actor a) = (part ≡ Part.Head) × IsTrue (is_actor_name a)
IsFormed part ScriptLine.Orders = part ≡ Part.Head
IsFormed part (ScriptLine.Order a form steps) = (part ≡ Part.Orders) × IsTrue (stops_last steps)
IsFormed part (ScriptLine.Schedule names) = part ≡ Part.Orders
