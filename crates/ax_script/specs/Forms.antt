-- The form of a line, by the part of the script that it stands in and its bytes alone.
use Rattle.std.specs.Prelude.{ℕ, Bool, true, false, not, List, [], ◌∷◌, Option, Some, None, option_map, codes, if◌then◌else◌}
use Rattle.ax_values.specs.Grammar.{Name, Line, ◌>>=◌, when, each_in, line_words, name_in, after_front}
use Rattle.ax_values.specs.Words.{same_name}
use Rattle.ax_sheet.specs.Sheet.{Sheet}
use Rattle.ax_sheet.specs.Shape.{sheet_in}
use Rattle.ax_sheet.specs.Cards.{cards}
use Rattle.ax_journal.specs.Form.{worded}
use Rattle.ax_journal.specs.Orders.{steps_in}
use Rattle.ax_journal.specs.declared.arguments.Arguments.{Arguments}
use Rattle.ax_script.specs.declared.line.Part.{Part}
use Rattle.ax_script.specs.declared.line.ScriptLine.{ScriptLine}

-- ---- the sheet

abbrev pub sheet_by : Bool → Line → Option Sheet
sheet_by true text = Some cards
sheet_by false text = sheet_in text

-- the sheet that the second line names or spells, where it does
abbrev pub sheet_at : Line → Option Sheet
sheet_at text = sheet_by (same_name text (codes "cards")) text

-- at least one byte stands behind `sheet `
abbrev pub sheet_line : Line → Option ScriptLine
sheet_line [] = None
sheet_line (c ∷ cs) = Some (ScriptLine.Sheet (sheet_at (c ∷ cs)))

-- ---- the head

-- 1, 2, 4, 8 or 16
abbrev pub segments_in : Line → Option ℕ
segments_in w = if same_name w (codes "1") then Some 1
    else (if same_name w (codes "2") then Some 2
    else (if same_name w (codes "4") then Some 4
    else (if same_name w (codes "8") then Some 8
    else when (same_name w (codes "16")) 16)))

abbrev pub processor_kind_in : Line → Option Bool
processor_kind_in w = if same_name w (codes "saga") then Some true else when (same_name w (codes "processor")) false

-- a name other than `schedule`
abbrev pub actor_in : Line → Option Name
actor_in a = when (not (same_name a (codes "schedule"))) a >>= name_in

abbrev pub head_in : List Line → Option ScriptLine
head_in (w ∷ []) = when (same_name w (codes "orders")) ScriptLine.Orders
head_in (w ∷ a ∷ []) = when (same_name w (codes "actor")) a >>= actor_in >>= λ name. Some (ScriptLine.Actor name)
head_in (w ∷ p ∷ n ∷ []) = do
  saga ← processor_kind_in w
  name ← name_in p
  segments ← segments_in n
  Some (ScriptLine.Processor (record { name = name; saga = saga; segments = segments }))
head_in ws = None

-- ---- the orders

unfoldable pub order_in : Line → List Line → Option ScriptLine
order_in a ws = do
  actor ← name_in a
  w ← worded ws
  steps ← steps_in Arguments.AnyOrder w.form w.fields
  Some (ScriptLine.Order actor w.form steps)

abbrev pub orders_by : Bool → Line → List Line → Option ScriptLine
orders_by true w ws = option_map ScriptLine.Schedule (each_in name_in ws)
orders_by false w ws = order_in w ws

-- `schedule` and actors, or an actor and its order
abbrev pub orders_in : List Line → Option ScriptLine
orders_in [] = None
orders_in (w ∷ ws) = orders_by (same_name w (codes "schedule")) w ws

-- ---- by part

-- what a line is that may stand there; nothing stands after the schedule
abbrev pub form_in : Part → Line → Option ScriptLine
form_in Part.Start line = when (same_name line (codes "axon 1")) ScriptLine.Axon
form_in Part.Sheet line = after_front (codes "sheet ") line >>= sheet_line
form_in Part.Head line = head_in (line_words line)
form_in Part.Orders line = orders_in (line_words line)
form_in Part.End line = None
