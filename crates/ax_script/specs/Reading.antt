-- The reader of scripts: a plan, or the first faulty line and the first kind of its fault.
use Rattle.std.specs.Prelude.{ℕ, ◌+◌, ◌==◌, Bool, true, false, ◌&&◌, List, [], ◌∷◌, ◌++◌, map, length, Option, Some, None, option_map, Result, Ok, Err, slice_set, replicate, nat_lt, if◌then◌else◌}
use Rattle.std.specs.List.{list_all}
use Rattle.ax_values.specs.Grammar.{Line, is_plain_byte}
use Rattle.ax_journal.specs.declared.form.Form.{Form}
use Rattle.ax_journal.specs.declared.order.Order.{Order}
use Rattle.ax_script.specs.declared.line.Part.{Part}
use Rattle.ax_script.specs.declared.line.ScriptLine.{ScriptLine}
use Rattle.ax_script.specs.declared.kind.ScriptKind.{ScriptKind}
use Rattle.ax_script.specs.Lines.{ended_lines, last_bytes}
use Rattle.ax_script.specs.Forms.{form_in}
use Rattle.ax_script.specs.Judging.{Reading, nothing_read, actor_place, shows_in, first_kind}
use Rattle.ax_script.specs.Queues.{queue_of}
use Rattle.ax_script.specs.Plans.{Plan}

-- the first faulty line, counted from 1, and its fault
pub record Wrong : Type 0 where
  pub line : ℕ
  pub kind : ScriptKind

abbrev pub wrong : ℕ → ScriptKind → Wrong
wrong n kind = record { line = n; kind = kind }

-- ---- what a good line adds

-- steps of the actor of a number
abbrev pub with_steps : Reading → ℕ → List Order → Reading
with_steps r actor steps = record r {
  orders = slice_set r.orders actor (queue_of r.orders actor ++ steps);
  schedule = r.schedule ++ replicate (length steps) actor;
  steps = r.steps + length steps;
  shows = r.shows + shows_in steps;
}

unfoldable pub with_line : Reading → ScriptLine → Reading
with_line r ScriptLine.Axon = record r { part = Part.Sheet }
with_line r (ScriptLine.Sheet sheet) = record r { part = Part.Head; sheet = sheet }
with_line r (ScriptLine.Processor q) = record r { processors = r.processors ++ q ∷ [] }
with_line r (ScriptLine.Actor a) = record r { actors = r.actors ++ a ∷ []; orders = r.orders ++ [] ∷ [] }
with_line r ScriptLine.Orders = record r { part = Part.Orders }
with_line r (ScriptLine.Order a form steps) = with_steps r (actor_place r.actors a) steps
with_line r (ScriptLine.Schedule names) = record r { part = Part.End; schedule = map (actor_place r.actors) names }

-- ---- one line

abbrev pub unless_kind : Option ScriptKind → Reading → Result Reading ScriptKind
unless_kind None next = Ok next
unless_kind (Some kind) next = Err kind

abbrev pub formed : (Form → Bool) → Reading → Option ScriptLine → Result Reading ScriptKind
formed built r None = Err ScriptKind.Form
formed built r (Some line) = unless_kind (first_kind built r line) (with_line r line)

-- empty lines and lines that begin with `#` are skipped
abbrev pub is_skipped : Line → Bool
is_skipped [] = true
is_skipped (c ∷ cs) = c == 35

abbrev pub unskipped : Bool → (Form → Bool) → Reading → Line → Result Reading ScriptKind
unskipped true built r line = Ok r
unskipped false built r line = formed built r (form_in r.part line)

abbrev pub clean : Bool → (Form → Bool) → Reading → Line → Result Reading ScriptKind
clean true built r line = unskipped (is_skipped line) built r line
clean false built r line = Err ScriptKind.Bytes

-- a line, skipped lines too, has bytes from 32 to 126 alone
unfoldable pub line_read : (Form → Bool) → Reading → Line → Result Reading ScriptKind
line_read built r line = clean (list_all is_plain_byte line) built r line

-- ---- all lines

abbrev pub read_on : ℕ → Result Reading ScriptKind → (Reading → Result Reading Wrong) → Result Reading Wrong
read_on n (Ok r) later = later r
read_on n (Err kind) later = Err (wrong n kind)

-- the lines, the first of which has the number n
abbrev pub lines_read : (Form → Bool) → ℕ → Reading → List Line → Result Reading Wrong
lines_read built n r [] = Ok r
lines_read built n r (l ∷ ls) = read_on n (line_read built r l) (λ next. lines_read built (n + 1) next ls)

-- ---- the script

-- whether the orders have begun
abbrev pub has_orders : Part → Bool
has_orders Part.Start = false
has_orders Part.Sheet = false
has_orders Part.Head = false
has_orders Part.Orders = true
has_orders Part.End = true

abbrev pub plan_of : Reading → Option Plan
plan_of r = option_map (λ sheet. record { sheet = sheet; processors = r.processors; actors = r.actors; orders = r.orders; schedule = r.schedule }) r.sheet

abbrev pub is_empty : Line → Bool
is_empty [] = true
is_empty (c ∷ cs) = false

abbrev pub plan_or_cut : ℕ → Option Plan → Result Plan Wrong
plan_or_cut n None = Err (wrong n ScriptKind.Cut)
plan_or_cut n (Some plan) = Ok plan

-- cut, at the line after the ended ones: the last line has no end, or the input ends before the orders
abbrev pub unless_cut : ℕ → Line → Result Reading Wrong → Result Plan Wrong
unless_cut n rest (Err w) = Err w
unless_cut n rest (Ok r) = plan_or_cut n (if is_empty rest && has_orders r.part then plan_of r else None)

abbrev pub most_bytes : ℕ
most_bytes = 8388608

abbrev pub unless_long : Bool → (Form → Bool) → Line → Result Plan Wrong
unless_long true built text = Err (wrong 0 ScriptKind.Long)
unless_long false built text = unless_cut (length (ended_lines text) + 1) (last_bytes text) (lines_read built 1 nothing_read (ended_lines text))

-- the plan of a script, or its first fault; `built` says which forms of orders are there
unfoldable pub script_in : (Form → Bool) → Line → Result Plan Wrong
script_in built text = unless_long (nat_lt most_bytes (length text)) built text
