-- What judges a line whose form is right: a definition for each kind of fault, over what was read before.
use Rattle.std.specs.Prelude.{ℕ, ◌+◌, ◌==◌, Bool, true, false, not, ◌&&◌, ◌||◌, List, [], ◌∷◌, map, length, find, count_by, is_none, Option, Some, None, option_map, nat_lt, if◌then◌else◌}
use Rattle.std.specs.List.{list_any, list_all}
use Rattle.ax_values.specs.Grammar.{Name}
use Rattle.ax_values.specs.Words.{Payload, same_name, place_where}
use Rattle.ax_sheet.specs.Sheet.{Sheet, command_named, fits}
use Rattle.ax_sheet.specs.Commands.{Command}
use Rattle.ax_sheet.specs.Declarations.{is_of_sheet, most_actors, most_processors, same_flag, Processor}
use Rattle.ax_journal.specs.Orders.{is_stop}
use Rattle.ax_journal.specs.declared.form.Form.{Form}
use Rattle.ax_journal.specs.declared.order.Order.{Order}
use Rattle.ax_script.specs.Queues.{queue_of, schedule_fits}
use Rattle.ax_script.specs.declared.line.Part.{Part}
use Rattle.ax_script.specs.declared.line.ScriptLine.{ScriptLine}
use Rattle.ax_script.specs.declared.kind.ScriptKind.{ScriptKind}

-- ---- what has been read

pub record Reading : Type 0 where
  pub part : Part
  pub sheet : Option Sheet
  pub processors : List Processor
  pub actors : List Name
  pub orders : List (List Order)
  pub schedule : List ℕ
  pub steps : ℕ
  pub shows : ℕ

abbrev pub nothing_read : Reading
nothing_read = record { part = Part.Start; sheet = None; processors = []; actors = []; orders = []; schedule = []; steps = 0; shows = 0 }

-- the number of an actor, or that of all actors
abbrev pub actor_place : List Name → Name → ℕ
actor_place actors name = place_where (λ a. same_name a name) actors

-- ---- later: a form that is not built yet

abbrev pub is_later : (Form → Bool) → ScriptLine → Bool
is_later built (ScriptLine.Order a form steps) = not (built form)
is_later built (ScriptLine.Schedule names) = not (built Form.Fetch)
is_later built (ScriptLine.Processor q) = if q.saga then not (built Form.Advance) else (not (q.segments == 1) && not (built Form.Fetch))
is_later built ScriptLine.Axon = false
is_later built (ScriptLine.Sheet sheet) = false
is_later built (ScriptLine.Actor a) = false
is_later built ScriptLine.Orders = false

-- ---- sheet: what follows `sheet ` is no sheet

abbrev pub is_no_sheet : ScriptLine → Bool
is_no_sheet (ScriptLine.Sheet sheet) = is_none sheet
is_no_sheet line = false

-- ---- twice: declared again under its name

abbrev pub is_declared : List Name → Name → Bool
is_declared actors a = list_any (λ b. same_name b a) actors

abbrev pub is_twice : Reading → ScriptLine → Bool
is_twice r (ScriptLine.Processor q) = list_any (λ p. same_name p.name q.name) r.processors
is_twice r (ScriptLine.Actor a) = is_declared r.actors a
is_twice r line = false

-- ---- unknown: a name that is not declared, or of the wrong kind, or arguments that do not fit

abbrev pub is_processor : List Processor → Name → Bool
is_processor qs name = list_any (λ p. same_name p.name name) qs

abbrev pub has_processor : List Processor → Bool → Name → Bool
has_processor qs saga name = list_any (λ p. same_name p.name name && same_flag p.saga saga) qs

abbrev pub fits_found : Option Command → Payload → Bool
fits_found None args = false
fits_found (Some command) args = fits command args

-- a command of the sheet, with exactly its parameters
abbrev pub is_command : Option Sheet → Name → Payload → Bool
is_command None name args = false
is_command (Some sheet) name args = fits_found (command_named sheet name) args

-- whether the names of a step are declared, each of the right kind
unfoldable pub is_known : Option Sheet → List Processor → Order → Bool
is_known sheet qs (Order.Send a c args) = is_command sheet c args
is_known sheet qs (Order.Claim p s) = is_processor qs p
is_known sheet qs (Order.Extend p s) = is_processor qs p
is_known sheet qs (Order.Release p s) = is_processor qs p
is_known sheet qs (Order.Split p s) = is_processor qs p
is_known sheet qs (Order.Merge p s) = is_processor qs p
is_known sheet qs (Order.ShowTokens p) = is_processor qs p
is_known sheet qs (Order.Advance p s n) = has_processor qs true p
is_known sheet qs (Order.ShowSagas p) = has_processor qs true p
is_known sheet qs (Order.Reset p) = has_processor qs false p
is_known sheet qs (Order.Fetch p s n) = has_processor qs false p
is_known sheet qs (Order.Take p) = has_processor qs false p
is_known sheet qs (Order.Evict p x) = has_processor qs false p
is_known sheet qs (Order.Policy p keep) = has_processor qs false p
is_known sheet qs (Order.Mark p x) = has_processor qs false p
is_known sheet qs (Order.Heal p x) = has_processor qs false p
is_known sheet qs (Order.ShowRows p) = has_processor qs false p
is_known sheet qs (Order.ShowLetters p) = has_processor qs false p
is_known sheet qs (Order.Tick ms) = true
is_known sheet qs Order.Append = true
is_known sheet qs (Order.Void i) = true
is_known sheet qs (Order.Snapshot a) = true
is_known sheet qs Order.Deliver = true
is_known sheet qs Order.Commit = true
is_known sheet qs Order.Settle = true
is_known sheet qs Order.Stop = true
is_known sheet qs Order.ShowLog = true
is_known sheet qs Order.ShowSent = true

abbrev pub is_of_read_sheet : Option Sheet → Processor → Bool
is_of_read_sheet None q = false
is_of_read_sheet (Some sheet) q = is_of_sheet sheet q

abbrev pub is_unknown : Reading → ScriptLine → Bool
is_unknown r (ScriptLine.Processor q) = not (is_of_read_sheet r.sheet q)
is_unknown r (ScriptLine.Order a form steps) = not (is_declared r.actors a && list_all (is_known r.sheet r.processors) steps)
is_unknown r (ScriptLine.Schedule names) = not (list_all (is_declared r.actors) names)
is_unknown r ScriptLine.Axon = false
is_unknown r (ScriptLine.Sheet sheet) = false
is_unknown r (ScriptLine.Actor a) = false
is_unknown r ScriptLine.Orders = false

-- ---- limit: a count passes its limit here

abbrev pub most_steps : ℕ
most_steps = 100000

abbrev pub most_shows : ℕ
most_shows = 8

unfoldable pub is_show : Order → Bool
is_show (Order.ShowRows p) = true
is_show (Order.ShowTokens p) = true
is_show (Order.ShowLetters p) = true
is_show (Order.ShowSagas p) = true
is_show Order.ShowLog = true
is_show Order.ShowSent = true
is_show order = false

abbrev pub shows_in : List Order → ℕ
shows_in os = count_by is_show os

abbrev pub is_past_limit : Reading → ScriptLine → Bool
is_past_limit r (ScriptLine.Processor q) = nat_lt most_processors (length r.processors + 1)
is_past_limit r (ScriptLine.Actor a) = nat_lt most_actors (length r.actors + 1)
is_past_limit r (ScriptLine.Order a form steps) = nat_lt most_steps (r.steps + length steps) || nat_lt most_shows (r.shows + shows_in steps)
is_past_limit r ScriptLine.Axon = false
is_past_limit r (ScriptLine.Sheet sheet) = false
is_past_limit r ScriptLine.Orders = false
is_past_limit r (ScriptLine.Schedule names) = false

-- ---- stopped: the actor stopped on an earlier line, so the stop is its last step

abbrev pub ends_in_stop : List Order → Bool
ends_in_stop [] = false
ends_in_stop (o ∷ []) = is_stop o
ends_in_stop (o ∷ p ∷ os) = ends_in_stop (p ∷ os)

abbrev pub is_after_stop : Reading → ScriptLine → Bool
is_after_stop r (ScriptLine.Order a form steps) = ends_in_stop (queue_of r.orders (actor_place r.actors a))
is_after_stop r line = false

-- ---- schedule: an actor's count in the schedule line is wrong

abbrev pub is_wrong_schedule : Reading → ScriptLine → Bool
is_wrong_schedule r (ScriptLine.Schedule names) = not (schedule_fits 0 r.orders (map (actor_place r.actors) names))
is_wrong_schedule r line = false

-- ---- the first fault of a line

pub record Judged : Type 0 where
  pub fails : Bool
  pub kind : ScriptKind

abbrev pub judged : Bool → ScriptKind → Judged
judged fails kind = record { fails = fails; kind = kind }

-- the kinds that are judged of a line whose form is right, in their order
abbrev pub judgements : (Form → Bool) → Reading → ScriptLine → List Judged
judgements built r line =
    judged (is_later built line) ScriptKind.Later
    ∷ judged (is_no_sheet line) ScriptKind.Sheet
    ∷ judged (is_twice r line) ScriptKind.Twice
    ∷ judged (is_unknown r line) ScriptKind.Unknown
    ∷ judged (is_past_limit r line) ScriptKind.Limit
    ∷ judged (is_after_stop r line) ScriptKind.Stopped
    ∷ judged (is_wrong_schedule r line) ScriptKind.Schedule
    ∷ []

unfoldable pub first_kind : (Form → Bool) → Reading → ScriptLine → Option ScriptKind
first_kind built r line = option_map (λ j. j.kind) (find (λ j. j.fails) (judgements built r line))
