-- What holds of all that has been read of a script without a fault.
use Rattle.std.specs.Prelude.{◌≡◌, ◌≤◌, ◌<◌, Bool, true, false, [], length, map, count_by, IsTrue}
use Rattle.std.specs.List.{list_all}
use Rattle.ax_sheet.specs.Declarations.{is_segment_count, names_differ, most_actors, most_processors, is_actor_name}
use Rattle.ax_journal.specs.Orders.{stops_last}
use Rattle.ax_script.specs.declared.line.Part.{Part}
use Rattle.ax_script.specs.declared.line.ScriptLine.{ScriptLine}
use Rattle.ax_script.specs.Judging.{Reading, actor_place, is_of_read_sheet, is_known, is_show, most_steps, most_shows}
use Rattle.ax_script.specs.Queues.{all_of}
use Rattle.ax_script.specs.Plans.{IsSchedule}

-- the sheet has not been read
abbrev pub is_early : Part → Bool
is_early Part.Start = true
is_early Part.Sheet = true
is_early part = false

-- no order has been read
abbrev pub is_idle : Part → Bool
is_idle Part.Orders = false
is_idle Part.End = false
is_idle part = true

pub record Stands (r : Reading) : Type 0 where
  pub early : is_early r.part ≡ true → r.processors ≡ []
  pub idle : is_idle r.part ≡ true → all_of r.orders ≡ []
  pub few_processors : length r.processors ≤ most_processors
  pub processors_differ : IsTrue (names_differ (map (λ q. q.name) r.processors))
  pub of_sheet : IsTrue (list_all (is_of_read_sheet r.sheet) r.processors)
  pub counts : IsTrue (list_all (λ q. is_segment_count q.segments) r.processors)
  pub few_actors : length r.actors ≤ most_actors
  pub actors_differ : IsTrue (names_differ r.actors)
  pub actors : IsTrue (list_all is_actor_name r.actors)
  pub each : length r.orders ≡ length r.actors
  pub last : IsTrue (list_all stops_last r.orders)
  pub known : IsTrue (list_all (is_known r.sheet r.processors) (all_of r.orders))
  pub steps_are : r.steps ≡ length (all_of r.orders)
  pub shows_are : r.shows ≡ count_by is_show (all_of r.orders)
  pub steps : r.steps ≤ most_steps
  pub shows : r.shows ≤ most_shows
  pub schedule : IsSchedule r.orders r.schedule

-- the actor of an order has a queue
abbrev pub HasActor : Reading → ScriptLine → Type 0
HasActor r (ScriptLine.Order a form steps) = actor_place r.actors a < length r.orders
HasActor r line = Unit {0}
