-- What a script declares and orders, and what holds of the parts of every plan.
use Rattle.std.specs.Prelude.{◌≡◌, ℕ, ◌≤◌, List, length, count_by, Some, IsTrue}
use Rattle.std.specs.List.{list_all}
use Rattle.ax_values.specs.Grammar.{Name}
use Rattle.ax_sheet.specs.Sheet.{Sheet}
use Rattle.ax_sheet.specs.Declarations.{AreProcessors, AreActors, Processor}
use Rattle.ax_journal.specs.Orders.{stops_last}
use Rattle.ax_journal.specs.declared.order.Order.{Order}
use Rattle.ax_script.specs.Judging.{is_known, is_show, most_steps, most_shows}
use Rattle.ax_script.specs.Queues.{all_of, schedule_fits}

pub record Plan : Type 0 where
  pub sheet : Sheet
  pub processors : List Processor
  pub actors : List Name
  pub orders : List (List Order)
  pub schedule : List ℕ

-- the steps of each actor: names that are known, no step after a stop, and both limits
pub record AreOrders (sheet : Sheet) (processors : List Processor) (actors : List Name) (queues : List (List Order)) : Type 0 where
  pub each : length queues ≡ length actors
  pub last : IsTrue (list_all stops_last queues)
  pub known : IsTrue (list_all (is_known (Some sheet) processors) (all_of queues))
  pub steps : length (all_of queues) ≤ most_steps
  pub shows : count_by is_show (all_of queues) ≤ most_shows

-- actor numbers: each actor's as often as it has steps, and no others
pub record IsSchedule (queues : List (List Order)) (schedule : List ℕ) : Type 0 where
  pub fits : IsTrue (schedule_fits 0 queues schedule)
  pub whole : length schedule ≡ length (all_of queues)

pub record IsPlan (p : Plan) : Type 0 where
  pub processors : AreProcessors p.sheet p.processors
  pub actors : AreActors p.actors
  pub orders : AreOrders p.sheet p.processors p.actors p.orders
  pub schedule : IsSchedule p.orders p.schedule
