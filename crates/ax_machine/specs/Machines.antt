-- What contracts see of a machine, and what its type keeps.
use Rattle.std.specs.Prelude.{◌≡◌, ℕ, ◌+◌, ◌<◌, List, ◌++◌, length, IsTrue}
use Rattle.std.specs.List.{list_all}
use Rattle.ax_journal.specs.declared.entry.Entry.{Entry}
use Rattle.ax_journal.specs.declared.order.Order.{Order}
use Rattle.ax_script.specs.Plans.{Plan, IsPlan}
use Rattle.ax_script.specs.Queues.{queue_of, all_of}
use Rattle.ax_state.specs.Setting.{name_at}
use Rattle.ax_state.specs.WellFormed.{AreCommands}
use Rattle.ax_world.specs.WorldTables.{WorldTables, state_of}
use Rattle.ax_machine.specs.Run.{is_performed, run, last_state, first_state, schedule_of, faults_of, orders_by}

-- the plan that it was opened with, what was performed, what the world then keeps, and the orders that each actor has left
pub record MachineView : Type 0 where
  pub plan : Plan
  pub journal : List Entry
  pub tables : WorldTables
  pub left : List (List Order)

-- the orders are of kinds that are performed
abbrev pub ArePerformed : List (List Order) → Type 0
ArePerformed queues = IsTrue (list_all is_performed (all_of queues))

-- The journal is the run of the plan from its first state along the actors that the journal shows, and the world its last state.
-- Each actor's entries are, in order, the first of its orders, and what it has left is the rest.
pub record IsMachine (machine : MachineView) : Type 0 where
  pub plan : IsPlan machine.plan
  pub commands : AreCommands machine.plan.sheet
  pub performed : ArePerformed machine.plan.orders
  pub journal : machine.journal ≡ run (first_state machine.plan) machine.plan (schedule_of machine.plan.actors machine.journal) (faults_of machine.journal)
  pub state : state_of machine.tables ≡ last_state (first_state machine.plan) machine.plan (schedule_of machine.plan.actors machine.journal) (faults_of machine.journal)
  pub actors : length machine.left ≡ length machine.plan.actors
  pub orders : (actor : ℕ) → actor < length machine.plan.actors → orders_by (name_at machine.plan.actors actor) machine.journal ++ queue_of machine.left actor ≡ queue_of machine.plan.orders actor
  pub count : length machine.journal + length (all_of machine.left) ≡ length (all_of machine.plan.orders)
