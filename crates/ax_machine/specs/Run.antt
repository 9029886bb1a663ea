-- One order is one step; a run performs each actor's orders along a schedule.
use Rattle.std.specs.Prelude.{ℕ, ◌==◌, Bool, true, false, List, [], ◌∷◌, ◌++◌, length, map, take, filter, Option, Some, None, IsTrue, slice_get, slice_set, if◌then◌else◌}
use Rattle.ax_values.specs.Grammar.{Name}
use Rattle.ax_values.specs.Words.{same_name}
use Rattle.ax_journal.specs.Replies.{reply_number}
use Rattle.ax_journal.specs.declared.entry.Entry.{Entry}
use Rattle.ax_journal.specs.declared.order.Order.{Order}
use Rattle.ax_journal.specs.declared.reply.Reply.{Reply}
use Rattle.ax_state.specs.Setting.{Setting, processor_number}
use Rattle.ax_state.specs.State.{State, start, actor_name}
use Rattle.ax_state.specs.Answer.{Answer, answer, reported}
use Rattle.ax_script.specs.Judging.{is_known, actor_place}
use Rattle.ax_script.specs.Plans.{Plan}
use Rattle.ax_script.specs.Queues.{option_or, queue_of, times_of}
use Rattle.ax_step_log.specs.Logging.{tick, send, append, void, stop}
use Rattle.ax_step_claims.specs.Claiming.{claim, extend, release, split, merge}
use Rattle.ax_step_work.specs.Working.{fetch, commit}
use Rattle.ax_report.specs.Reports.{rows_report}
use Rattle.ax_report.specs.TokenReports.{tokens_report}
use Rattle.ax_report.specs.LogReports.{log_report}

-- ---- one step

-- whether the machine performs orders of this kind; it is to perform all
abbrev pub is_performed : Order → Bool
is_performed (Order.Send a c args) = true
is_performed Order.Append = true
is_performed (Order.Claim p s) = true
is_performed (Order.Fetch p s most) = true
is_performed Order.Commit = true
is_performed (Order.ShowRows p) = true
is_performed (Order.Tick ms) = true
is_performed (Order.Void cell) = true
is_performed Order.Stop = true
is_performed (Order.Extend p s) = true
is_performed (Order.Release p s) = true
is_performed (Order.Split p s) = true
is_performed (Order.Merge p s) = true
is_performed (Order.ShowTokens p) = true
is_performed Order.ShowLog = true
is_performed order = false

-- Of an order that is not performed nothing can be said: no proof sees what stands here, and what performs orders asks for ones that are performed.
pub unsaid : State → Answer
unsaid m = answer m Reply.NothingWaits

-- the next state, the reply and the report of an actor's order
abbrev pub step : State → ℕ → Order → Answer
step m actor (Order.Send a c args) = send m actor a c args
step m actor Order.Append = append m actor
step m actor (Order.Claim p s) = claim m actor p s
step m actor (Order.Fetch p s most) = fetch m actor p s most
step m actor Order.Commit = commit m actor
step m actor (Order.ShowRows p) = reported m (rows_report m (processor_number m.setting.processors p))
step m actor (Order.Tick ms) = tick m ms
step m actor (Order.Void cell) = void m cell
step m actor Order.Stop = stop m actor
step m actor (Order.Extend p s) = extend m actor p s
step m actor (Order.Release p s) = release m actor p s
step m actor (Order.Split p s) = split m actor p s
step m actor (Order.Merge p s) = merge m actor p s
step m actor (Order.ShowTokens p) = reported m (tokens_report m (processor_number m.setting.processors p))
step m actor Order.ShowLog = reported m (log_report m)
step m actor order = unsaid m

-- the names of the order are declared, each of the right kind
abbrev pub IsKnown : Setting → Order → Type 0
IsKnown setting order = IsTrue (is_known (Some setting.sheet) setting.processors order)

-- the order is of a kind that is performed
abbrev pub IsPerformed : Order → Type 0
IsPerformed order = IsTrue (is_performed order)

-- ---- steps one after another

-- who performs which order, and whether the keeper fails at it
pub record Attempt : Type 0 where
  pub actor : ℕ
  pub order : Order
  pub faulted : Bool

-- where the keeper fails, the state stays
abbrev pub attempted : State → Attempt → Answer
attempted m a = if a.faulted then answer m Reply.KeeperFailed else step m a.actor a.order

abbrev pub entry_with : State → Attempt → Answer → Entry
entry_with m a done = record { actor = actor_name m a.actor; order = a.order; reply = done.reply; report = done.report }

-- what is written down of an attempt
abbrev pub entry_of : State → Attempt → Entry
entry_of m a = entry_with m a (attempted m a)

-- the journal of the attempts
abbrev pub entries : State → List Attempt → List Entry
entries m [] = []
entries m (a ∷ as') = entry_of m a ∷ entries (attempted m a).state as'

-- the state after all attempts
abbrev pub state_after_all : State → List Attempt → State
state_after_all m [] = m
state_after_all m (a ∷ as') = state_after_all (attempted m a).state as'

-- ---- orders along a schedule

abbrev pub attempt_if : ℕ → Bool → Option Order → List Attempt → List Attempt
attempt_if actor faulted None later = later
attempt_if actor faulted (Some order) later = record { actor = actor; order = order; faulted = faulted } ∷ later

-- the order that an actor performs when it stood in the schedule before: as often as that, orders of its own went first
abbrev pub next_order : List (List Order) → List ℕ → ℕ → Option Order
next_order queues before actor = slice_get (queue_of queues actor) (times_of actor before)

-- whether the keeper fails at a place of the schedule; it does not where no flag stands
abbrev pub fails_at : List Bool → ℕ → Bool
fails_at faults place = option_or false (slice_get faults place)

-- each actor's orders, in its own order, along what is left of a schedule
abbrev pub attempts : List (List Order) → List Bool → List ℕ → List ℕ → List Attempt
attempts queues faults before [] = []
attempts queues faults before (actor ∷ left) =
    attempt_if actor (fails_at faults (length before)) (next_order queues before actor) (attempts queues faults (before ++ actor ∷ []) left)

-- the journal of a plan from a state along a schedule, with a flag for each place at which the keeper fails
abbrev pub run : State → Plan → List ℕ → List Bool → List Entry
run m plan schedule faults = entries m (attempts plan.orders faults [] schedule)

abbrev pub last_state : State → Plan → List ℕ → List Bool → State
last_state m plan schedule faults = state_after_all m (attempts plan.orders faults [] schedule)

-- ---- a plan, along its own schedule

abbrev pub setting_of : Plan → Setting
setting_of plan = record { sheet = plan.sheet; processors = plan.processors; actors = plan.actors }

-- the first state of what a plan declares
abbrev pub first_state : Plan → State
first_state plan = start (setting_of plan)

abbrev pub no_faults : List Bool
no_faults = []

-- the journal of a plan from its first state, where no keeper fails
abbrev pub run_of : Plan → List Entry
run_of plan = run (first_state plan) plan plan.schedule no_faults

-- the state that it leads to
abbrev pub end_of : Plan → State
end_of plan = last_state (first_state plan) plan plan.schedule no_faults

-- the state after so many of the plan's orders
abbrev pub state_after : Plan → ℕ → State
state_after plan orders = state_after_all (first_state plan) (take orders (attempts plan.orders no_faults [] plan.schedule))

-- ---- what a journal shows

-- the numbers of the actors of a journal
abbrev pub schedule_of : List Name → List Entry → List ℕ
schedule_of actors journal = map (λ e. actor_place actors e.actor) journal

-- a reply that says that the keeper failed
abbrev pub is_fault : Reply → Bool
is_fault reply = reply_number reply == 50

-- at which places of a journal the keeper failed
abbrev pub faults_of : List Entry → List Bool
faults_of journal = map (λ e. is_fault e.reply) journal

-- the orders that a journal has of an actor
abbrev pub orders_by : Name → List Entry → List Order
orders_by name journal = map (λ e. e.order) (filter (λ e. same_name e.actor name) journal)

-- ---- turns

-- the first of a list
abbrev pub first_of : {A : Type 0} → List A → Option A
first_of [] = None
first_of (x ∷ xs) = Some x

-- the list without its first
abbrev pub rest_of : {A : Type 0} → List A → List A
rest_of [] = []
rest_of (x ∷ xs) = xs

-- the order that an actor performs next, of the orders that each actor has left
abbrev pub first_left : List (List Order) → ℕ → Option Order
first_left queues actor = first_of (queue_of queues actor)

abbrev pub left_by : List (List Order) → ℕ → Option (List Order) → List (List Order)
left_by queues actor None = queues
left_by queues actor (Some queue) = slice_set queues actor (rest_of queue)

-- what is left after an actor's next order: one less of its own, and all of the others'
abbrev pub left_after : List (List Order) → ℕ → List (List Order)
left_after queues actor = left_by queues actor (slice_get queues actor)

-- an order that no keeper fails at
abbrev pub attempt : ℕ → Order → Attempt
attempt actor order = record { actor = actor; order = order; faulted = false }
