-- Steps on the clock, the log and a desk: tick, send, append, void, stop.
use Rattle.std.specs.Prelude.{ℕ, zero, suc, ◌+◌, ◌^◌, ◌==◌, List, [], ◌∷◌, ◌++◌, map, length, replicate, Option, Some, None, IsTrue, is_some, min, nat_lt, slice_get, if◌then◌else◌}
use Rattle.ax_values.specs.Grammar.{Name}
use Rattle.ax_values.specs.Words.{Payload}
use Rattle.ax_log.specs.Log.{length_of, put_cells}
use Rattle.ax_log.specs.Order.{max_cells}
use Rattle.ax_log.specs.Answers.{aggregate_of, void_among, void_period}
use Rattle.ax_sheet.specs.Sheet.{Sheet, command_named}
use Rattle.ax_sheet.specs.Commands.{Command}
use Rattle.ax_sheet.specs.Decision.{decision}
use Rattle.ax_state.specs.Every.{option_or}
use Rattle.ax_state.specs.State.{State, Reservation, desk_at, empty_desk, with_desk, with_cells, with_clock, actor_name}
use Rattle.ax_state.specs.Positions.{aggregate_state}
use Rattle.ax_state.specs.Answer.{Answer, answer}
use Rattle.ax_values.specs.declared.cell.Cell.{Cell}
use Rattle.ax_values.specs.declared.record.Record.{Record}
use Rattle.ax_upcast.specs.declared.event.Event.{Event}
use Rattle.ax_sheet.specs.declared.decision.Decided.{Decided}
use Rattle.ax_journal.specs.declared.reply.Reply.{Reply}
use Rattle.ax_journal.specs.declared.order.Order.{Order}

-- ---- tick

abbrev pub max_clock : ℕ
max_clock = 10 ^ 18

-- so many milliseconds later, at most the last moment
abbrev pub later_by : ℕ → ℕ → ℕ
later_by ms clock = min (clock + ms) max_clock

abbrev pub tick : State → ℕ → Answer
tick m ms = answer (with_clock (later_by ms m.clock) m) (Reply.Now (later_by ms m.clock))

-- ---- reservations given up

abbrev pub voided : Cell → Cell
voided (Cell.Reserved a s w t) = Cell.Void
voided Cell.Void = Cell.Void
voided (Cell.Event r) = Cell.Event r

-- n cells from an index on, the reserved ones of them made void
abbrev pub void_from : ℕ → ℕ → List Cell → List Cell
void_from i n [] = []
void_from zero zero (c ∷ cells) = c ∷ cells
void_from zero (suc n) (c ∷ cells) = voided c ∷ void_from zero n cells
void_from (suc i) n (c ∷ cells) = c ∷ void_from i n cells

-- the cells without a reservation
abbrev pub released : Option Reservation → List Cell → List Cell
released None cells = cells
released (Some r) cells = void_from r.first (length r.records) cells

abbrev pub with_reservation : ℕ → Option Reservation → State → State
with_reservation actor r m = with_desk actor (record (desk_at m actor) { reservation = r }) m

-- ---- send

-- the events as records of an aggregate, numbered from seq
abbrev pub as_records : Name → ℕ → List Event → List Record
as_records a seq [] = []
as_records a seq (e ∷ es) = record { aggregate = a; seq = seq; kind = e.kind; revision = e.revision; payload = e.payload } ∷ as_records a (suc seq) es

-- a reservation at the end of the log, for events that go on with the aggregate's stream
abbrev pub reservation_of : State → Name → List Event → Reservation
reservation_of m a es = record { first = length m.cells; first_seq = length_of a m.cells; records = as_records a (length_of a m.cells) es }

-- the cells without the desk's older reservation, and as many reserved ones at the end
abbrev pub reserved_cells : State → ℕ → Name → ℕ → List Cell
reserved_cells m actor a n = released (desk_at m actor).reservation m.cells ++ replicate n (Cell.Reserved a (length_of a m.cells) (actor_name m actor) m.clock)

abbrev pub sent_events : State → ℕ → Name → List Event → Answer
sent_events m actor a es =
    if nat_lt max_cells (length m.cells + length es) then answer m Reply.LogFull
    else answer (with_reservation actor (Some (reservation_of m a es)) (with_cells (reserved_cells m actor a (length es)) m)) (Reply.Reserved (length m.cells) (length es) (length_of a m.cells))

abbrev pub sent_decided : State → ℕ → Name → Decided → Answer
sent_decided m actor a (Decided.Guard g) = answer m (Reply.GuardFails g)
sent_decided m actor a (Decided.Events es) = sent_events m actor a es

abbrev pub no_command : Command
no_command = record { params = []; guards = []; events = [] }

-- the command of a name that the sheet has
abbrev pub command_at : Sheet → Name → Command
command_at sheet name = option_or no_command (command_named sheet name)

abbrev pub send : State → ℕ → Name → Name → Payload → Answer
send m actor a command args = sent_decided m actor a (decision (command_at m.setting.sheet command) args (aggregate_state m a))

-- ---- append

-- the events are in the log, or a conflict gives up the reserved cells
abbrev pub appended_unless : State → ℕ → Reservation → Option ℕ → Answer
appended_unless m actor r (Some i) = answer m (Reply.VoidedCell i)
appended_unless m actor r None =
    if length_of (aggregate_of r.records) m.cells == r.first_seq
    then answer (with_reservation actor None (with_cells (put_cells r.first (map Cell.Event r.records) m.cells) m)) (Reply.Appended r.first_seq (length r.records))
    else answer (with_reservation actor None (with_cells (released (Some r) m.cells) m)) (Reply.Conflict r.first_seq (length_of (aggregate_of r.records) m.cells))

abbrev pub appended : State → ℕ → Option Reservation → Answer
appended m actor None = answer m Reply.NoReservation
appended m actor (Some r) = appended_unless m actor r (void_among m.cells r.first r.records)

abbrev pub append : State → ℕ → Answer
append m actor = appended m actor (desk_at m actor).reservation

-- ---- void

-- a cell that has been reserved for longer than the period becomes void
abbrev pub voided_cell : State → ℕ → Option Cell → Answer
voided_cell m i None = answer m Reply.NotReserved
voided_cell m i (Some Cell.Void) = answer m Reply.NotReserved
voided_cell m i (Some (Cell.Event r)) = answer m Reply.NotReserved
voided_cell m i (Some (Cell.Reserved a s w at)) = if nat_lt (at + void_period) m.clock then answer (with_cells (void_from i 1 m.cells) m) (Reply.Voided i) else answer m (Reply.Young at)

abbrev pub void : State → ℕ → Answer
void m i = voided_cell m i (slice_get m.cells i)

-- ---- stop

-- the desk is empty; the cells that it had reserved stay reserved
abbrev pub stop : State → ℕ → Answer
stop m actor = answer (with_desk actor empty_desk m) Reply.Done

-- ---- all

-- the orders of this crate
abbrev pub IsLogged : Order → Type 0
IsLogged (Order.Send a command args) = Unit {0}
IsLogged Order.Append = Unit {0}
IsLogged (Order.Tick ms) = Unit {0}
IsLogged (Order.Void cell) = Unit {0}
IsLogged Order.Stop = Unit {0}
IsLogged order = ⊥

-- the sheet has the command that the order names
abbrev pub IsDeclared : Sheet → Order → Type 0
IsDeclared sheet (Order.Send a command args) = IsTrue (is_some (command_named sheet command))
IsDeclared sheet order = Unit {0}

-- of an order of this crate
abbrev pub step : State → ℕ → (order : Order) → IsLogged order → Answer
step m actor (Order.Send a command args) kind = send m actor a command args
step m actor Order.Append kind = append m actor
step m actor (Order.Tick ms) kind = tick m ms
step m actor (Order.Void cell) kind = void m cell
step m actor Order.Stop kind = stop m actor
step m actor order kind = absurd kind
