-- What contracts see of a world: what it keeps, and for how much more there is room.
use Rattle.std.specs.Prelude.{ℕ, suc, List, [], ◌∷◌, map, Option, None, option_map, slice_get}
use Rattle.ax_values.specs.Grammar.{Name}
use Rattle.ax_log.specs.Puts.{Room as LogRoom}
use Rattle.ax_projections.specs.Table.{Entry}
use Rattle.ax_claims.specs.Rows.{TokenRow}
use Rattle.ax_basis.specs.Basis.{Basis}
use Rattle.ax_state.specs.Every.{option_or}
use Rattle.ax_state.specs.Setting.{Setting, whole_at}
use Rattle.ax_state.specs.State.{State, ProcessorState, Notice, Desk, Held, Reservation, Grip, empty_processor, empty_desk, first_processors, row_count}
use Rattle.ax_state.specs.Batches.{batch_of}
use Rattle.ax_values.specs.declared.cell.Cell.{Cell}

-- of one processor: its name, where it is whole, the part of the state, and the rows of its aggregates
pub record ProcessorTables : Type 0 where
  pub whole : Option Name
  pub processor_state : ProcessorState
  pub table : List Entry

-- of one actor: what its desk holds, with all that its batch is handled from
pub record DeskTables : Type 0 where
  pub held : List Held
  pub reservation : Option Reservation
  pub batch : Option Basis
  pub taken : Option Grip

-- the desk of the state
abbrev pub desk_of : DeskTables → Desk
desk_of d = record { held = d.held; reservation = d.reservation; batch = option_map batch_of d.batch; taken = d.taken }

abbrev pub no_desk : DeskTables
no_desk = record { held = []; reservation = None; batch = None; taken = None }

pub record WorldTables : Type 0 where
  pub setting : Setting
  pub clock : ℕ
  pub fence : ℕ
  pub cells : List Cell
  pub processor_tables : List ProcessorTables
  pub notices : List Notice
  pub desks : List Desk
  pub bases : List (Option Basis)

-- the state that a whole stands for
abbrev pub state_of : WorldTables → State
state_of w = record {
  setting = w.setting;
  clock = w.clock;
  fence = w.fence;
  cells = w.cells;
  processor_states = map (λ x. x.processor_state) w.processor_tables;
  notices = w.notices;
  desks = w.desks;
}

abbrev pub no_tables : ProcessorTables
no_tables = record { whole = None; processor_state = empty_processor; table = [] }

abbrev pub processor_tables_in : List ProcessorTables → ℕ → ProcessorTables
processor_tables_in processor_tables p = option_or no_tables (slice_get processor_tables p)

abbrev pub processor_tables_at : WorldTables → ℕ → ProcessorTables
processor_tables_at w p = processor_tables_in w.processor_tables p

-- the token rows of a processor
abbrev pub rows_at : WorldTables → ℕ → List TokenRow
rows_at w p = (processor_tables_at w p).processor_state.rows

-- no row is kept at the start
abbrev pub bare : Option Name → ProcessorState → ProcessorTables
bare whole processor_state = record { whole = whole; processor_state = processor_state; table = [] }

-- the processors, numbered from p on
abbrev pub all_bare : Setting → ℕ → List ProcessorState → List ProcessorTables
all_bare s p [] = []
all_bare s p (x ∷ xs) = bare (whole_at s p) x ∷ all_bare s (suc p) xs

abbrev pub starting : Setting → WorldTables
starting s = record {
  setting = s;
  clock = 0;
  fence = row_count s.processors;
  cells = [];
  processor_tables = all_bare s 0 (first_processors s.processors 1);
  notices = [];
  desks = map (λ actor. empty_desk) s.actors;
  bases = map (λ actor. None) s.actors;
}

-- for how many new rows and new marks of a processor no memory is taken
pub record ProcessorRoom : Type 0 where
  pub rows : ℕ
  pub marks : ℕ

-- which cells and, by processor, how many new entries take no memory
pub record Room : Type 0 where
  pub log : LogRoom
  pub processors : List ProcessorRoom

abbrev pub no_room : ProcessorRoom
no_room = record { rows = 0; marks = 0 }

abbrev pub room_in : List ProcessorRoom → ℕ → ProcessorRoom
room_in rooms p = option_or no_room (slice_get rooms p)

abbrev pub room_at : Room → ℕ → ProcessorRoom
room_at room p = room_in room.processors p

pub record WorldTablesView : Type 0 where
  pub tables : WorldTables
  pub room : Room

pub record ProcessorTablesView : Type 0 where
  pub place : ProcessorTables
  pub room : ProcessorRoom
