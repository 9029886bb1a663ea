-- How a fetch makes shares of the items that it takes, with what the kept rows have of their aggregates.
use Rattle.std.specs.Prelude.{◌≡◌, ℕ, ◌<◌, ◌≤◌, false, List, [], ◌∷◌, map, filter, flat_map, length, Result, Ok, Err, slice_get, slice_set, insert, Bool, Some, None}
use Rattle.std.specs.List.{list_any}
use Rattle.std.specs.Ordering.{is_lt}
use Rattle.std.specs.declared.cmp.Ordering.{Ordering}
use Rattle.ax_values.specs.Grammar.{Name}
use Rattle.ax_values.specs.Words.{same_name, name_cmp, put_rising}
use Rattle.ax_segments.specs.Segments.{Segment}
use Rattle.ax_tokens.specs.Tokens.{Token}
use Rattle.ax_rules.specs.Rules.{Rules}
use Rattle.ax_projections.specs.Table.{Entry, look_up}
use Rattle.ax_projections.specs.Rebuild.{or_start}
use Rattle.ax_projections.specs.declared.table.Positioned.{Positioned}
use Rattle.ax_basis.specs.Basis.{Share}
use Rattle.ax_state.specs.State.{Batch}
use Rattle.ax_state.specs.Setting.{projection_at}
use Rattle.ax_state.specs.Batches.{basis_item, batch_items, is_fetched, rising_names}
use Rattle.ax_world.specs.WorldTables.{WorldTables, processor_tables_at}
use Rattle.ax_log.specs.Log.{Stored, events}
use Rattle.ax_projections.specs.Items.{placed_items}
use Rattle.ax_upcast.specs.declared.upcaster.Upcaster.{Upcaster}
use Rattle.ax_values.specs.declared.cell.Cell.{Cell}
use Rattle.ax_step_work.specs.Reach.{events_at}
use Rattle.ax_basis.specs.declared.item.BasisItem.{BasisItem}
use Rattle.ax_basis.specs.declared.item.Member.{Member}

-- what a segment takes from one token to another
abbrev pub taken : Segment → Token → Token → Batch
taken s old new = record { processor = 0; segment = s; fence = 0; old = old; new = new }

abbrev pub member_at : Name → Positioned → Member
member_at a v = record { aggregate = a; seen = record { position = v.position; parked = false; marks = [] }; row = v.row }

-- an aggregate as the kept rows have it
abbrev pub member_read : Rules → List Entry → Name → Member
member_read rules kept a = member_at a (or_start rules (look_up a kept))

abbrev pub item_names : List BasisItem → List Name
item_names xs = map (λ x. x.item.name.aggregate) xs

abbrev pub is_item_of : Name → BasisItem → Bool
is_item_of a x = same_name x.item.name.aggregate a

-- the share of an aggregate
abbrev pub single : (Name → Member) → Name → List BasisItem → Share
single member a own = record { sequence = a; parked = false; members = member a ∷ []; items = own }

abbrev pub single_of : (Name → Member) → List BasisItem → Name → Share
single_of member xs a = single member a (filter (is_item_of a) xs)

-- the items by aggregate
abbrev pub single_shares : (Name → Member) → List BasisItem → List Share
single_shares member xs = map (single_of member xs) (rising_names (item_names xs))

-- the same, with the rows that are kept
abbrev pub shares_read : Rules → List Entry → List BasisItem → List Share
shares_read rules kept xs = single_shares (member_read rules kept) xs

-- ---- what a batch takes

abbrev pub event_items : List Upcaster → Batch → Stored → List BasisItem
event_items chain b e = map (basis_item None b) (placed_items chain e)

-- the items of the cell at an index, where its event is taken
abbrev pub cell_items : List Upcaster → Batch → ℕ → Cell → List BasisItem
cell_items chain b i c = map (basis_item None b) (flat_map (placed_items chain) (events_at (is_fetched None b.segment b.old b.new) i c))

abbrev pub items_taken : List Upcaster → Batch → List Cell → List BasisItem
items_taken chain b cells = map (basis_item None b) (batch_items None chain b (events cells))

-- with the rows that a world keeps of its processor
abbrev pub read_shares : WorldTables → ℕ → Batch → List Share
read_shares w p b = shares_read (projection_at w.setting p) (processor_tables_at w p).table (items_taken w.setting.sheet.chain b w.cells)

-- ---- places

abbrev pub share_cmp : Share → Share → Ordering
share_cmp s t = name_cmp s.sequence t.sequence

abbrev pub share_below : Share → Share → Bool
share_below s t = is_lt (share_cmp s t)

pub record HasShare (a : Name) (ss : List Share) (i : ℕ) : Type 0 where
  pub share : Share
  pub here : slice_get ss i ≡ Some share
  pub named : share.sequence ≡ a
  pub within : i < length ss
  pub put : (t : Share) → t.sequence ≡ a → put_rising share_cmp t ss ≡ slice_set ss i t

pub record LacksShare (a : Name) (ss : List Share) (i : ℕ) : Type 0 where
  pub within : i ≤ length ss
  pub none : list_any (same_name a) (map (λ s. s.sequence) ss) ≡ false
  pub put : (t : Share) → t.sequence ≡ a → put_rising share_cmp t ss ≡ insert ss i t

abbrev pub IsPlaceOf : Name → List Share → Result ℕ ℕ → Type 0
IsPlaceOf a ss (Ok i) = HasShare a ss i
IsPlaceOf a ss (Err i) = LacksShare a ss i
