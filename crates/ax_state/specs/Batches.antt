-- What a batch is handled from: its items by sequence, and what the log says of their aggregates.
use Rattle.std.specs.Prelude.{◌≡◌, Bool, true, false, not, ◌&&◌, List, [], ◌∷◌, map, filter, flat_map, Option, None}
use Rattle.ax_values.specs.Grammar.{Name}
use Rattle.ax_values.specs.Words.{same_name, name_cmp, insert_rising, sequence_in}
use Rattle.ax_log.specs.Log.{Stored, events}
use Rattle.ax_rules.specs.Rules.{Rules, start_row, row_or}
use Rattle.ax_segments.specs.Segments.{Segment, matches}
use Rattle.ax_segments.specs.Sequences.{hash_in}
use Rattle.ax_tokens.specs.Tokens.{Token, covers, replays}
use Rattle.ax_projections.specs.Items.{Placed, placed_items}
use Rattle.ax_basis.specs.Basis.{Basis, Share}
use Rattle.ax_state.specs.Setting.{Setting, projection_at, whole_at}
use Rattle.ax_state.specs.State.{Batch}
use Rattle.ax_state.specs.Portions.{Portion, covered_events, position_by, row_by}
use Rattle.ax_state.specs.WellFormed.{IsTokenOver}
use Rattle.ax_values.specs.declared.cell.Cell.{Cell}
use Rattle.ax_basis.specs.declared.item.BasisItem.{BasisItem}
use Rattle.ax_basis.specs.declared.item.Member.{Member}
use Rattle.ax_upcast.specs.declared.upcaster.Upcaster.{Upcaster}

-- Where a processor is whole, `whole` is its name.

-- ---- the items of a batch

-- the event is of the segment, the new token covers it, and the old one does not
abbrev pub is_fetched : Option Name → Segment → Token → Token → Stored → Bool
is_fetched whole s old new e =
    matches s (hash_in whole e.record_of.aggregate)
    && (covers new s.mask (hash_in whole e.record_of.aggregate) e.index && not (covers old s.mask (hash_in whole e.record_of.aggregate) e.index))

abbrev pub fetched_events : Option Name → Batch → List Stored → List Stored
fetched_events whole b es = filter (is_fetched whole b.segment b.old b.new) es

-- the items of a batch, by index, then part
abbrev pub batch_items : Option Name → List Upcaster → Batch → List Stored → List Placed
batch_items whole chain b es = flat_map (placed_items chain) (fetched_events whole b es)

-- ---- names

abbrev pub names_with : List Name → List Name → List Name
names_with known [] = known
names_with known (n ∷ ns) = names_with (insert_rising name_cmp n known) ns

-- the names, rising, each once
abbrev pub rising_names : List Name → List Name
rising_names ns = names_with [] ns

-- ---- what a fetch reads of an aggregate

-- a segment with a token
abbrev pub one_portion : Segment → Token → List Portion
one_portion s t = record { segment = s; token = t } ∷ []

-- the events that the batch's segment had handled at the fetch
abbrev pub known_events : Option Name → Batch → List Stored → List Stored
known_events whole b es = covered_events whole (one_portion b.segment b.old) es

-- an aggregate, how many items it has of these events, and the row that they are folded to
abbrev pub member_by : Rules → List Upcaster → List Stored → Name → Member
member_by rules chain known a = record {
  aggregate = a;
  seen = record { position = position_by chain known None a; parked = false; marks = [] };
  row = row_or (start_row rules.fields) (row_by rules chain known None [] a);
}

abbrev pub member_of : Option Name → Rules → List Upcaster → Batch → List Stored → Name → Member
member_of whole rules chain b es a = member_by rules chain (known_events whole b es) a

-- ---- shares

abbrev pub sequence_of : Option Name → Placed → Name
sequence_of whole x = sequence_in whole x.item.name.aggregate

-- the items of a sequence
abbrev pub sequence_items : Option Name → Name → List Placed → List Placed
sequence_items whole s xs = filter (λ x. same_name (sequence_of whole x) s) xs

-- an item, and whether it was handled before a reset
abbrev pub basis_item : Option Name → Batch → Placed → BasisItem
basis_item whole b x = record { item = x.item; index = x.index; marked = false; replayed = replays b.old b.segment.mask (hash_in whole x.item.name.aggregate) x.index }

-- the share of a sequence whose items are these, each of an aggregate that `member` makes a member
abbrev pub share_of_items : Option Name → Batch → (Name → Member) → Name → List Placed → Share
share_of_items whole b member s own = record {
  sequence = s;
  parked = false;
  members = map member (rising_names (map (λ x. x.item.name.aggregate) own));
  items = map (basis_item whole b) own;
}

-- the shares of items, by sequence
abbrev pub shares_among : Option Name → Batch → (Name → Member) → List Placed → List Share
shares_among whole b member xs = map (λ s. share_of_items whole b member s (sequence_items whole s xs)) (rising_names (map (sequence_of whole) xs))

-- the shares of a batch, by the events of the log
abbrev pub shares_of : Option Name → Rules → List Upcaster → Batch → List Stored → List Share
shares_of whole rules chain b es = shares_among whole b (member_of whole rules chain b es) (batch_items whole chain b es)

-- ---- a basis, and its batch

abbrev pub batch_of : Basis → Batch
batch_of x = record { processor = x.processor; segment = x.segment; fence = x.fence; old = x.old; new = x.new }

-- a basis of the log: neither token covers a cell that is still reserved, a failed item is to be parked, and the shares are those of its batch
pub record IsBasisOf (setting : Setting) (cells : List Cell) (x : Basis) : Type 0 where
  pub old : IsTokenOver cells x.segment.mask x.old
  pub new : IsTokenOver cells x.segment.mask x.new
  pub keep : x.keep ≡ true
  pub shares : x.shares ≡ shares_of (whole_at setting x.processor) (projection_at setting x.processor) setting.sheet.chain (batch_of x) (events cells)
