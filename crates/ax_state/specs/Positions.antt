-- Positions and rows: which items of an aggregate a processor has handled, and what they are folded to.
use Rattle.std.specs.Prelude.{ℕ, ◌==◌, Bool, true, false, not, ◌&&◌, List, [], ◌∷◌, map, length, filter, find, take, Option, Some, None, Result, nat_lt, option_map}
use Rattle.std.specs.List.{list_all}
use Rattle.ax_values.specs.Grammar.{Name, ItemName}
use Rattle.ax_values.specs.Words.{same_name, same_item, contains_item, place_where, sequence_in}
use Rattle.ax_log.specs.Log.{aggregates, is_reserved}
use Rattle.ax_rules.specs.Expr.{Row}
use Rattle.ax_rules.specs.Rules.{Rules, fold_items, lenient, start_row, row_or}
use Rattle.ax_segments.specs.Sequences.{hash_in}
use Rattle.ax_tokens.specs.Plain.{Plain}
use Rattle.ax_tokens.specs.Tokens.{Token, covers, plain, merged, replay}
use Rattle.ax_projections.specs.Items.{Placed, items_of, plain_items}
use Rattle.ax_claims.specs.Rows.{TokenRow, row_serving}
use Rattle.ax_letters.specs.Letters.{Queue, letters_of}
use Rattle.ax_letters.specs.declared.letter.Letter.{Letter}
use Rattle.ax_state.specs.Setting.{projection_at, whole_at}
use Rattle.ax_state.specs.State.{State, ProcessorState, processor_state_at}
use Rattle.ax_values.specs.declared.cell.Cell.{Cell}
use Rattle.ax_values.specs.declared.item.Item.{Item}
use Rattle.ax_rules.specs.declared.cause.Cause.{Cause}
use Rattle.ax_upcast.specs.declared.upcaster.Upcaster.{Upcaster}

-- ---- aggregates

-- the items of an aggregate
abbrev pub items_at : State → Name → List Placed
items_at m a = items_of m.setting.sheet.chain a m.cells

-- the state of an aggregate: a fold of all its items, in which one that fails leaves the state as it is
abbrev pub aggregate_state : State → Name → Row
aggregate_state m a = lenient m.setting.sheet.aggregate (plain_items (items_at m a))

-- ---- coverage

abbrev pub row_covers : ℕ → ℕ → Option TokenRow → Bool
row_covers h i None = false
row_covers h i (Some r) = covers r.token r.segment.mask h i

-- whether the rows cover the index for the hash
abbrev pub covered_in : List TokenRow → ℕ → ℕ → Bool
covered_in rows h i = row_covers h i (row_serving h rows)

-- Where a processor is whole, `whole` is its name.

-- the covered ones of the items of an aggregate
abbrev pub covered_items_in : Option Name → List Upcaster → List Cell → List TokenRow → Name → List Placed
covered_items_in whole chain cells rows a = filter (λ x. covered_in rows (hash_in whole a) x.index) (items_of chain a cells)

-- ---- positions and rows, of what a processor keeps

-- the item of the first of the letters that is of the aggregate
abbrev pub first_of : List Letter → Name → Option ItemName
first_of ls a = option_map (λ l. l.item.name) (find (λ l. same_name l.item.name.aggregate a) ls)

-- the item of an aggregate's own first letter in its sequence, where it has letters
abbrev pub first_in : Option Name → Queue → Name → Option ItemName
first_in whole queue a = first_of (letters_of (sequence_in whole a) queue) a

-- the place of an item among the items, or else a count
abbrev pub position_with : Option ItemName → List Placed → ℕ → ℕ
position_with None items count = count
position_with (Some x) items count = place_where (λ y. same_item y.item.name x) items

-- the place of the aggregate's first letter in its items, or the number of the covered ones
abbrev pub position_in : Option Name → List Upcaster → List Cell → ProcessorState → Name → ℕ
position_in whole chain cells processor_state a = position_with (first_in whole processor_state.queue a) (items_of chain a cells) (length (covered_items_in whole chain cells processor_state.rows a))

abbrev pub undropped : List ItemName → List Placed → List Placed
undropped drops xs = filter (λ x. not (contains_item x.item.name drops)) xs

-- the items that a row is the fold of: a prefix of the aggregate's items, less the dropped ones
abbrev pub row_items_in : Option Name → List Upcaster → List Cell → ProcessorState → Name → List Item
row_items_in whole chain cells processor_state a = plain_items (undropped processor_state.drops (take (position_in whole chain cells processor_state a) (items_of chain a cells)))

abbrev pub row_in : Option Name → Rules → List Upcaster → List Cell → ProcessorState → Name → Result Row Cause
row_in whole rules chain cells processor_state a = fold_items rules (row_items_in whole chain cells processor_state a)

-- ---- the same of a state

abbrev pub position_of : State → ℕ → Name → ℕ
position_of m p a = position_in (whole_at m.setting p) m.setting.sheet.chain m.cells (processor_state_at m p) a

abbrev pub row_of : State → ℕ → Name → Result Row Cause
row_of m p a = row_in (whole_at m.setting p) (projection_at m.setting p) m.setting.sheet.chain m.cells (processor_state_at m p) a

-- a row with its aggregate and position
pub record Shown : Type 0 where
  pub aggregate : Name
  pub position : ℕ
  pub row : Row

abbrev pub shown_at : State → ℕ → Name → Shown
shown_at m p a = record { aggregate = a; position = position_of m p a; row = row_or (start_row (projection_at m.setting p).fields) (row_of m p a) }

abbrev pub has_items : Shown → Bool
has_items r = nat_lt 0 r.position

-- the rows of a processor, by identifier: one for each aggregate whose position is at least 1
abbrev pub rows_of : State → ℕ → List Shown
rows_of m p = filter has_items (map (shown_at m p) (aggregates m.cells))

-- ---- rebuild

abbrev pub rebuilt_at : Rules → List Upcaster → List Cell → Name → Shown
rebuilt_at rules chain cells a = record { aggregate = a; position = length (items_of chain a cells); row = lenient rules (plain_items (items_of chain a cells)) }

-- the rows that a projection has by the log alone, by identifier: no token, letter or drop is read
abbrev pub rebuilt_rows : Rules → List Upcaster → List Cell → List Shown
rebuilt_rows rules chain cells = filter has_items (map (rebuilt_at rules chain cells) (aggregates cells))

-- ---- the head

abbrev pub is_empty : {A : Type 0} → List A → Bool
is_empty [] = true
is_empty (x ∷ xs) = false

-- whether the set is that of the first n indexes
abbrev pub has_all : ℕ → Plain → Bool
has_all n p = (p.next == n) && is_empty p.gaps

-- whether every part covers every one of n cells, both parts of a replay too
abbrev pub covers_all : ℕ → Token → Bool
covers_all n (plain p) = has_all n p
covers_all n (merged l u) = covers_all n l && covers_all n u
covers_all n (replay r c) = has_all n r && has_all n c

-- no cell is reserved, and every part of every row covers every cell
abbrev pub is_at_head : State → ℕ → Bool
is_at_head m p = list_all (λ c. not (is_reserved c)) m.cells && list_all (λ r. covers_all (length m.cells) r.token) (processor_state_at m p).rows
