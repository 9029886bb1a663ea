-- The rows that a world keeps of a projection, and what a batch of it knows.
use Rattle.std.proofs.Common.{◌≡◌, ℕ, zero, suc, ◌<◌, ◌≤◌, Bool, true, false, List, [], ◌∷◌, length, map, Option, Some, None, Result, Ok, slice_get, if◌then◌else◌, nat_lt, refl, sym, ap, ◌∙◌, subst, arith}
use Rattle.std.specs.List.{IsDistinct, list_any}
use Rattle.std.proofs.lemmas.Bool.Decides.{nat_tests}
use Rattle.std.proofs.lemmas.List.{length-map}
use Rattle.ax_values.specs.Grammar.{Name}
use Rattle.ax_values.specs.Words.{same_name}
use Rattle.ax_log.specs.Log.{Stored, events}
use Rattle.ax_rules.specs.Expr.{Row}
use Rattle.ax_rules.specs.Rules.{Rules, fold_items, start_row, row_or}
use Rattle.ax_segments.specs.Segments.{matches}
use Rattle.ax_segments.specs.Sequences.{hash_in}
use Rattle.ax_projections.specs.Table.{look_up}
use Rattle.ax_projections.specs.Items.{Placed, plain_items}
use Rattle.ax_projections.specs.Rebuild.{or_start}
use Rattle.ax_projections.specs.declared.table.Positioned.{Positioned}
use Rattle.ax_claims.specs.Rows.{TokenRow, row_at}
use Rattle.ax_state.specs.Setting.{Setting, is_projection, projection_at, whole_at}
use Rattle.ax_state.specs.State.{State, ProcessorState, Batch, processor_state_at}
use Rattle.ax_state.specs.Portions.{portions, covered_events, items_in, row_by}
use Rattle.ax_letters.specs.Letters.{Queue}
use Rattle.ax_state.specs.WellFormed.{IsProcessorState, IsBare, AreParts}
use Rattle.ax_state.specs.Batches.{batch_items, known_events, shares_of, member_of}
use Rattle.ax_state.proofs.Lists.{AllFrom-get}
use Rattle.ax_state.proofs.RowPuts.{found-row}
use Rattle.ax_state.proofs.Frames.{place-there, place-at}
use Rattle.ax_state.proofs.Grow.{events-few}
use Rattle.ax_world.specs.WorldTables.{WorldTables, ProcessorTables, no_tables, state_of, processor_tables_at}
use Rattle.ax_world.specs.Fits.{IsWorld, IsTable, folded_row}
use Rattle.ax_world.proofs.Projections.{projection-within}
use Rattle.ax_world.proofs.ProcessorStates.{get-at, processor_state-place}
use Rattle.ax_step_work.specs.Sharing.{member_at, member_read, single_shares}
use Rattle.ax_step_work.proofs.Folding.{row-now}
use Rattle.ax_step_work.proofs.Known.{known-items, taken-matches, value_by, value-same, members-same}
use Rattle.ax_step_work.proofs.NotWhole.{not-whole}
use Rattle.ax_step_work.proofs.Singles.{items, names-same, shares-single}
use Rattle.ax_step_work.proofs.Tables.{no-items, rows-few}
use Rattle.ax_rules.specs.declared.cause.Cause.{Cause}
use Rattle.ax_upcast.specs.declared.upcaster.Upcaster.{Upcaster}

get-map : {A B : Type 0} (f : A → B) (xs : List A) (p : ℕ) (x : A) → slice_get xs p ≡ Some x → slice_get (map f xs) p ≡ Some (f x)
get-map f [] p x e = absurd (cc)
get-map f (y ∷ ys) zero x e = let is : y ≡ x = cc in ap (λ z. Some (f z)) is
get-map f (y ∷ ys) (suc p) x e = get-map f ys p x e

-- a row by covered events, where nothing is parked and nothing dropped
pub folded-bare : (setting : Setting) (p : ℕ) (cs : List Stored) (s : ProcessorState) → IsBare s → (a : Name)
    → folded_row setting p cs s a ≡ (if nat_lt 0 (length (items_in setting.sheet.chain cs a)) then Some (record { position = length (items_in setting.sheet.chain cs a); row = row_or (start_row (projection_at setting p).fields) (row_by (projection_at setting p) setting.sheet.chain cs None [] a) }) else None)
folded-bare setting p cs s b a = ap (λ (q : Queue). folded_row setting p cs (record s { queue = q }) a) b.letters ∙ ap (λ ds. folded_row setting p cs (record s { queue = []; drops = ds }) a) b.drops

module _ (w : WorldTables) (p : ℕ) (h : IsWorld w) (declared : is_projection w.setting p ≡ true) where
  abbrev m : State
  m = state_of w

  pub within : p < length w.processor_tables
  within =
      let l : length (map (λ (x : ProcessorTables). x.processor_state) w.processor_tables) ≡ length w.processor_tables = length-map w.processor_tables (λ x. x.processor_state) in
      let d : length (map (λ (x : ProcessorTables). x.processor_state) w.processor_tables) ≡ length w.setting.processors = h.state.declared in
      let k : p < length w.setting.processors = projection-within w.setting.processors p declared in omega arith

  abbrev x : ProcessorTables
  x = processor_tables_at w p

  abbrev rules : Rules
  rules = projection_at w.setting p

  abbrev chain : List Upcaster
  chain = w.setting.sheet.chain

  abbrev es : List Stored
  es = events w.cells

  abbrev whole : Option Name
  whole = whole_at w.setting p

  -- the token rows are those of the state
  pub same-state : processor_state_at m p ≡ x.processor_state
  same-state = processor_state-place w p

  -- how many items of an aggregate are covered, and the row that they make
  abbrev pub n : Name → ℕ
  n a = length (items_in chain (covered_events whole (portions x.processor_state.rows) es) a)

  abbrev pub row_now : Name → Result Row Cause
  row_now a = row_by rules chain (covered_events whole (portions x.processor_state.rows) es) None [] a

  -- a row at a position
  abbrev pub row_where : Name → ℕ → Option Positioned
  row_where a k = if nat_lt 0 k then Some (record { position = k; row = row_or (start_row rules.fields) (row_now a) }) else None

  pub bare : IsBare x.processor_state
  bare = (AllFrom-get (IsProcessorState w.setting w.cells) 0 m.processor_states p x.processor_state h.state.processors
      (get-map (λ y. y.processor_state) w.processor_tables p x (get-at no_tables w.processor_tables p within)) p (omega arith)).bare

  pub kept-is : (a : Name) → look_up a x.table ≡ row_where a (n a)
  kept-is a =
      AllFrom-get (IsTable w.setting es) 0 w.processor_tables p x h.tables (get-at no_tables w.processor_tables p within) p (omega arith) declared a
      ∙ folded-bare w.setting p (covered_events whole (portions x.processor_state.rows) es) x.processor_state bare a

  no-row : (a : Name) → n a ≡ 0 → row_now a ≡ Ok (start_row rules.fields)
  no-row a e =
      row-now rules chain (covered_events whole (portions x.processor_state.rows) es) a ∙ ap (λ ys. fold_items rules (plain_items ys)) (empty (items_in chain (covered_events whole (portions x.processor_state.rows) es) a) e)
    where
      empty : (ys : List Placed) → length ys ≡ 0 → ys ≡ []
      empty [] e = refl
      empty (y ∷ ys) e = absurd (omega arith)

  -- an aggregate's kept row, or 0 and the first values
  pub started : (a : Name) → or_start rules (look_up a x.table) ≡ record { position = n a; row = row_or (start_row rules.fields) (row_now a) }
  started a = ap (or_start rules) (kept-is a) ∙ by (nat_lt 0 (n a)) refl
    where
      by : (c : Bool) → nat_lt 0 (n a) ≡ c → or_start rules (if c then Some (record { position = n a; row = row_or (start_row rules.fields) (row_now a) }) else None) ≡ record { position = n a; row = row_or (start_row rules.fields) (row_now a) }
      by true e = refl
      by false e =
          let z : n a ≡ 0 = grind (arith, nat_tests, e) in
          sym (ap (λ o. record { position = n a; row = row_or (start_row rules.fields) o }) (no-row a z) ∙ ap (λ k. record { position = k; row = start_row rules.fields }) z)

  pub rows-bound : IsDistinct same_name (map (λ e. e.name) x.table) → length w.cells ≤ 200000 → length x.table ≤ 200000
  rows-bound d size =
      let k : length x.table ≤ length es = rows-few es x.table d (λ a none. kept-is a ∙ ap (λ ys. row_where a (length ys)) (no-items whole chain (portions x.processor_state.rows) a es none)) in
      let l : length es ≤ length w.cells = events-few 0 w.cells in omega arith

  -- ---- a batch whose row has its old token

  module _ (b : Batch) (r : TokenRow) (found : row_at b.segment x.processor_state.rows ≡ Some r) (old : b.old ≡ r.token) where
    found-there : row_at b.segment (processor_state_at m p).rows ≡ Some r
    found-there = ap (λ (s : ProcessorState). row_at b.segment s.rows) same-state ∙ found

    parts : AreParts (portions x.processor_state.rows)
    parts =
        let was : IsProcessorState m.setting m.cells p (processor_state_at m p) = place-at m p (place-there m p b.segment r found-there) h.state in
        subst (λ (s : ProcessorState). AreParts (portions s.rows)) same-state was.parts

    -- what the batch knows of an aggregate of the segment is what is kept of it
    pub known-is : (a : Name) → matches b.segment (hash_in None a) ≡ true → value_by rules chain (known_events None b es) a ≡ or_start rules (look_up a x.table)
    known-is a e =
        let place = found-row b.segment x.processor_state.rows r found in
        value-same rules chain (known_events None b es) (covered_events None (portions x.processor_state.rows) es) a
        (known-items chain es x.processor_state.rows place.0 r b parts place.1 place.2 old a e)
        ∙ ap (λ o. value_by rules chain (covered_events o (portions x.processor_state.rows) es) a) (sym (not-whole w.setting p)) ∙ sym (started a)

    -- so its shares are those that the kept rows give
    pub shares-read : single_shares (member_read rules x.table) (items b (batch_items None chain b es)) ≡ shares_of whole rules chain b es
    shares-read =
        sym (members-same (λ a. member_at a (value_by rules chain (known_events None b es) a)) (member_read rules x.table) (items b (batch_items None chain b es))
        (λ a e. ap (member_at a) (known-is a (taken-matches chain es b a (sym (ap (list_any (same_name a)) (names-same b (batch_items None chain b es))) ∙ e)))))
        ∙ sym (shares-single b (member_of None rules chain b es) (batch_items None chain b es))
        ∙ ap (λ o. shares_of o rules chain b es) (sym (not-whole w.setting p))
