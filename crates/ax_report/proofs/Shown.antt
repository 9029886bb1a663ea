-- The rows that a world keeps, and those of a rebuild, are the rows that the definitions show.
use Rattle.std.proofs.Common.{◌≡◌, ℕ, zero, suc, ◌+◌, ◌<◌, Bool, true, false, not, ◌||◌, List, [], ◌∷◌, ◌++◌, map, length, filter, flat_map, take, drop, Option, Some, None, Result, Ok, Err, OnOk, IsTrue, nat_lt, slice_get, if◌then◌else◌, refl, sym, ap, ◌∙◌, subst, arith, append_assoc}
use Rattle.std.specs.List.{list_any}
use Rattle.std.proofs.lemmas.List.{append-nil}
use Rattle.std.proofs.lemmas.Bool.Decides.{nat_tests}
use Rattle.ax_values.specs.Grammar.{Name, Line}
use Rattle.ax_values.specs.Words.{same_name}
use Rattle.ax_log.specs.Log.{Stored, events, stream_in, option_is}
use Rattle.ax_rules.specs.Rules.{Rules, start_row, row_or}
use Rattle.ax_projections.specs.Items.{Placed, placed_items, all_items, items_of, aggregate_of}
use Rattle.ax_projections.specs.Table.{Entry, look_up}
use Rattle.ax_projections.specs.Rebuild.{rebuilt, first_names, folded}
use Rattle.ax_projections.proofs.NameLaws.{name-sym, any-firsts, found, missing}
use Rattle.ax_projections.proofs.RebuildLaws.{own, is_own, items-own}
use Rattle.ax_state.specs.Every.{option_or}
use Rattle.ax_state.specs.Setting.{is_projection, processor_at, projection_at, no_processor, whole_at}
use Rattle.ax_state.specs.State.{State, ProcessorState, empty_processor, processor_state_at}
use Rattle.ax_state.specs.Positions.{rows_of, shown_at, rebuilt_at, rebuilt_rows, position_in, covered_in}
use Rattle.ax_state.specs.Portions.{portions, covered_events}
use Rattle.ax_state.specs.WellFormed.{IsProcessorState, CoverPrefix}
use Rattle.ax_state.specs.Answer.{reported}
use Rattle.ax_state.proofs.Lists.{AllFrom-get}
use Rattle.ax_state.proofs.Prefixes.{same-position, same-row, bare-position}
use Rattle.ax_world.specs.WorldTables.{WorldTables, no_tables, state_of, processor_tables_at}
use Rattle.ax_world.specs.Fits.{IsWorld, IsTable, folded_row, row_if}
use Rattle.ax_world.specs.Moves.{IsMove}
use Rattle.ax_world.proofs.Projections.{projection-within}
use Rattle.ax_world.proofs.ProcessorStates.{get-at, processor_state-place, place-declared}
use Rattle.ax_world.specs.declared.edit.Move.{Move}
use Rattle.ax_report.specs.Reports.{listed, line_of, row_line, processor_line, rows_report, rebuilt_lines, processor_lines, rebuild_from, unless_saga, AreNames, AddsRows}
use Rattle.ax_report.proofs.Listed.{row_shown, in-order}
use Rattle.ax_values.specs.declared.cell.Cell.{Cell}
use Rattle.ax_upcast.specs.declared.upcaster.Upcaster.{Upcaster}
use Rattle.ax_sheet.specs.Declarations.{Processor}
use Rattle.ax_journal.specs.declared.reply.Reply.{Reply}

-- ---- a processor of a projection

-- a processor that is not of a saga is one of a projection
pub not-saga : (qs : List Processor) (p : ℕ) → p < length qs → (option_or no_processor (slice_get qs p)).saga ≡ false → option_is (λ q. not q.saga) (slice_get qs p) ≡ true
not-saga [] p h e = absurd (omega arith)
not-saga (x ∷ xs) zero h e = ap not e
not-saga (x ∷ xs) (suc p) h e = not-saga xs p (omega arith) e

-- ---- names of a table

pub names-next : (es : List Entry) (i : ℕ) (e : Entry) (old new : List Name) (n : Name) → Some e ≡ slice_get es i → old ≡ take i (map (λ e. e.name) es) → n ≡ e.name → new ≡ old ++ n ∷ [] → new ≡ take (i + 1) (map (λ e. e.name) es)
names-next es i e old new n h k same is =
    is ∙ ap (λ xs. xs ++ n ∷ []) k ∙ ap (λ m. take i (map (λ e. e.name) es) ++ m ∷ []) same ∙ sym (next es i h) ∙ (let one : suc i ≡ i + 1 = omega arith in ap (λ j. take j (map (λ e. e.name) es)) one)
  where
    next : (es : List Entry) (i : ℕ) → Some e ≡ slice_get es i → take (suc i) (map (λ e. e.name) es) ≡ take i (map (λ e. e.name) es) ++ e.name ∷ []
    next [] i h = absurd (cc)
    next (x ∷ xs) zero h = let is : x ≡ e = cc in ap (λ (y : Entry). y.name ∷ []) is
    next (x ∷ xs) (suc i) h = ap (λ ns. x.name ∷ ns) (next xs i h)

-- ---- results

pub on-ok : {U E : Type 0} {P Q : Type 0} (r : Result U E) → (P → Q) → OnOk r P → OnOk r Q
on-ok (Ok u) f h = f h
on-ok (Err e) f h = tt

-- ---- a rebuild

among-own : (a : Name) (xs : List Placed) → list_any (same_name a) (map aggregate_of xs) ≡ nat_lt 0 (length (own a xs))
among-own a [] = refl
among-own a (x ∷ xs) = ap (λ b. b || list_any (same_name a) (map aggregate_of xs)) (name-sym a (aggregate_of x)) ∙ at (is_own a x) (among-own a xs)
  where
    positive : (n : ℕ) → true ≡ nat_lt 0 (suc n)
    positive n = let pos : 0 < suc n = omega arith in sym (grind (arith, nat_tests, pos))

    at : (b : Bool) → list_any (same_name a) (map aggregate_of xs) ≡ nat_lt 0 (length (own a xs)) → (b || list_any (same_name a) (map aggregate_of xs)) ≡ nat_lt 0 (length (if b then x ∷ own a xs else own a xs))
    at true h = positive (length (own a xs))
    at false h = h

nonempty : (chain : List Upcaster) (es : List Stored) → nat_lt 0 (length (flat_map (placed_items chain) es)) ≡ true → 0 < length es
nonempty chain [] h = absurd (cc)
nonempty chain (e ∷ es) h = omega arith

pub rebuilt-look_up : (rules : Rules) (chain : List Upcaster) (cells : List Cell) (a : Name) → look_up a (rebuilt rules chain cells) ≡ row_shown (rebuilt_at rules chain cells a)
rebuilt-look_up rules chain cells a = at (nat_lt 0 (length (items_of chain a cells))) refl
  where
    some : list_any (same_name a) (first_names (map aggregate_of (all_items chain cells))) ≡ nat_lt 0 (length (items_of chain a cells))
    some = any-firsts a (map aggregate_of (all_items chain cells)) ∙ among-own a (all_items chain cells) ∙ ap (λ xs. nat_lt 0 (length xs)) (sym (items-own chain a (events cells)))

    at : (b : Bool) → nat_lt 0 (length (items_of chain a cells)) ≡ b → look_up a (rebuilt rules chain cells) ≡ (if b then Some (folded rules (items_of chain a cells)) else None)
    at true e = found (λ b. folded rules (items_of chain b cells)) a (first_names (map aggregate_of (all_items chain cells))) (some ∙ e)
    at false e = missing (λ b. folded rules (items_of chain b cells)) a (first_names (map aggregate_of (all_items chain cells))) (some ∙ e)

rebuilt-listed : (rules : Rules) (chain : List Upcaster) (cells : List Cell) (names : List Name) → AreNames (rebuilt rules chain cells) names → listed (rebuilt rules chain cells) names ≡ rebuilt_rows rules chain cells
rebuilt-listed rules chain cells names h =
    in-order (rebuilt_at rules chain cells) (rebuilt rules chain cells) names (events cells) h (rebuilt-look_up rules chain cells) (λ a. refl) (λ a k. nonempty chain (stream_in a (events cells)) k)

pub rebuilt-added : (m : State) (p : ℕ) (q : Processor) (rules : Rules) (table : List Entry) (line : Line) (old next new : List Line) → q ≡ processor_at m.setting p → line ≡ processor_line q → next ≡ old ++ line ∷ [] → rules ≡ projection_at m.setting p
    → table ≡ rebuilt rules m.setting.sheet.chain m.cells → AddsRows rules.fields table next new → new ≡ old ++ rebuilt_lines m p (processor_at m.setting p)
rebuilt-added m p q rules table line old next new is line_is next_is r t h =
    h.lines
    ∙ ap (λ xs. xs ++ map (line_of rules.fields) (listed table h.names)) (next_is ∙ ap (λ l. old ++ l ∷ []) (line_is ∙ ap processor_line is))
    ∙ append_assoc old (processor_line (processor_at m.setting p) ∷ []) (map (line_of rules.fields) (listed table h.names))
    ∙ ap (λ xs. old ++ processor_line (processor_at m.setting p) ∷ map (line_of rules.fields) xs) (ap (λ es. listed es h.names) t ∙ rebuilt-listed rules m.setting.sheet.chain m.cells h.names (subst (λ es. AreNames es h.names) t h.are))
    ∙ ap (λ (x : Rules). old ++ processor_line (processor_at m.setting p) ∷ map (row_line x) (rebuilt_rows x m.setting.sheet.chain m.cells)) r

drop-processor : (qs : List Processor) (i : ℕ) → i < length qs → drop i qs ≡ option_or no_processor (slice_get qs i) ∷ drop (suc i) qs
drop-processor [] i h = absurd (omega arith)
drop-processor (q ∷ qs) zero h = refl
drop-processor (q ∷ qs) (suc i) h = drop-processor qs i (omega arith)

-- one processor more
pub next-processor : (m : State) (i : ℕ) (old new all : List Line) → i < length m.setting.processors → new ≡ old ++ processor_lines m i
    → old ++ rebuild_from m i (drop i m.setting.processors) ≡ all → new ++ rebuild_from m (i + 1) (drop (i + 1) m.setting.processors) ≡ all
next-processor m i old new all lt is h =
    let one : i + 1 ≡ suc i = omega arith in
    ap (λ j. new ++ rebuild_from m j (drop j m.setting.processors)) one ∙ ap (λ xs. xs ++ rebuild_from m (suc i) (drop (suc i) m.setting.processors)) is
    ∙ append_assoc old (processor_lines m i) (rebuild_from m (suc i) (drop (suc i) m.setting.processors))
    ∙ ap (λ qs. old ++ rebuild_from m i qs) (sym (drop-processor m.setting.processors i lt)) ∙ h

pub skipped : (m : State) (p : ℕ) (old : List Line) → (processor_at m.setting p).saga ≡ true → old ≡ old ++ processor_lines m p
skipped m p old e = sym (append-nil old) ∙ ap (λ b. old ++ unless_saga b (rebuilt_lines m p (processor_at m.setting p))) (sym e)

pub not-skipped : (m : State) (p : ℕ) (old new : List Line) → (processor_at m.setting p).saga ≡ false → new ≡ old ++ rebuilt_lines m p (processor_at m.setting p)
    → new ≡ old ++ processor_lines m p
not-skipped m p old new e h = h ∙ ap (λ b. old ++ unless_saga b (rebuilt_lines m p (processor_at m.setting p))) (sym e)

-- ---- kept rows

filter-none : {A B : Type 0} (t : B → Bool) (f : A → List B) (xs : List A) → nat_lt 0 (length (filter t (flat_map f xs))) ≡ true → 0 < length xs
filter-none t f [] h = absurd (cc)
filter-none t f (x ∷ xs) h = omega arith

module _ (w : WorldTables) (p : ℕ) (h : IsWorld w) (projection : IsTrue (is_projection w.setting p)) where
  lt : p < length w.setting.processors
  lt = projection-within w.setting.processors p projection

  there : slice_get (state_of w).processor_states p ≡ Some (processor_state_at (state_of w) p)
  there = get-at empty_processor (state_of w).processor_states p (let d : length (state_of w).processor_states ≡ length w.setting.processors = h.state.declared in let k : p < length w.setting.processors = lt in omega arith)

  abbrev whole : Option Name
  whole = whole_at w.setting p

  place : IsProcessorState w.setting w.cells p (processor_state_at (state_of w) p)
  place = AllFrom-get (IsProcessorState w.setting w.cells) 0 (state_of w).processor_states p (processor_state_at (state_of w) p) h.state.processors there p (omega arith)

  kept : (a : Name) → look_up a (processor_tables_at w p).table ≡ folded_row w.setting p (covered_events whole (portions (processor_tables_at w p).processor_state.rows) (events w.cells)) (processor_tables_at w p).processor_state a
  kept = AllFrom-get (IsTable w.setting (events w.cells)) 0 w.processor_tables p (processor_tables_at w p) h.tables (get-at no_tables w.processor_tables p (place-declared w p h lt)) p (omega arith) projection

  shown-look_up : (a : Name) → look_up a (processor_tables_at w p).table ≡ row_shown (shown_at (state_of w) p a)
  shown-look_up a =
      kept a
      ∙ ap (λ (x : ProcessorState). folded_row w.setting p (covered_events whole (portions x.rows) (events w.cells)) x a) (sym (processor_state-place w p))
      ∙ ap (λ n. row_if w.setting p (covered_events whole (portions (processor_state_at (state_of w) p).rows) (events w.cells)) (processor_state_at (state_of w) p) a n) (sym (same-position w.setting w.cells p (processor_state_at (state_of w) p) place a))
      ∙ ap (λ r. if nat_lt 0 (position_in whole w.setting.sheet.chain w.cells (processor_state_at (state_of w) p) a) then Some (record { position = position_in whole w.setting.sheet.chain w.cells (processor_state_at (state_of w) p) a; row = row_or (start_row (projection_at w.setting p).fields) r }) else None)
      (sym (same-row w.setting w.cells p (processor_state_at (state_of w) p) place (projection_at w.setting p) a))

  shown-listed : (names : List Name) → AreNames (processor_tables_at w p).table names → listed (processor_tables_at w p).table names ≡ rows_of (state_of w) p
  shown-listed names n =
      in-order (shown_at (state_of w) p) (processor_tables_at w p).table names (events w.cells) n shown-look_up (λ a. refl)
      (λ a k. filter-none (λ x. covered_in (processor_state_at (state_of w) p).rows _ x.index) (placed_items w.setting.sheet.chain) (stream_in a (events w.cells)) (ap (nat_lt 0) (sym (bare-position (processor_state_at (state_of w) p) place.bare whole w.setting.sheet.chain w.cells a)) ∙ k))

pub shown-move : (w : WorldTables) (p : ℕ) (rules : Rules) (table : List Entry) (lines : List Line) (move : Move) → IsWorld w → IsTrue (is_projection w.setting p) → rules ≡ projection_at w.setting p → table ≡ (processor_tables_at w p).table
    → AddsRows rules.fields table [] lines → move ≡ record { edits = []; reply = Reply.Lines (length lines); report = lines } → IsMove w (reported (state_of w) (rows_report (state_of w) p)) move
shown-move w p rules table lines move h k r t added is =
    subst (IsMove w (reported (state_of w) (rows_report (state_of w) p))) (sym is) (record {
      fits = record { single = omega arith; can = tt; world = h };
      state = refl;
      reply = ap (λ ls. Reply.Lines (length ls)) same;
      report = same;
    })
  where
    same : lines ≡ rows_report (state_of w) p
    same =
        added.lines
        ∙ ap (map (line_of rules.fields)) (ap (λ es. listed es added.names) t ∙ shown-listed w p h k added.names (subst (λ es. AreNames es added.names) t added.are))
        ∙ ap (λ (x : Rules). map (line_of x.fields) (rows_of (state_of w) p)) r
