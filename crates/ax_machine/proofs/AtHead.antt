-- In a well-formed state each row is the fold of a prefix, and at the head the rows are those of the log alone.
use Rattle.std.proofs.Common.{◌≡◌, ℕ, suc, ◌+◌, ◌<◌, ◌≤◌, ◌==◌, ◌&&◌, Bool, true, false, not, IsTrue, List, [], ◌∷◌, map, length, filter, flat_map, find, take, Option, Some, Result, Ok, Err, if◌then◌else◌, refl, sym, ap, ◌∙◌, subst, arith, nat_lt}
use Rattle.std.specs.Prelude.{IsOk}
use Rattle.std.specs.List.{AllByRecursion, list_all}
use Rattle.std.proofs.Math.Seq.{take-length}
use Rattle.std.proofs.lemmas.Bool.Decides.{nat_tests}
use Rattle.ax_values.specs.Grammar.{Name, ItemName}
use Rattle.ax_laws.proofs.Tests.{both}
use Rattle.ax_log.specs.Log.{Stored, events_from, events, stream_in, is_of, aggregates, is_reserved}
use Rattle.ax_rules.specs.Expr.{Row}
use Rattle.ax_rules.specs.Rules.{Rules, applied, fold_from, fold_items, lenient_from, lenient, start_row, row_or, and_then}
use Rattle.ax_segments.specs.Segments.{matches, is_upper, half_mask}
use Rattle.ax_segments.specs.Sequences.{hash_in}
use Rattle.ax_segments.proofs.HashLaws.{hash_in-small}
use Rattle.ax_tokens.specs.Plain.{Plain, has, contains}
use Rattle.ax_tokens.specs.Tokens.{Token, covers, covers_here, half, plain, merged, replay}
use Rattle.ax_projections.specs.Items.{Placed, placed_items, plain_items}
use Rattle.ax_claims.specs.Rows.{TokenRow}
use Rattle.ax_state.specs.Setting.{is_projection, projection_at, whole_at}
use Rattle.ax_state.specs.State.{State, ProcessorState, processor_state_at, empty_processor}
use Rattle.ax_state.specs.Positions.{items_at, covered_in, covered_items_in, row_covers, undropped, position_of, row_of, shown_at, has_items, rebuilt_at, is_empty, has_all, covers_all, is_at_head}
use Rattle.ax_state.specs.WellFormed.{IsProcessorState, IsWellFormed}
use Rattle.ax_state.proofs.Lists.{AllFrom-get}
use Rattle.ax_state.proofs.Prefixes.{same-row, bare-position, filter-items}
use Rattle.ax_world.proofs.ProcessorStates.{get-at}
use Rattle.ax_world.proofs.Projections.{projection-within}
use Rattle.ax_state.proofs.RowPuts.{rows-of}
use Rattle.ax_machine.specs.Promises.{IsFoldOfPrefix, AreRight}
use Rattle.ax_values.specs.declared.cell.Cell.{Cell}
use Rattle.ax_values.specs.declared.item.Item.{Item}
use Rattle.ax_rules.specs.declared.cause.Cause.{Cause}

-- ---- lists

map-same : {A B : Type 0} (f g : A → B) → ((x : A) → f x ≡ g x) → (xs : List A) → map f xs ≡ map g xs
map-same f g same [] = refl
map-same f g same (x ∷ xs) = ap (λ y. y ∷ map f xs) (same x) ∙ ap (λ ys. g x ∷ ys) (map-same f g same xs)

fewer : {A : Type 0} (t : A → Bool) (xs : List A) → length (filter t xs) ≤ length xs
fewer t [] = omega arith
fewer t (x ∷ xs) = at (t x) (fewer t xs)
  where
    at : (b : Bool) → length (filter t xs) ≤ length xs → length (if b then x ∷ filter t xs else filter t xs) ≤ suc (length xs)
    at true h = omega arith
    at false h = omega arith

none-dropped : (xs : List Placed) → undropped [] xs ≡ xs
none-dropped [] = refl
none-dropped (x ∷ xs) = ap (λ ys. x ∷ ys) (none-dropped xs)

ok-or : (d : Row) (r : Result Row Cause) → IsOk r → r ≡ Ok (row_or d r)
ok-or d (Ok row) h = refl
ok-or d (Err c) h = absurd (cc)

-- ---- folds

lenient-ok : (rules : Rules) (xs : List Item) (r s : Row) → fold_from rules xs r ≡ Ok s → lenient_from rules xs r ≡ s
lenient-ok rules [] r s h = let is : r ≡ s = cc in is
lenient-ok rules (x ∷ xs) r s h = at (applied rules r x) h (λ next k. lenient-ok rules xs next s k)
  where
    at : (a : Result Row Cause) → and_then a (λ n. fold_from rules xs n) ≡ Ok s → ((next : Row) → fold_from rules xs next ≡ Ok s → lenient_from rules xs next ≡ s) → lenient_from rules xs (row_or r a) ≡ s
    at (Ok next) k ih = ih next k
    at (Err c) k ih = absurd (cc)

-- ---- what is at the head covers all

module _ (n i : ℕ) (lt : i < n) where
  plain-head : (p : Plain) → has_all n p ≡ true → has p i ≡ true
  plain-head p h = at p.gaps refl (both (p.next == n) (is_empty p.gaps) h)
    where
      at : (gaps : List ℕ) → p.gaps ≡ gaps → ((p.next == n) ≡ true) × (is_empty p.gaps ≡ true) → has p i ≡ true
      at [] e k =
          let is : p.next ≡ n = grind (arith, nat_tests, k.0) in
          let low : nat_lt i p.next ≡ true = grind (arith, nat_tests) in
          ap (λ b. b && not (contains p.gaps i)) low ∙ ap (λ gs. true && not (contains gs i)) e
      at (g ∷ gaps) e k = absurd (let never : false ≡ true = sym (ap is_empty e) ∙ k.1 in cc)

  token-head : (t : Token) (mask h : ℕ) → covers_all n t ≡ true → covers t mask h i ≡ true
  token-head (plain p) mask h k = plain-head p k
  token-head (merged l u) mask h k =
      let e = both (covers_all n l) (covers_all n u) k in at (is_upper mask h) (token-head l (half_mask mask) h e.0) (token-head u (half_mask mask) h e.1)
    where
      at : (b : Bool) → covers l (half_mask mask) h i ≡ true → covers u (half_mask mask) h i ≡ true → covers_here (if b then half u (half_mask mask) h else half l (half_mask mask) h) i ≡ true
      at true lower upper = upper
      at false lower upper = lower
  token-head (replay r c) mask h k = plain-head c (both (has_all n r) (has_all n c) k).1

  rows-head : (rows : List TokenRow) (h : ℕ) → list_all (λ r. covers_all n r.token) rows ≡ true → length (filter (λ r. matches r.segment h) rows) ≡ 1 → covered_in rows h i ≡ true
  rows-head [] h k one = absurd (omega arith)
  rows-head (r ∷ rows) h k one =
      let e = both (covers_all n r.token) (list_all (λ r. covers_all n r.token) rows) k in at (matches r.segment h) one (token-head r.token r.segment.mask h e.0) (λ alone. rows-head rows h e.1 alone)
    where
      at : (b : Bool) → length (if b then r ∷ filter (λ r. matches r.segment h) rows else filter (λ r. matches r.segment h) rows) ≡ 1 → covers r.token r.segment.mask h i ≡ true
          → (length (filter (λ r. matches r.segment h) rows) ≡ 1 → covered_in rows h i ≡ true) → row_covers h i (if b then Some r else find (λ r. matches r.segment h) rows) ≡ true
      at true e here later = here
      at false e here later = later e

stream-head : (test : ℕ → Bool) (a : Name) (k : ℕ) (cells : List Cell) → ((i : ℕ) → i < k + length cells → test i ≡ true) → filter (λ e. test e.index) (stream_in a (events_from k cells)) ≡ stream_in a (events_from k cells)
stream-head test a k [] f = refl
stream-head test a k (Cell.Reserved n s w t ∷ cells) f = stream-head test a (suc k) cells (λ i lt. f i (omega arith))
stream-head test a k (Cell.Void ∷ cells) f = stream-head test a (suc k) cells (λ i lt. f i (omega arith))
stream-head test a k (Cell.Event r ∷ cells) f = at (is_of a e) (stream-head test a (suc k) cells (λ i lt. f i (omega arith)))
  where
    e : Stored
    e = record { index = k; record_of = r }

    rest : List Stored
    rest = stream_in a (events_from (suc k) cells)

    at : (b : Bool) → filter (λ e. test e.index) rest ≡ rest → filter (λ e. test e.index) (if b then e ∷ rest else rest) ≡ (if b then e ∷ rest else rest)
    at true ih = ap (λ c. if c then e ∷ filter (λ e. test e.index) rest else filter (λ e. test e.index) rest) (f k (omega arith)) ∙ ap (λ es. e ∷ es) ih
    at false ih = ih

-- ---- of a state

module _ (m : State) (p : ℕ) (h : IsWellFormed m) (projection : IsTrue (is_projection m.setting p)) where
  abbrev whole : Option Name
  whole = whole_at m.setting p

  abbrev processor_state : ProcessorState
  processor_state = processor_state_at m p

  place : IsProcessorState m.setting m.cells p processor_state
  place =
      let within : p < length m.setting.processors = projection-within m.setting.processors p projection in
      let declared : length m.processor_states ≡ length m.setting.processors = h.declared in
      AllFrom-get (IsProcessorState m.setting m.cells) 0 m.processor_states p processor_state h.processors (get-at empty_processor m.processor_states p (omega arith)) p (omega arith)

  row-ok : (d : Row) (a : Name) → row_of m p a ≡ Ok (row_or d (row_of m p a))
  row-ok d a =
      ok-or d (row_of m p a) (subst IsOk (sym (same-row m.setting m.cells p processor_state place (projection_at m.setting p) a)) (place.folded.rows projection a))

  is-fold : (a : Name) → IsFoldOfPrefix m p (shown_at m p a)
  is-fold a = record {
    within = subst (λ n. n ≤ length (items_at m a)) (sym (bare-position processor_state place.bare whole m.setting.sheet.chain m.cells a)) (fewer (λ x. covered_in processor_state.rows (hash_in whole a) x.index) (items_at m a));
    row = row-ok (start_row (projection_at m.setting p).fields) a;
  }

  all-folds : (names : List Name) → AllByRecursion (IsFoldOfPrefix m p) (filter has_items (map (shown_at m p) names))
  all-folds [] = tt
  all-folds (a ∷ names) = at (has_items (shown_at m p a)) (all-folds names)
    where
      at : (b : Bool) → AllByRecursion (IsFoldOfPrefix m p) (filter has_items (map (shown_at m p) names))
          → AllByRecursion (IsFoldOfPrefix m p) (if b then shown_at m p a ∷ filter has_items (map (shown_at m p) names) else filter has_items (map (shown_at m p) names))
      at true k = (is-fold a, k)
      at false k = k

  head-items : IsTrue (is_at_head m p) → (a : Name) → covered_items_in whole m.setting.sheet.chain m.cells processor_state.rows a ≡ items_at m a
  head-items head a =
      filter-items m.setting.sheet.chain (covered_in processor_state.rows (hash_in whole a)) (stream_in a (events m.cells))
      ∙ ap (flat_map (placed_items m.setting.sheet.chain))
      (stream-head (covered_in processor_state.rows (hash_in whole a)) a 0 m.cells
      (λ i lt. rows-head (length m.cells) i (omega arith) processor_state.rows (hash_in whole a) (both (list_all (λ c. not (is_reserved c)) m.cells) (list_all (λ r. covers_all (length m.cells) r.token) processor_state.rows) head).1
      ((rows-of processor_state.rows place.parts).once (hash_in whole a) (hash_in-small whole a))))

  head-shown : IsTrue (is_at_head m p) → (a : Name) → shown_at m p a ≡ rebuilt_at (projection_at m.setting p) m.setting.sheet.chain m.cells a
  head-shown head a =
      ap (λ n. record { aggregate = a; position = n; row = row_or (start_row rules.fields) (row_of m p a) }) count ∙ ap (λ r. record { aggregate = a; position = length (items_at m a); row = r }) (sym folded)
    where
      rules : Rules
      rules = projection_at m.setting p

      count : position_of m p a ≡ length (items_at m a)
      count = bare-position processor_state place.bare whole m.setting.sheet.chain m.cells a ∙ ap length (head-items head a)

      of-all : row_of m p a ≡ fold_items rules (plain_items (items_at m a))
      of-all = ap (λ (ds : List ItemName). fold_items rules (plain_items (undropped ds (take (position_of m p a) (items_at m a))))) place.bare.drops ∙ ap (λ n. fold_items rules (plain_items (undropped [] (take n (items_at m a))))) count ∙ ap (λ xs. fold_items rules (plain_items (undropped [] xs))) (take-length (items_at m a)) ∙ ap (λ xs. fold_items rules (plain_items xs)) (none-dropped (items_at m a))

      folded : lenient rules (plain_items (items_at m a)) ≡ row_or (start_row rules.fields) (row_of m p a)
      folded = lenient-ok rules (plain_items (items_at m a)) (start_row rules.fields) (row_or (start_row rules.fields) (row_of m p a)) (sym of-all ∙ row-ok (start_row rules.fields) a)

  pub are-right : AreRight m p
  are-right = record {
    folds = all-folds (aggregates m.cells);
    complete = λ head. ap (filter has_items) (map-same (shown_at m p) (rebuilt_at (projection_at m.setting p) m.setting.sheet.chain m.cells) (head-shown head) (aggregates m.cells));
  }
