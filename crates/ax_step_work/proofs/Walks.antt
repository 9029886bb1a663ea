-- Walks over the cells that may have an event that passes a test: what stands below an index grows by what the cell at the index has.
use Rattle.std.proofs.Common.{◌≡◌, ℕ, zero, suc, min, ◌+◌, ◌<◌, ◌≤◌, ◌&&◌, Bool, true, false, List, [], ◌∷◌, ◌++◌, length, map, get_or, filter, if◌then◌else◌, refl, sym, ap, ◌∙◌, subst, arith, nat_lt}
use Rattle.std.proofs.lemmas.Bool.Decides.{nat_tests}
use Rattle.ax_values.specs.declared.cell.Cell.{Cell}
use Rattle.ax_values.specs.declared.record.Record.{Record}
use Rattle.ax_log.specs.Log.{Stored, events_from, events}
use Rattle.ax_step_work.specs.Reach.{event_is, events_at}

abbrev pub indexes : List Stored → List ℕ
indexes es = map (λ e. e.index) es

module _ (f : Stored → Bool) where
  -- those below b that pass
  abbrev pub passed : List Stored → ℕ → List Stored
  passed es b = filter (λ e. f e && nat_lt e.index b) es

  -- ---- bounds between which none passes

  pub passed-same : (es : List Stored) (a b : ℕ) → a ≤ b → ((e : Stored) → a ≤ e.index → e.index < b → f e ≡ false) → passed es b ≡ passed es a
  passed-same [] a b le h = refl
  passed-same (e ∷ es) a b le h = at (f e) refl (nat_lt e.index b) refl (nat_lt e.index a) refl (passed-same es a b le h)
    where
      at : (x : Bool) → f e ≡ x → (y : Bool) → nat_lt e.index b ≡ y → (z : Bool) → nat_lt e.index a ≡ z → passed es b ≡ passed es a → (if x && y then e ∷ passed es b else passed es b) ≡ (if x && z then e ∷ passed es a else passed es a)
      at false k y l z m ih = ih
      at true k true l true m ih = ap (λ xs. e ∷ xs) ih
      at true k false l false m ih = ih
      at true k true l false m ih = absurd (let none : f e ≡ false = h e (grind (arith, nat_tests, m)) (grind (arith, nat_tests, l)) in cc)
      at true k false l true m ih = absurd (let lower : e.index < a = grind (arith, nat_tests, m) in let over : b ≤ e.index = grind (arith, nat_tests, l) in omega arith)

  pub passed-none : (es : List Stored) → passed es 0 ≡ []
  passed-none [] = refl
  passed-none (e ∷ es) = at (f e) (nat_lt e.index 0) (grind (arith, nat_tests)) (passed-none es)
    where
      at : (x y : Bool) → y ≡ false → passed es 0 ≡ [] → (if x && y then e ∷ passed es 0 else passed es 0) ≡ []
      at x true k ih = absurd (cc)
      at true false k ih = ih
      at false false k ih = ih

  pub passed-more : (es : List Stored) (a b : ℕ) → a ≤ b → length (passed es a) ≤ length (passed es b)
  passed-more [] a b le = omega arith
  passed-more (e ∷ es) a b le = at (f e) (nat_lt e.index a) refl (nat_lt e.index b) refl (passed-more es a b le)
    where
      at : (x y : Bool) → nat_lt e.index a ≡ y → (z : Bool) → nat_lt e.index b ≡ z → length (passed es a) ≤ length (passed es b) → length (if x && y then e ∷ passed es a else passed es a) ≤ length (if x && z then e ∷ passed es b else passed es b)
      at false y k z l h = h
      at true true k true l h = omega arith
      at true true k false l h = absurd (let lower : e.index < a = grind (arith, nat_tests, k) in let over : b ≤ e.index = grind (arith, nat_tests, l) in omega arith)
      at true false k true l h = omega arith
      at true false k false l h = h

  -- ---- one cell more

  -- what a cell, at its index, has that passes
  abbrev found : ℕ → Cell → List Stored
  found i c = events_at f i c

  past : (k b : ℕ) (cells : List Cell) → b ≤ k → passed (events_from k cells) b ≡ []
  past k b [] le = refl
  past k b (Cell.Reserved a s w t ∷ cells) le = past (suc k) b cells (omega arith)
  past k b (Cell.Void ∷ cells) le = past (suc k) b cells (omega arith)
  past k b (Cell.Event r ∷ cells) le = at (f (record { index = k; record_of = r })) (nat_lt k b) (grind (arith, nat_tests)) (past (suc k) b cells (omega arith))
    where
      at : (x y : Bool) → y ≡ false → passed (events_from (suc k) cells) b ≡ [] → (if x && y then record { index = k; record_of = r } ∷ passed (events_from (suc k) cells) b else passed (events_from (suc k) cells) b) ≡ []
      at x true e ih = absurd (cc)
      at true false e ih = ih
      at false false e ih = ih

  first : (k : ℕ) (c : Cell) (cells : List Cell) → passed (events_from k (c ∷ cells)) (suc k) ≡ found k c
  first k (Cell.Reserved a s w t) cells = past (suc k) (suc k) cells (omega arith)
  first k Cell.Void cells = past (suc k) (suc k) cells (omega arith)
  first k (Cell.Event r) cells = at (f (record { index = k; record_of = r })) (nat_lt k (suc k)) (grind (arith, nat_tests)) (past (suc k) (suc k) cells (omega arith))
    where
      at : (x y : Bool) → y ≡ true → passed (events_from (suc k) cells) (suc k) ≡ []
          → (if x && y then record { index = k; record_of = r } ∷ passed (events_from (suc k) cells) (suc k) else passed (events_from (suc k) cells) (suc k)) ≡ (if x then record { index = k; record_of = r } ∷ [] else [])
      at x false e ih = absurd (cc)
      at true true e ih = ap (λ es. record { index = k; record_of = r } ∷ es) ih
      at false true e ih = ih

  behind : (k b : ℕ) (r : Record) (es new : List Stored) → k < b → passed es (suc b) ≡ passed es b ++ new → passed (record { index = k; record_of = r } ∷ es) (suc b) ≡ passed (record { index = k; record_of = r } ∷ es) b ++ new
  behind k b r es new lt ih = at (f (record { index = k; record_of = r })) (nat_lt k (suc b)) (grind (arith, nat_tests)) (nat_lt k b) (grind (arith, nat_tests))
    where
      at : (x y : Bool) → y ≡ true → (z : Bool) → z ≡ true
          → (if x && y then record { index = k; record_of = r } ∷ passed es (suc b) else passed es (suc b)) ≡ (if x && z then record { index = k; record_of = r } ∷ passed es b else passed es b) ++ new
      at x false e z d = absurd (cc)
      at x true e false d = absurd (cc)
      at true true e true d = ap (λ xs. record { index = k; record_of = r } ∷ xs) ih
      at false true e true d = ih

  one-more : (k j : ℕ) (cells : List Cell) (c : Cell) → j < length cells → c ≡ get_or cells j c → passed (events_from k cells) (suc (k + j)) ≡ passed (events_from k cells) (k + j) ++ found (k + j) c
  one-more k j [] c lt e = absurd (omega arith)
  one-more k zero (d ∷ cells) c lt e =
      let here : k + 0 ≡ k = omega arith in
      ap (λ i. passed (events_from k (d ∷ cells)) (suc i)) here ∙ first k d cells ∙ ap (found k) (sym e)
      ∙ ap (λ i. found i c) (sym here) ∙ ap (λ es. es ++ found (k + 0) c) (sym (past k (k + 0) (d ∷ cells) (omega arith)))
  one-more k (suc j) (d ∷ cells) c lt e =
      let next : suc k + j ≡ k + suc j = omega arith in
      at d (subst (λ i. passed (events_from (suc k) cells) (suc i) ≡ passed (events_from (suc k) cells) i ++ found i c) next (one-more (suc k) j cells c (omega arith) e))
    where
      at : (d : Cell) → passed (events_from (suc k) cells) (suc (k + suc j)) ≡ passed (events_from (suc k) cells) (k + suc j) ++ found (k + suc j) c
          → passed (events_from k (d ∷ cells)) (suc (k + suc j)) ≡ passed (events_from k (d ∷ cells)) (k + suc j) ++ found (k + suc j) c
      at (Cell.Reserved a s w t) ih = ih
      at Cell.Void ih = ih
      at (Cell.Event r) ih = behind k (k + suc j) r (events_from (suc k) cells) (found (k + suc j) c) (omega arith) ih

  found-in : (i : ℕ) (c : Cell) → event_is f i c ≡ true → indexes (found i c) ≡ i ∷ []
  found-in i (Cell.Reserved a s w t) e = absurd (cc)
  found-in i Cell.Void e = absurd (cc)
  found-in i (Cell.Event r) e = ap (λ b. indexes (if b then record { index = i; record_of = r } ∷ [] else [])) e

  found-out : (i : ℕ) (c : Cell) → event_is f i c ≡ false → found i c ≡ []
  found-out i (Cell.Reserved a s w t) e = refl
  found-out i Cell.Void e = refl
  found-out i (Cell.Event r) e = ap (λ b. if b then record { index = i; record_of = r } ∷ [] else []) e

  length-indexes : (es : List Stored) → length (indexes es) ≡ length es
  length-indexes [] = refl
  length-indexes (e ∷ es) = ap suc (length-indexes es)

  indexes-both : (es new : List Stored) → indexes (es ++ new) ≡ indexes es ++ indexes new
  indexes-both [] new = refl
  indexes-both (e ∷ es) new = ap (λ xs. e.index ∷ xs) (indexes-both es new)

  none-behind : (es : List Stored) → es ++ [] ≡ es
  none-behind [] = refl
  none-behind (e ∷ es) = ap (λ xs. e ∷ xs) (none-behind es)

  length-behind : (xs : List ℕ) (x : ℕ) → length (xs ++ x ∷ []) ≡ length xs + 1
  length-behind [] x = omega arith
  length-behind (y ∷ xs) x = let ih : length (xs ++ x ∷ []) ≡ length xs + 1 = length-behind xs x in omega arith

  module _ (cells : List Cell) (i next : ℕ) (c : Cell) (lt : i < length cells) (at : c ≡ get_or cells i c) (le : i + 1 ≤ next) (none : (e : Stored) → i + 1 ≤ e.index → e.index < next → f e ≡ false) where
    -- what stands below the next index: one event more, where the cell has one that passes
    pub grown : passed (events cells) next ≡ passed (events cells) i ++ found i c
    grown =
        let one : i + 1 ≡ suc (0 + i) = omega arith in let start : 0 + i ≡ i = omega arith in
        passed-same (events cells) (i + 1) next le none ∙ ap (passed (events cells)) one
        ∙ one-more 0 i cells c lt at ∙ ap (λ j. passed (events cells) j ++ found j c) start

    -- the step from an index to the next at which an event may pass
    pub step-in : event_is f i c ≡ true → indexes (passed (events cells) next) ≡ indexes (passed (events cells) i) ++ i ∷ []
    step-in e = ap indexes grown ∙ indexes-both (passed (events cells) i) (found i c) ∙ ap (λ xs. indexes (passed (events cells) i) ++ xs) (found-in i c e)

    pub step-out : event_is f i c ≡ false → passed (events cells) next ≡ passed (events cells) i
    step-out e = grown ∙ ap (λ es. passed (events cells) i ++ es) (found-out i c e) ∙ none-behind (passed (events cells) i)

    pub count-in : event_is f i c ≡ true → length (passed (events cells) next) ≡ length (passed (events cells) i) + 1
    count-in e = sym (length-indexes (passed (events cells) next)) ∙ ap length (step-in e) ∙ length-behind (indexes (passed (events cells) i)) i ∙ ap (λ n. n + 1) (length-indexes (passed (events cells) i))

  -- ---- the end

  whole-from : (k b : ℕ) (cells : List Cell) → k + length cells ≤ b → passed (events_from k cells) b ≡ filter f (events_from k cells)
  whole-from k b [] le = refl
  whole-from k b (Cell.Reserved a s w t ∷ cells) le = whole-from (suc k) b cells (omega arith)
  whole-from k b (Cell.Void ∷ cells) le = whole-from (suc k) b cells (omega arith)
  whole-from k b (Cell.Event r ∷ cells) le = at (f (record { index = k; record_of = r })) (nat_lt k b) (grind (arith, nat_tests)) (whole-from (suc k) b cells (omega arith))
    where
      at : (x y : Bool) → y ≡ true → passed (events_from (suc k) cells) b ≡ filter f (events_from (suc k) cells)
          → (if x && y then record { index = k; record_of = r } ∷ passed (events_from (suc k) cells) b else passed (events_from (suc k) cells) b) ≡ (if x then record { index = k; record_of = r } ∷ filter f (events_from (suc k) cells) else filter f (events_from (suc k) cells))
      at x false e ih = absurd (cc)
      at true true e ih = ap (λ es. record { index = k; record_of = r } ∷ es) ih
      at false true e ih = ih

  -- from the end on none passes
  pub passed-all : (cells : List Cell) (last end i : ℕ) → end ≡ min last (length cells) → end ≤ i → ((e : Stored) → last ≤ e.index → f e ≡ false) → passed (events cells) i ≡ filter f (events cells)
  passed-all cells last end i is le none = at (nat_lt i (length cells)) refl
    where
      at : (b : Bool) → nat_lt i (length cells) ≡ b → passed (events cells) i ≡ filter f (events cells)
      at false e = whole-from 0 i cells (let past : length cells ≤ i = grind (arith, nat_tests, e) in omega arith)
      at true e =
          let below : i < length cells = grind (arith, nat_tests, e) in
          sym (passed-same (events cells) i (length cells) (omega arith) (λ x low lt. none x (omega arith)))
          ∙ whole-from 0 (length cells) cells (omega arith)
