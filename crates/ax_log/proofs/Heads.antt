-- The index in the code: aggregates that are known, the count of a stream, and the walk back over it.
use Rattle.std.specs.Prelude.{◌≡◌, ℕ, zero, suc, ◌+◌, ◌-◌, ◌<◌, ◌≤◌, Bool, true, false, cond, List, [], ◌∷◌, ◌++◌, map, length, filter, take, Option, Some, None, slice_get, slice_index_or, reverse, if◌then◌else◌}
use Rattle.std.specs.List.{list_any}
use Rattle.std.specs.Map.{keys_of, lookup}
use Rattle.std.specs.Option.{is_some, unwrap_or}
use Rattle.std.proofs.Common.{refl, ap, sym, ◌∙◌, subst, ◌||◌, arith}
use Rattle.std.proofs.lemmas.List.{take-take, length-take, append-nil, append_assoc, map-append, reverse-append}
use Rattle.std.proofs.lemmas.Option.{slice_get-get_or}
use Rattle.std.proofs.lemmas.Slice.Eq.{bytes_eq-Decides}
use Rattle.ax_values.specs.Grammar.{Name}
use Rattle.ax_values.specs.Words.{same_name}
use Rattle.ax_values.specs.declared.record.Record.{Record}
use Rattle.ax_values.specs.declared.cell.Cell.{Cell}
use Rattle.ax_log.specs.Log.{Stored, events_from, is_of, stream_of, length_of, option_is, put_at}
use Rattle.ax_log.specs.Order.{IsOrdered, max_cells}
use Rattle.ax_log.specs.Puts.{CanPut, IsKnown, is_known}
use Rattle.ax_log.specs.Index.{has_event_of, IsLast, last_of, IsIndexed, last_after, before_of}
use Rattle.ax_log.specs.declared.put.CellPut.{CellPut}
use Rattle.ax_log.proofs.Index.{event-in, up_to_last, last_long, get-front, index_put, index_heads}

-- ---- known aggregates

pub known_lookup : (a : Name) (last : List (Name × ℕ)) → is_known (keys_of last) a ≡ is_some (lookup (same_name a) last)
known_lookup a [] = refl
known_lookup a (e ∷ es) = at (same_name a e.0) (known_lookup a es)
  where
    at : (b : Bool) → list_any (same_name a) (keys_of es) ≡ is_some (lookup (same_name a) es) → (b || list_any (same_name a) (keys_of es)) ≡ is_some (cond b (Some e.1) (lookup (same_name a) es))
    at true h = refl
    at false h = h

pub known_event : (names : List Name) (c : Cell) (r : Record) → c ≡ Cell.Event r → IsKnown names c → is_known names r.aggregate ≡ true
known_event names c r e h = subst (IsKnown names) e h

pub event_known : (names : List Name) (c : Cell) (r : Record) → c ≡ Cell.Event r → is_known names r.aggregate ≡ true → IsKnown names c
event_known names c r e h = subst (IsKnown names) (sym e) h

-- a new aggregate without events comes to the known ones
module _ (k : Name) (old new : List (Name × ℕ)) (updates : (q : Name) → lookup (same_name q) new ≡ cond (same_name k q) (Some 0) (lookup (same_name q) old)) where
  pub last_insert : is_some (lookup (same_name k) old) ≡ false → (a : Name) → last_of a new ≡ last_of a old
  last_insert absent a = at (same_name k a) refl (lookup (same_name a) old) refl
    where
      at : (b : Bool) → same_name k a ≡ b → (o : Option ℕ) → lookup (same_name a) old ≡ o → last_of a new ≡ last_of a old
      at true e None f = ap (λ (r : Option ℕ). unwrap_or r 0) (updates a ∙ ap (λ (c : Bool). cond c (Some 0) (lookup (same_name a) old)) e) ∙ sym (ap (λ (r : Option ℕ). unwrap_or r 0) f)
      at true e (Some n) f = absurd (let is : k ≡ a = (bytes_eq-Decides k a).0 e in let g : true ≡ false = sym (ap is_some f) ∙ ap (λ (x : Name). is_some (lookup (same_name x) old)) (sym is) ∙ absent in cc)
      at false e o f = ap (λ (r : Option ℕ). unwrap_or r 0) (updates a ∙ ap (λ (c : Bool). cond c (Some 0) (lookup (same_name a) old)) e)

  pub known_insert : is_known (keys_of new) k ≡ true
  known_insert = known_lookup k new ∙ ap is_some (updates k ∙ ap (λ (c : Bool). cond c (Some 0) (lookup (same_name k) old)) ((bytes_eq-Decides k k).1 refl))

  pub kept_insert : (a : Name) → is_known (keys_of old) a ≡ true → is_known (keys_of new) a ≡ true
  kept_insert a h = known_lookup a new ∙ ap is_some (updates a) ∙ at (same_name k a)
    where
      at : (b : Bool) → is_some (cond b (Some 0) (lookup (same_name a) old)) ≡ true
      at true = refl
      at false = sym (known_lookup a old) ∙ h

-- ---- the index is kept

pub index_kept : (cells now : List Cell) (before numbers : List ℕ) (last later : List (Name × ℕ)) → IsOrdered cells × IsIndexed cells before last → now ≡ cells → numbers ≡ before → ((a : Name) → last_of a later ≡ last_of a last)
    → IsOrdered now × IsIndexed now numbers later
index_kept cells now before numbers last later h e f same =
    let kept : IsIndexed cells before later = index_heads cells before last later h.1 same in
    (subst IsOrdered (sym e) h.0, subst (λ (cs : List Cell). IsIndexed cs numbers later) (sym e) (subst (λ (ns : List ℕ). IsIndexed cells ns later) (sym f) kept))

pub index_after : (cells now : List Cell) (before numbers : List ℕ) (last later : List (Name × ℕ)) (p : CellPut) → IsOrdered cells × IsIndexed cells before last → CanPut cells p
    → now ≡ put_at cells p.index p.cell → numbers ≡ put_at before p.index (before_of p.cell last) → ((a : Name) → last_of a later ≡ last_after p.index p.cell a (last_of a last)) → IsOrdered now × IsIndexed now numbers later
index_after cells now before numbers last later p h can e f lasts =
    let kept : IsIndexed (put_at cells p.index p.cell) (put_at before p.index (before_of p.cell last)) later = index_put cells before last later p.index p.cell can h.0 h.1 lasts in
    (subst IsOrdered (sym e) can.after, subst (λ (cs : List Cell). IsIndexed cs numbers later) (sym e) (subst (λ (ns : List ℕ). IsIndexed (put_at cells p.index p.cell) ns later) (sym f) kept))

-- ---- the count of a stream

length-events : (t : Stored → Bool) (cells : List Cell) (k : ℕ) → length (filter t (events_from k cells)) ≤ length cells
length-events t [] k = omega arith
length-events t (Cell.Reserved a s w u ∷ cs) k = let le : length (filter t (events_from (suc k) cs)) ≤ length cs = length-events t cs (suc k) in omega arith
length-events t (Cell.Void ∷ cs) k = let le : length (filter t (events_from (suc k) cs)) ≤ length cs = length-events t cs (suc k) in omega arith
length-events t (Cell.Event r ∷ cs) k = at (t event) (length-events t cs (suc k))
  where
    event : Stored
    event = record { index = k; record_of = r }

    at : (b : Bool) → length (filter t (events_from (suc k) cs)) ≤ length cs → length (if b then event ∷ filter t (events_from (suc k) cs) else filter t (events_from (suc k) cs)) ≤ suc (length cs)
    at true le = omega arith
    at false le = omega arith

-- a stream has no more events than there are cells
pub length_few : (a : Name) (cells : List Cell) → length_of a cells ≤ length cells
length_few a cells = length-events (is_of a) cells 0

-- the number of the last event says how many there are
pub counted : (a : Name) (cells : List Cell) (before : List ℕ) (last : List (Name × ℕ)) (l : ℕ) (c : Cell) (r : Record) → IsOrdered cells × IsIndexed cells before last → l ≡ last_of a last → (l ≡ 0 → ⊥)
    → c ≡ slice_index_or cells (l - 1) c → c ≡ Cell.Event r → r.seq + 1 ≡ length_of a cells
counted a cells before last l c r h e some read is = at l (subst (IsLast a cells) (sym e) (h.1.lasts a)) some read
  where
    at : (m : ℕ) → IsLast a cells m → (m ≡ 0 → ⊥) → c ≡ slice_index_or cells (m - 1) c → r.seq + 1 ≡ length_of a cells
    at zero k apart f = absurd (apart refl)
    at (suc m) k apart f =
        let less : suc m - 1 ≡ m = omega arith in
        let le : suc m ≤ length cells = k.within in
        let there : slice_get cells m ≡ Some (Cell.Event r) = slice_get-get_or cells m c (omega arith) ∙ ap Some (ap (λ (n : ℕ). slice_index_or cells n c) (sym less) ∙ sym f ∙ is) in
        let long : suc r.seq ≡ length_of a cells = last_long a cells m r k (h.0.numbered a) there in
        omega arith

pub counted_few : (a : Name) (cells : List Cell) (r : Record) → IsOrdered cells → r.seq + 1 ≡ length_of a cells → r.seq + 1 ≤ max_cells
counted_few a cells r h e = let le : length_of a cells ≤ length cells = length_few a cells in let size : length cells ≤ max_cells = h.size in omega arith

-- ---- the walk back over a stream

abbrev pub index_of : Stored → ℕ
index_of e = e.index

-- the walk has come back to the event before `at`, with these indexes, from the last one
pub record IsBack (cells : List Cell) (before : List ℕ) (a : Name) (at : ℕ) (indexes : List ℕ) : Type 0 where
  pub linked : (i : ℕ) (r : Record) (l : ℕ) → slice_get cells i ≡ Some (Cell.Event r) → slice_get before i ≡ Some l → IsLast r.aggregate (take i cells) l
  pub own : (k : ℕ) → at ≡ suc k → option_is (has_event_of a) (slice_get cells k) ≡ true
  pub told : map index_of (stream_of a (take at cells)) ++ reverse indexes ≡ map index_of (stream_of a cells)

pub back_start : (a : Name) (cells now : List Cell) (before numbers : List ℕ) (last : List (Name × ℕ)) (at : ℕ) (indexes : List ℕ) → IsIndexed cells before last → cells ≡ now → numbers ≡ before → at ≡ last_of a last → indexes ≡ []
    → IsBack now numbers a at indexes
back_start a cells now before numbers last at indexes h e f g none =
    subst (λ (cs : List Cell). IsBack cs numbers a at indexes) e
    (subst (λ (ns : List ℕ). IsBack cells ns a at indexes) (sym f)
    (subst (λ (n : ℕ). IsBack cells before a n indexes) (sym g)
    (subst (IsBack cells before a (last_of a last)) (sym none) start)))
  where
    start : IsBack cells before a (last_of a last) []
    start = record { linked = h.linked; own = (h.lasts a).own; told = append-nil (map index_of (stream_of a (take (last_of a last) cells))) ∙ ap (map index_of) (h.lasts a).all }

pub back_step : (a : Name) (cells : List Cell) (before : List ℕ) (at : ℕ) (indexes more : List ℕ) → IsBack cells before a at indexes → 0 < at → at ≤ length cells → length before ≡ length cells → more ≡ indexes ++ (at - 1) ∷ []
    → (slice_index_or before (at - 1) 0 < at) × IsBack cells before a (slice_index_or before (at - 1) 0) more
back_step a cells before zero indexes more h some within long e = absurd (omega arith)
back_step a cells before (suc k) indexes more h some within long e =
    let less : suc k - 1 ≡ k = omega arith in
    subst (λ (m : ℕ). (slice_index_or before m 0 < suc k) × IsBack cells before a (slice_index_or before m 0) more) (sym less)
    (let le : n ≤ k = below in omega arith, record { linked = h.linked; own = own; told = told })
  where
    n : ℕ
    n = slice_index_or before k 0

    found : (r : Record) × (slice_get cells k ≡ Some (Cell.Event r)) × (r.aggregate ≡ a)
    found = event-in a (slice_get cells k) (h.own k refl)

    last : IsLast a (take k cells) n
    last = subst (λ (x : Name). IsLast x (take k cells) n) found.2 (h.linked k found.0 n found.1 (slice_get-get_or before k 0 (omega arith)))

    below : n ≤ k
    below = let le : n ≤ length (take k cells) = last.within in let size = length-take {A = Cell} k cells in omega (arith, le, size)

    own : (j : ℕ) → n ≡ suc j → option_is (has_event_of a) (slice_get cells j) ≡ true
    own j is = let le : n ≤ k = below in ap (option_is (has_event_of a)) (sym (get-front cells k j (omega arith))) ∙ last.own j is

    -- the events before the one that was come to
    front : stream_of a (take n cells) ≡ stream_of a (take k cells)
    front = ap (λ (cs : List Cell). stream_of a cs) (sym (take-take n k cells below)) ∙ last.all

    with_it : map index_of (stream_of a (take (suc k) cells)) ≡ map index_of (stream_of a (take k cells)) ++ k ∷ []
    with_it = ap (map index_of) (up_to_last a cells k found.0 found.1 found.2) ∙ map-append index_of (stream_of a (take k cells)) (record { index = k; record_of = found.0 } ∷ [])

    back : reverse more ≡ k ∷ reverse indexes
    back = let less : suc k - 1 ≡ k = omega arith in ap reverse (e ∙ ap (λ (m : ℕ). indexes ++ m ∷ []) less) ∙ reverse-append indexes (k ∷ [])

    told : map index_of (stream_of a (take n cells)) ++ reverse more ≡ map index_of (stream_of a cells)
    told =
        ap (λ (es : List Stored). map index_of es ++ reverse more) front
        ∙ ap (λ (xs : List ℕ). map index_of (stream_of a (take k cells)) ++ xs) back
        ∙ sym (append_assoc (map index_of (stream_of a (take k cells))) (k ∷ []) (reverse indexes))
        ∙ ap (λ (xs : List ℕ). xs ++ reverse indexes) (sym with_it)
        ∙ h.told
