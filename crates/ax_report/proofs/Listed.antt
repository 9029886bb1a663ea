-- Names in order, and the rows of a table under them.
use Rattle.std.proofs.Common.{◌≡◌, ℕ, suc, ◌+◌, ◌<◌, ◌≤◌, Bool, true, false, ◌&&◌, ◌||◌, List, [], ◌∷◌, ◌++◌, map, length, slice_index_or, filter, find, fold, Option, Some, None, is_some, option_map, nat_lt, if◌then◌else◌, refl, sym, ap, ◌∙◌, subst, arith, true≢false}
use Rattle.std.specs.List.{AllByRecursion, IsDistinct, list_any, sum_by}
use Rattle.std.specs.List.Sorted.{IsPermutation, IsSorted}
use Rattle.std.proofs.lemmas.List.Sorted.{sum_by-IsPermutation}
use Rattle.std.proofs.lemmas.Cmp.{nat_list_cmp_total, tied_itself}
use Rattle.std.proofs.lemmas.Map.Text.{is_eq-slice_cmp}
use Rattle.std.proofs.lemmas.Bool.Decides.{nat_tests}
use Rattle.std.specs.Ordering.{is_lt, is_eq, ordering_reverse, match_ordering}
use Rattle.std.specs.declared.cmp.Ordering.{Ordering}
use Rattle.std.specs.declared.cmp.Ordering.TheVariants.{Less, Equal, Greater}
use Rattle.ax_values.specs.Grammar.{Name}
use Rattle.ax_values.specs.Words.{same_name, name_cmp, rises, insert_rising}
use Rattle.ax_laws.proofs.Tests.{both, and-right, or-front, is-less}
use Rattle.ax_log.specs.Log.{Stored, aggregates_of, stream_in, is_of}
use Rattle.ax_projections.specs.Table.{Entry, look_up}
use Rattle.ax_projections.proofs.NameLaws.{name-is, name-refl, name-sym}
use Rattle.ax_state.specs.Every.{count, one}
use Rattle.ax_state.proofs.Lists.{count-none}
use Rattle.ax_state.specs.Positions.{Shown, has_items}
use Rattle.ax_report.specs.Reports.{listed, shown_of, AreNames}
use Rattle.ax_projections.specs.declared.table.Positioned.{Positioned}

-- ---- membership

abbrev pub among : Name → List Name → Bool
among a xs = list_any (same_name a) xs

abbrev times : Name → List Name → ℕ
times a xs = count (same_name a) xs

among-times : (a : Name) (xs : List Name) → among a xs ≡ nat_lt 0 (times a xs)
among-times a [] = refl
among-times a (x ∷ xs) = at (same_name a x) (among-times a xs)
  where
    at : (b : Bool) → among a xs ≡ nat_lt 0 (times a xs) → (b || among a xs) ≡ nat_lt 0 (one b + times a xs)
    at true h = let pos : 0 < 1 + times a xs = omega arith in sym (grind (arith, nat_tests, pos))
    at false h = let same : times a xs ≡ 0 + times a xs = omega arith in h ∙ ap (nat_lt 0) same

sum-times : (a : Name) (n : ℕ) (xs : List Name) → fold (λ k b. k + one (same_name a b)) n xs ≡ n + times a xs
sum-times a n [] = omega arith
sum-times a n (x ∷ xs) = let ih : fold (λ k b. k + one (same_name a b)) (n + one (same_name a x)) xs ≡ (n + one (same_name a x)) + times a xs = sum-times a (n + one (same_name a x)) xs in omega (arith, ih)

times-permuted : (a : Name) (xs ys : List Name) → IsPermutation xs ys → times a ys ≡ times a xs
times-permuted a xs ys h =
    let s : sum_by (λ b. one (same_name a b)) ys ≡ sum_by (λ b. one (same_name a b)) xs = sum_by-IsPermutation (λ b. one (same_name a b)) xs ys h in
    let x : fold (λ k b. k + one (same_name a b)) 0 xs ≡ 0 + times a xs = sum-times a 0 xs in
    let y : fold (λ k b. k + one (same_name a b)) 0 ys ≡ 0 + times a ys = sum-times a 0 ys in omega (arith, s, x, y)

among-permuted : (a : Name) (xs ys : List Name) → IsPermutation xs ys → among a ys ≡ among a xs
among-permuted a xs ys h = among-times a ys ∙ ap (nat_lt 0) (times-permuted a xs ys h) ∙ sym (among-times a xs)

times-distinct : (a : Name) (xs : List Name) → IsDistinct same_name xs → times a xs ≤ 1
unfolding IsDistinct
times-distinct a [] h = omega arith
times-distinct a (x ∷ xs) h = at (same_name a x) refl (times-distinct a xs h.1)
  where
    at : (b : Bool) → same_name a x ≡ b → times a xs ≤ 1 → one b + times a xs ≤ 1
    at true e k = let none : times a xs ≡ 0 = count-none (same_name a) xs (subst (λ n. AllByRecursion (λ y. same_name n y ≡ false) xs) (sym (name-is a x e)) h.0) in omega (arith, none)
    at false e k = omega (arith, k)

-- ---- order

abbrev pub Rises : List Name → Type 0
Rises xs = rises (λ x y. is_lt (name_cmp x y)) xs ≡ true

-- what is sorted and has no name twice rises
sorted-rises : (xs : List Name) → IsSorted name_cmp xs → ((a : Name) → times a xs ≤ 1) → Rises xs
sorted-rises [] s h = refl
sorted-rises (x ∷ []) s h = refl
sorted-rises (x ∷ y ∷ xs) s h =
    ap (λ b. b && rises (λ x y. is_lt (name_cmp x y)) (y ∷ xs)) (by (name_cmp x y) refl) ∙ sorted-rises (y ∷ xs) rest (λ a. let k : one (same_name a x) + times a (y ∷ xs) ≤ 1 = h a in omega (arith, k))
  where
    here : is_lt (name_cmp y x) ≡ false
    here = s 0 x (omega arith) (omega arith)

    rest : IsSorted name_cmp (y ∷ xs)
    rest k d l lt = let next : suc k + 1 ≡ suc (k + 1) = omega arith in subst (λ n. is_lt (name_cmp (slice_index_or (x ∷ y ∷ xs) n d) (slice_index_or (x ∷ y ∷ xs) (suc k) d)) ≡ false) next (s (suc k) d (omega arith) (omega (arith, lt)))

    by : (o : Ordering) → name_cmp x y ≡ o → is_lt o ≡ true
    by Less e = refl
    by Equal e =
        let same : one (same_name x y) ≡ 1 = ap one (sym (is_eq-slice_cmp x y) ∙ ap is_eq e) in
        let own : one (same_name x x) ≡ 1 = ap one (name-refl x) in
        let k : one (same_name x x) + (one (same_name x y) + times x xs) ≤ 1 = h x in absurd (omega (arith, same, own, k))
    by Greater e = absurd (true≢false (sym (ap is_lt (nat_list_cmp_total.antisymm y x ∙ ap ordering_reverse e)) ∙ here))

pub above : (x z : Name) (ys : List Name) → Rises (x ∷ ys) → among z ys ≡ true → name_cmp x z ≡ Less
above x z [] h m = absurd (cc)
above x z (y ∷ ys) h m = at (same_name z y) refl m (above y z ys (both (is_lt (name_cmp x y)) (rises (λ x y. is_lt (name_cmp x y)) (y ∷ ys)) h).1)
  where
    first : name_cmp x y ≡ Less
    first = is-less (name_cmp x y) (both (is_lt (name_cmp x y)) (rises (λ x y. is_lt (name_cmp x y)) (y ∷ ys)) h).0

    at : (b : Bool) → same_name z y ≡ b → (b || among z ys) ≡ true → (among z ys ≡ true → name_cmp y z ≡ Less) → name_cmp x z ≡ Less
    at true e m ih = subst (λ n. name_cmp x n ≡ Less) (sym (name-is z y e)) first
    at false e m ih = nat_list_cmp_total.trans x y z first (ih m)

rest-rises : (x : Name) (xs : List Name) → Rises (x ∷ xs) → Rises xs
rest-rises x [] h = refl
rest-rises x (y ∷ ys) h = (both (is_lt (name_cmp x y)) (rises (λ x y. is_lt (name_cmp x y)) (y ∷ ys)) h).1

absent : (x : Name) (xs : List Name) → Rises (x ∷ xs) → among x xs ≡ false
absent x xs h = at (among x xs) refl
  where
    at : (b : Bool) → among x xs ≡ b → b ≡ false
    at true e = let less : name_cmp x x ≡ Less = above x x xs h e in let tied : name_cmp x x ≡ Equal = tied_itself nat_list_cmp_total x in absurd (cc)
    at false e = refl

cons-rises : (x : Name) (ys : List Name) → Rises ys → ((z : Name) → among z ys ≡ true → name_cmp x z ≡ Less) → Rises (x ∷ ys)
cons-rises x [] h f = refl
cons-rises x (y ∷ ys) h f = ap (λ b. b && rises (λ x y. is_lt (name_cmp x y)) (y ∷ ys)) (ap is_lt (f y (ap (λ b. b || among y ys) (name-refl y)))) ∙ h

-- two rising lists with the same members are one
pub same-rising : (xs ys : List Name) → Rises xs → Rises ys → ((a : Name) → among a xs ≡ among a ys) → xs ≡ ys
same-rising [] [] h k m = refl
same-rising [] (y ∷ ys) h k m = absurd (true≢false (sym (m y ∙ ap (λ b. b || among y ys) (name-refl y))))
same-rising (x ∷ xs) [] h k m = absurd (true≢false (sym (ap (λ b. b || among x xs) (name-refl x)) ∙ m x))
same-rising (x ∷ xs) (y ∷ ys) h k m =
    ap (λ n. n ∷ xs) heads ∙ ap (λ ns. y ∷ ns) (same-rising xs ys (rest-rises x xs h) (rest-rises y ys k) tails)
  where
    left : same_name x y ≡ false → name_cmp y x ≡ Less
    left e = above y x ys k (ap (λ b. b || among x ys) (sym e) ∙ sym (m x) ∙ ap (λ b. b || among x xs) (name-refl x))

    right : same_name x y ≡ false → name_cmp x y ≡ Less
    right e = above x y xs h (ap (λ b. b || among y xs) (sym e ∙ name-sym x y) ∙ m y ∙ ap (λ b. b || among y ys) (name-refl y))

    heads_by : (b : Bool) → same_name x y ≡ b → x ≡ y
    heads_by true e = name-is x y e
    heads_by false e = let turned : name_cmp y x ≡ Greater = nat_list_cmp_total.antisymm y x ∙ ap ordering_reverse (right e) in let less : name_cmp y x ≡ Less = left e in absurd (cc)

    heads : x ≡ y
    heads = heads_by (same_name x y) refl

    tails_by : (a : Name) (b : Bool) → same_name a x ≡ b → among a xs ≡ among a ys
    tails_by a true e = ap (λ n. among n xs) (name-is a x e) ∙ absent x xs h ∙ sym (ap (λ n. among n ys) (name-is a x e ∙ heads) ∙ absent y ys k)
    tails_by a false e = ap (λ b. b || among a xs) (sym e) ∙ m a ∙ ap (λ b. b || among a ys) (ap (same_name a) (sym heads) ∙ e)

    tails : (a : Name) → among a xs ≡ among a ys
    tails a = tails_by a (same_name a x) refl

-- ---- what passes a test

or-same : (b c : Bool) → (b || c) ≡ (b || (b || c))
or-same true c = refl
or-same false c = refl

among-filter : (t : Name → Bool) (a : Name) (xs : List Name) → among a (filter t xs) ≡ (t a && among a xs)
among-filter t a [] = at (t a)
  where
    at : (b : Bool) → false ≡ (b && false)
    at true = refl
    at false = refl
among-filter t a (x ∷ xs) = at (t x) refl (same_name a x) refl (among-filter t a xs)
  where
    at : (p : Bool) → t x ≡ p → (q : Bool) → same_name a x ≡ q → among a (filter t xs) ≡ (t a && among a xs) → among a (if p then x ∷ filter t xs else filter t xs) ≡ (t a && (q || among a xs))
    at true e true k ih = ap (λ b. b || among a (filter t xs)) k ∙ sym (ap (λ b. b && true) (ap t (name-is a x k) ∙ e))
    at true e false k ih = ap (λ b. b || among a (filter t xs)) k ∙ ih
    at false e true k ih = ih ∙ ap (λ b. b && among a xs) (ap t (name-is a x k) ∙ e) ∙ sym (ap (λ b. b && true) (ap t (name-is a x k) ∙ e))
    at false e false k ih = ih

rises-filter : (t : Name → Bool) (xs : List Name) → Rises xs → Rises (filter t xs)
rises-filter t [] h = refl
rises-filter t (x ∷ xs) h = at (t x) (rises-filter t xs (rest-rises x xs h))
  where
    at : (b : Bool) → Rises (filter t xs) → Rises (if b then x ∷ filter t xs else filter t xs)
    at true r = cons-rises x (filter t xs) r (λ z m. above x z xs h (and-right (t z) (among z xs) (sym (among-filter t z xs) ∙ m)))
    at false r = r

-- ---- aggregates

among-insert : (z x : Name) (ys : List Name) → among z (insert_rising name_cmp x ys) ≡ (same_name z x || among z ys)
among-insert z x [] = refl
among-insert z x (y ∷ ys) = at (name_cmp x y) refl (among-insert z x ys)
  where
    at : (o : Ordering) → name_cmp x y ≡ o → among z (insert_rising name_cmp x ys) ≡ (same_name z x || among z ys)
        → among z (match_ordering o (x ∷ y ∷ ys) (y ∷ ys) (y ∷ insert_rising name_cmp x ys)) ≡ (same_name z x || (same_name z y || among z ys))
    at Less e ih = refl
    at Equal e ih = let is : x ≡ y = name-is x y (sym (is_eq-slice_cmp x y) ∙ ap is_eq e) in or-same (same_name z y) (among z ys) ∙ ap (λ n. same_name z n || (same_name z y || among z ys)) (sym is)
    at Greater e ih = ap (λ b. same_name z y || b) ih ∙ or-front (same_name z y) (same_name z x) (among z ys)

rises-insert : (x : Name) (ys : List Name) → Rises ys → Rises (insert_rising name_cmp x ys)
rises-insert x [] h = refl
rises-insert x (y ∷ ys) h = at (name_cmp x y) refl (rises-insert x ys (rest-rises y ys h))
  where
    at : (o : Ordering) → name_cmp x y ≡ o → Rises (insert_rising name_cmp x ys) → Rises (match_ordering o (x ∷ y ∷ ys) (y ∷ ys) (y ∷ insert_rising name_cmp x ys))
    at Less e r = ap (λ o. is_lt o && rises (λ x y. is_lt (name_cmp x y)) (y ∷ ys)) e ∙ h
    at Equal e r = h
    at Greater e r = cons-rises y (insert_rising name_cmp x ys) r (λ z m. member z (same_name z x) refl (sym (among-insert z x ys) ∙ m))
      where
        member : (z : Name) (b : Bool) → same_name z x ≡ b → (same_name z x || among z ys) ≡ true → name_cmp y z ≡ Less
        member z true k m = subst (λ n. name_cmp y n ≡ Less) (sym (name-is z x k)) (nat_list_cmp_total.antisymm y x ∙ ap ordering_reverse e)
        member z false k m = above y z ys h (sym (ap (λ b. b || among z ys) k) ∙ m)

pub rises-aggregates : (es : List Stored) → Rises (aggregates_of es)
rises-aggregates [] = refl
rises-aggregates (e ∷ es) = rises-insert e.record_of.aggregate (aggregates_of es) (rises-aggregates es)

-- what has an event is among them
pub among-aggregates : (a : Name) (es : List Stored) → 0 < length (stream_in a es) → among a (aggregates_of es) ≡ true
among-aggregates a [] h = absurd (omega (arith, h))
among-aggregates a (e ∷ es) h = among-insert a e.record_of.aggregate (aggregates_of es) ∙ at (is_of a e) refl h (among-aggregates a es)
  where
    at : (b : Bool) → is_of a e ≡ b → 0 < length (if b then e ∷ stream_in a es else stream_in a es) → (0 < length (stream_in a es) → among a (aggregates_of es) ≡ true) → (same_name a e.record_of.aggregate || among a (aggregates_of es)) ≡ true
    at true k h ih = ap (λ b. b || among a (aggregates_of es)) (name-sym a e.record_of.aggregate ∙ k)
    at false k h ih = ap (λ b. b || among a (aggregates_of es)) (name-sym a e.record_of.aggregate ∙ k) ∙ ih h

-- ---- rows under names

some-among : (a : Name) (es : List Entry) → is_some (look_up a es) ≡ among a (map (λ e. e.name) es)
some-among a [] = refl
some-among a (e ∷ es) = at (same_name a e.name) (some-among a es)
  where
    at : (b : Bool) → is_some (look_up a es) ≡ among a (map (λ e. e.name) es) → is_some (option_map (λ (x : Entry). x.value) (if b then Some e else find (λ (x : Entry). same_name a x.name) es)) ≡ (b || among a (map (λ e. e.name) es))
    at true ih = refl
    at false ih = ih

listed-some : (table : List Entry) (ns : List Name) → listed table ns ≡ listed table (filter (λ a. is_some (look_up a table)) ns)
listed-some table [] = refl
listed-some table (a ∷ ns) = at (look_up a table) refl (listed-some table ns)
  where
    at : (o : Option Positioned) → look_up a table ≡ o → listed table ns ≡ listed table (filter (λ a. is_some (look_up a table)) ns)
        → shown_of a o ++ listed table ns ≡ listed table (if is_some o then a ∷ filter (λ a. is_some (look_up a table)) ns else filter (λ a. is_some (look_up a table)) ns)
    at None e ih = ih
    at (Some v) e ih = ap (λ xs. shown_of a (Some v) ++ xs) ih ∙ ap (λ o. shown_of a o ++ listed table (filter (λ a. is_some (look_up a table)) ns)) (sym e)

-- the row that a name's line is made of, where it has items
abbrev pub row_shown : Shown → Option Positioned
row_shown s = if has_items s then Some (record { position = s.position; row = s.row }) else None

shown-listed : (shown : Name → Shown) (table : List Entry) (ns : List Name) → ((a : Name) → look_up a table ≡ row_shown (shown a)) → ((a : Name) → (shown a).aggregate ≡ a) → filter has_items (map shown ns) ≡ listed table ns
shown-listed shown table [] f n = refl
shown-listed shown table (a ∷ ns) f n = at (has_items (shown a)) (shown-listed shown table ns f n) ∙ ap (λ o. shown_of a o ++ listed table ns) (sym (f a))
  where
    at : (b : Bool) → filter has_items (map shown ns) ≡ listed table ns
        → (if b then shown a ∷ filter has_items (map shown ns) else filter has_items (map shown ns)) ≡ shown_of a (if b then Some (record { position = (shown a).position; row = (shown a).row }) else None) ++ listed table ns
    at true ih = ap (λ xs. shown a ∷ xs) ih ∙ ap (λ m. record { aggregate = m; position = (shown a).position; row = (shown a).row } ∷ listed table ns) (n a)
    at false ih = ih

some-shown : (s : Shown) → is_some (row_shown s) ≡ has_items s
some-shown s = at (has_items s)
  where
    at : (b : Bool) → is_some {T = Positioned} (if b then Some (record { position = s.position; row = s.row }) else None) ≡ b
    at true = refl
    at false = refl

and-same : (b c : Bool) → (b ≡ true → c ≡ true) → b ≡ (b && c)
and-same true c h = sym (h refl)
and-same false c h = refl

-- the rows of a table under its names in order are the rows of all aggregates that have one
pub in-order : (shown : Name → Shown) (table : List Entry) (names : List Name) (es : List Stored) → AreNames table names → ((a : Name) → look_up a table ≡ row_shown (shown a)) → ((a : Name) → (shown a).aggregate ≡ a)
    → ((a : Name) → has_items (shown a) ≡ true → 0 < length (stream_in a es)) → listed table names ≡ filter has_items (map shown (aggregates_of es))
in-order shown table names es h f n has =
    ap (listed table) same ∙ sym (listed-some table (aggregates_of es)) ∙ sym (shown-listed shown table (aggregates_of es) f n)
  where
    there : Name → Bool
    there a = is_some (look_up a table)

    members : (a : Name) → among a names ≡ among a (filter (λ a. is_some (look_up a table)) (aggregates_of es))
    members a =
        among-permuted a (map (λ e. e.name) table) names h.permutation ∙ sym (some-among a table)
        ∙ and-same (is_some (look_up a table)) (among a (aggregates_of es)) (λ k. among-aggregates a es (has a (sym (some-shown (shown a)) ∙ sym (ap is_some (f a)) ∙ k)))
        ∙ sym (among-filter (λ a. is_some (look_up a table)) a (aggregates_of es))

    same : names ≡ filter (λ a. is_some (look_up a table)) (aggregates_of es)
    same =
        same-rising names (filter (λ a. is_some (look_up a table)) (aggregates_of es))
        (sorted-rises names h.sorted (λ a. subst (λ k. k ≤ 1) (sym (times-permuted a (map (λ e. e.name) table) names h.permutation)) (times-distinct a (map (λ e. e.name) table) h.distinct)))
        (rises-filter (λ a. is_some (look_up a table)) (aggregates_of es) (rises-aggregates es)) members
