-- Lists of rows: what a put, a removal and a replacement do to their ids, their segments and how many of them match a hash.
use Rattle.std.proofs.Common.{◌≡◌, ℕ, zero, suc, ◌+◌, ◌<◌, ◌≤◌, ◌==◌, ◌&&◌, Bool, true, false, not, List, [], ◌∷◌, map, length, filter, Some, slice_get, slice_set, if◌then◌else◌, refl, sym, ap, ◌∙◌, subst, arith, nat_lt}
use Rattle.std.specs.Prelude.{insert, remove}
use Rattle.std.specs.Cmp.{nat_cmp_is}
use Rattle.std.specs.Ordering.{nat_cmp, ordering_then, match_ordering}
use Rattle.std.specs.declared.cmp.Ordering.TheVariants.{Less, Greater}
use Rattle.std.proofs.lemmas.Bool.Decides.{nat_tests}
use Rattle.ax_values.specs.Words.{rises, place_where}
use Rattle.ax_laws.proofs.Tests.{both, and-true}
use Rattle.ax_segments.specs.Segments.{Segment, IsSegment, matches, same_segment}
use Rattle.ax_claims.specs.Rows.{TokenRow, AreSegments, row_cmp, row_below, put_row, remove_row}
use Rattle.ax_claims.proofs.RowPlaces.{rises-above}

abbrev pub one : Bool → ℕ
one true = 1
one false = 0

-- how many rows match a hash
abbrev pub matching : ℕ → List TokenRow → ℕ
matching h rows = length (filter (λ r. matches r.segment h) rows)

-- no row has the id
abbrev pub LacksId : ℕ → List TokenRow → Type 0
LacksId n [] = Unit {0}
LacksId n (x ∷ xs) = (x.segment.id ≡ n → ⊥) × LacksId n xs

pub lacks : (n : ℕ) (xs : List TokenRow) → ((k : ℕ) (x : TokenRow) → slice_get xs k ≡ Some x → x.segment.id ≡ n → ⊥) → LacksId n xs
lacks n [] h = tt
lacks n (x ∷ xs) h = (h 0 x refl, lacks n xs (λ k y e. h (suc k) y e))

pub rises-rest : (x : TokenRow) (xs : List TokenRow) → rises row_below (x ∷ xs) ≡ true → rises row_below xs ≡ true
rises-rest x [] h = refl
rises-rest x (z ∷ zs) h = (both (row_below x z) (rises row_below (z ∷ zs)) h).1

below : (x y : TokenRow) → row_below x y ≡ true → x.segment.id < y.segment.id
below x y h = grind (arith, nat_tests, h)

is-below : (x y : TokenRow) → x.segment.id < y.segment.id → row_below x y ≡ true
is-below x y h = grind (arith, nat_tests)

-- ---- comparing

cmp-less : (x y : TokenRow) → x.segment.id < y.segment.id → row_cmp x y ≡ Less
cmp-less x y h = ap (λ o. ordering_then o (nat_cmp x.segment.mask y.segment.mask)) (sym (nat_cmp_is x.segment.id y.segment.id Less h))

cmp-greater : (x y : TokenRow) → y.segment.id < x.segment.id → row_cmp x y ≡ Greater
cmp-greater x y h = ap (λ o. ordering_then o (nat_cmp x.segment.mask y.segment.mask)) (sym (nat_cmp_is x.segment.id y.segment.id Greater h))

put-first : (y x : TokenRow) (xs : List TokenRow) → y.segment.id < x.segment.id → put_row y (x ∷ xs) ≡ y ∷ x ∷ xs
put-first y x xs h = ap (λ o. match_ordering o (y ∷ x ∷ xs) (y ∷ xs) (x ∷ put_row y xs)) (cmp-less y x h)

put-later : (y x : TokenRow) (xs : List TokenRow) → x.segment.id < y.segment.id → put_row y (x ∷ xs) ≡ x ∷ put_row y xs
put-later y x xs h = ap (λ o. match_ordering o (y ∷ x ∷ xs) (y ∷ xs) (x ∷ put_row y xs)) (cmp-greater y x h)

-- either the new row stands first, or after the first one
put-either : {P : Type 0} (y x : TokenRow) (xs : List TokenRow) → (x.segment.id ≡ y.segment.id → ⊥) → (y.segment.id < x.segment.id → P) → (x.segment.id < y.segment.id → P) → P
put-either {P = P} y x xs differ first later = at (nat_lt y.segment.id x.segment.id) refl
  where
    at : (b : Bool) → nat_lt y.segment.id x.segment.id ≡ b → P
    at true e = first (grind (arith, nat_tests, e))
    at false e = let le : x.segment.id ≤ y.segment.id = grind (arith, nat_tests, e) in later (apart (x.segment.id == y.segment.id) refl le)
      where
        apart : (b : Bool) → (x.segment.id == y.segment.id) ≡ b → x.segment.id ≤ y.segment.id → x.segment.id < y.segment.id
        apart true f le = absurd (differ (grind (arith, nat_tests, f)))
        apart false f le = grind (arith, nat_tests, f, le)

-- ---- a put of a new id

module _ (y : TokenRow) where
  abbrev is_above : TokenRow → Bool
  is_above x = nat_lt y.segment.id x.segment.id

  insert-by : (b : Bool) (x : TokenRow) (xs : List TokenRow) → is_above x ≡ b → (x.segment.id ≡ y.segment.id → ⊥) → insert xs (place_where is_above xs) y ≡ put_row y xs
      → insert (x ∷ xs) (if b then 0 else suc (place_where is_above xs)) y ≡ put_row y (x ∷ xs)
  insert-by true x xs e differ rest = sym (put-first y x xs (grind (arith, nat_tests, e)))
  insert-by false x xs e differ rest = put-either y x xs differ (λ lt. absurd (grind (arith, nat_tests, e, lt))) (λ lt. ap (λ ys. x ∷ ys) rest ∙ sym (put-later y x xs lt))

  pub insert-put : (xs : List TokenRow) → LacksId y.segment.id xs → insert xs (place_where is_above xs) y ≡ put_row y xs
  insert-put [] h = refl
  insert-put (x ∷ xs) h = insert-by (is_above x) x xs refl h.0 (insert-put xs h.1)

  put-behind : (w : TokenRow) (xs : List TokenRow) → w.segment.id < y.segment.id → rises row_below (w ∷ xs) ≡ true → LacksId y.segment.id xs → rises row_below (w ∷ put_row y xs) ≡ true
  put-behind w [] lt h differ = and-true (row_below w y) true (is-below w y lt) refl
  put-behind w (x ∷ xs) lt h differ =
      put-either y x xs differ.0
      (λ first. subst (λ ys. rises row_below (w ∷ ys) ≡ true) (sym (put-first y x xs first))
      (and-true (row_below w y) (rises row_below (y ∷ x ∷ xs)) (is-below w y lt) (and-true (row_below y x) (rises row_below (x ∷ xs)) (is-below y x first) (both (row_below w x) (rises row_below (x ∷ xs)) h).1)))
      (λ later. subst (λ ys. rises row_below (w ∷ ys) ≡ true) (sym (put-later y x xs later))
      (and-true (row_below w x) (rises row_below (x ∷ put_row y xs)) (both (row_below w x) (rises row_below (x ∷ xs)) h).0
      (put-behind x xs later (both (row_below w x) (rises row_below (x ∷ xs)) h).1 differ.1)))

  pub rises-put : (xs : List TokenRow) → rises row_below xs ≡ true → LacksId y.segment.id xs → rises row_below (put_row y xs) ≡ true
  rises-put [] h differ = refl
  rises-put (x ∷ xs) h differ =
      put-either y x xs differ.0
      (λ first. subst (λ ys. rises row_below ys ≡ true) (sym (put-first y x xs first)) (and-true (row_below y x) (rises row_below (x ∷ xs)) (is-below y x first) h))
      (λ later. subst (λ ys. rises row_below ys ≡ true) (sym (put-later y x xs later)) (put-behind x xs later h differ.1))

  pub segments-put : (xs : List TokenRow) → IsSegment y.segment → AreSegments xs → LacksId y.segment.id xs → AreSegments (put_row y xs)
  segments-put [] is h differ = (is, tt)
  segments-put (x ∷ xs) is h differ =
      put-either y x xs differ.0
      (λ first. subst AreSegments (sym (put-first y x xs first)) (is, h))
      (λ later. subst AreSegments (sym (put-later y x xs later)) (h.0, segments-put xs is h.1 differ.1))

  matching-first : (h : ℕ) (xs : List TokenRow) → matching h (y ∷ xs) ≡ one (matches y.segment h) + matching h xs
  matching-first h xs = elim (matches y.segment h) as (λ b. length (if b then y ∷ filter (λ r. matches r.segment h) xs else filter (λ r. matches r.segment h) xs) ≡ one b + matching h xs) [ true ↦ omega arith | false ↦ omega arith ]

  pub matching-put : (h : ℕ) (xs : List TokenRow) → LacksId y.segment.id xs → matching h (put_row y xs) ≡ one (matches y.segment h) + matching h xs
  matching-put h [] differ = matching-first h []
  matching-put h (x ∷ xs) differ =
      put-either y x xs differ.0
      (λ first. ap (matching h) (put-first y x xs first) ∙ matching-first h (x ∷ xs))
      (λ later. ap (matching h) (put-later y x xs later) ∙ behind (matches x.segment h) (matching-put h xs differ.1))
    where
      behind : (b : Bool) → matching h (put_row y xs) ≡ one (matches y.segment h) + matching h xs
          → length (if b then x ∷ filter (λ r. matches r.segment h) (put_row y xs) else filter (λ r. matches r.segment h) (put_row y xs)) ≡ one (matches y.segment h) + length (if b then x ∷ filter (λ r. matches r.segment h) xs else filter (λ r. matches r.segment h) xs)
      behind true e = omega (arith, e)
      behind false e = e

-- ---- one in the place of another

pub matching-set : (h : ℕ) (y : TokenRow) (xs : List TokenRow) (p : ℕ) (r : TokenRow) → slice_get xs p ≡ Some r
    → matching h (slice_set xs p y) + one (matches r.segment h) ≡ matching h xs + one (matches y.segment h)
matching-set h y [] p r e = absurd (cc)
matching-set h y (x ∷ xs) zero r e = let is : x ≡ r = cc in subst (λ r. matching h (y ∷ xs) + one (matches r.segment h) ≡ matching h (x ∷ xs) + one (matches y.segment h)) is (at (matches y.segment h) (matches x.segment h))
  where
    at : (b c : Bool) → length (if b then y ∷ filter (λ r. matches r.segment h) xs else filter (λ r. matches r.segment h) xs) + one c ≡ length (if c then x ∷ filter (λ r. matches r.segment h) xs else filter (λ r. matches r.segment h) xs) + one b
    at true true = refl
    at true false = omega arith
    at false true = omega arith
    at false false = refl
matching-set h y (x ∷ xs) (suc p) r e = at (matches x.segment h) (matching-set h y xs p r e)
  where
    at : (b : Bool) → matching h (slice_set xs p y) + one (matches r.segment h) ≡ matching h xs + one (matches y.segment h)
        → length (if b then x ∷ filter (λ r. matches r.segment h) (slice_set xs p y) else filter (λ r. matches r.segment h) (slice_set xs p y)) + one (matches r.segment h)
        ≡ length (if b then x ∷ filter (λ r. matches r.segment h) xs else filter (λ r. matches r.segment h) xs) + one (matches y.segment h)
    at true k = omega (arith, k)
    at false k = k

pub matching-removed : (h : ℕ) (xs : List TokenRow) (p : ℕ) (r : TokenRow) → slice_get xs p ≡ Some r → matching h (remove xs p) + one (matches r.segment h) ≡ matching h xs
matching-removed h [] p r e = absurd (cc)
matching-removed h (x ∷ xs) zero r e = let is : x ≡ r = cc in subst (λ r. matching h xs + one (matches r.segment h) ≡ matching h (x ∷ xs)) is (at (matches x.segment h))
  where
    at : (b : Bool) → matching h xs + one b ≡ length (if b then x ∷ filter (λ r. matches r.segment h) xs else filter (λ r. matches r.segment h) xs)
    at true = omega arith
    at false = omega arith
matching-removed h (x ∷ xs) (suc p) r e = at (matches x.segment h) (matching-removed h xs p r e)
  where
    at : (b : Bool) → matching h (remove xs p) + one (matches r.segment h) ≡ matching h xs
        → length (if b then x ∷ filter (λ r. matches r.segment h) (remove xs p) else filter (λ r. matches r.segment h) (remove xs p)) + one (matches r.segment h)
        ≡ length (if b then x ∷ filter (λ r. matches r.segment h) xs else filter (λ r. matches r.segment h) xs)
    at true k = omega (arith, k)
    at false k = k

pub segments-set : (y : TokenRow) (xs : List TokenRow) (p : ℕ) → IsSegment y.segment → AreSegments xs → AreSegments (slice_set xs p y)
segments-set y [] p is h = h
segments-set y (x ∷ xs) zero is h = (is, h.1)
segments-set y (x ∷ xs) (suc p) is h = (h.0, segments-set y xs p is h.1)

pub segments-removed : (xs : List TokenRow) (p : ℕ) → AreSegments xs → AreSegments (remove xs p)
segments-removed [] zero h = tt
segments-removed [] (suc p) h = tt
segments-removed (x ∷ xs) zero h = h.1
segments-removed (x ∷ xs) (suc p) h = (h.0, segments-removed xs p h.1)

pub segment-at : (xs : List TokenRow) (p : ℕ) (r : TokenRow) → AreSegments xs → slice_get xs p ≡ Some r → IsSegment r.segment
segment-at [] p r h e = absurd (cc)
segment-at (x ∷ xs) zero r h e = let is : x ≡ r = cc in subst (λ r. IsSegment r.segment) is h.0
segment-at (x ∷ xs) (suc p) r h e = segment-at xs p r h.1 e

-- ---- ids

abbrev pub ids : List TokenRow → List ℕ
ids xs = map (λ r. r.segment.id) xs

rises-ids : (xs : List TokenRow) → rises row_below xs ≡ rises (λ m n. nat_lt m n) (ids xs)
rises-ids [] = refl
rises-ids (x ∷ []) = refl
rises-ids (x ∷ z ∷ xs) = ap (λ b. row_below x z && b) (rises-ids (z ∷ xs))

ids-set : (y : TokenRow) (xs : List TokenRow) (p : ℕ) (r : TokenRow) → slice_get xs p ≡ Some r → y.segment.id ≡ r.segment.id → ids (slice_set xs p y) ≡ ids xs
ids-set y [] p r e s = absurd (cc)
ids-set y (x ∷ xs) zero r e s = let is : x ≡ r = cc in ap (λ n. n ∷ ids xs) (s ∙ ap (λ r. r.segment.id) (sym is))
ids-set y (x ∷ xs) (suc p) r e s = ap (λ ns. x.segment.id ∷ ns) (ids-set y xs p r e s)

-- one of the same id in the place of another keeps the order
pub rises-set : (y : TokenRow) (xs : List TokenRow) (p : ℕ) (r : TokenRow) → rises row_below xs ≡ true → slice_get xs p ≡ Some r → y.segment.id ≡ r.segment.id → rises row_below (slice_set xs p y) ≡ true
rises-set y xs p r h e s = rises-ids (slice_set xs p y) ∙ ap (rises (λ m n. nat_lt m n)) (ids-set y xs p r e s) ∙ sym (rises-ids xs) ∙ h

pub lacks-set : (n : ℕ) (y : TokenRow) (xs : List TokenRow) (p : ℕ) (r : TokenRow) → LacksId n xs → slice_get xs p ≡ Some r → y.segment.id ≡ r.segment.id → LacksId n (slice_set xs p y)
lacks-set n y [] p r h e s = absurd (cc)
lacks-set n y (x ∷ xs) zero r h e s = let is : x ≡ r = cc in (λ k. h.0 (ap (λ r. r.segment.id) is ∙ sym s ∙ k), h.1)
lacks-set n y (x ∷ xs) (suc p) r h e s = (h.0, lacks-set n y xs p r h.1 e s)

removed-behind : (w : TokenRow) (xs : List TokenRow) (p : ℕ) → rises row_below (w ∷ xs) ≡ true → rises row_below (w ∷ remove xs p) ≡ true
removed-behind w [] zero h = refl
removed-behind w [] (suc p) h = refl
removed-behind w (x ∷ []) zero h = refl
removed-behind w (x ∷ z ∷ xs) zero h =
    let k = both (row_below w x) (rises row_below (x ∷ z ∷ xs)) h in
    let m = both (row_below x z) (rises row_below (z ∷ xs)) k.1 in
    let a : w.segment.id < x.segment.id = below w x k.0 in
    let b : x.segment.id < z.segment.id = below x z m.0 in
    and-true (row_below w z) (rises row_below (z ∷ xs)) (is-below w z (omega (arith, a, b))) m.1
removed-behind w (x ∷ xs) (suc p) h =
    let k = both (row_below w x) (rises row_below (x ∷ xs)) h in
    and-true (row_below w x) (rises row_below (x ∷ remove xs p)) k.0 (removed-behind x xs p k.1)

pub rises-removed : (xs : List TokenRow) (p : ℕ) → rises row_below xs ≡ true → rises row_below (remove xs p) ≡ true
rises-removed [] zero h = refl
rises-removed [] (suc p) h = refl
rises-removed (x ∷ xs) zero h = rises-rest x xs h
rises-removed (x ∷ xs) (suc p) h = removed-behind x xs p h

-- ---- a row taken out by its segment

others : (s : Segment) (x : TokenRow) (xs : List TokenRow) → rises row_below (x ∷ xs) ≡ true → x.segment ≡ s → remove_row s xs ≡ xs
others s x [] h is = refl
others s x (y ∷ ys) h is =
    let k = both (row_below x y) (rises row_below (y ∷ ys)) h in
    let lt : x.segment.id < y.segment.id = below x y k.0 in
    let differ : same_segment y.segment s ≡ false = subst (λ s. same_segment y.segment s ≡ false) is (apart y.segment x.segment lt) in
    ap (λ b. if not b then y ∷ remove_row s ys else remove_row s ys) differ ∙ ap (λ zs. y ∷ zs) (others s x ys (skip x y ys h) is)
  where
    apart : (t u : Segment) → u.id < t.id → same_segment t u ≡ false
    apart t u lt = let e : (t.id == u.id) ≡ false = grind (arith, nat_tests, lt) in ap (λ b. b && (t.mask == u.mask)) e

    skip : (x y : TokenRow) (ys : List TokenRow) → rises row_below (x ∷ y ∷ ys) ≡ true → rises row_below (x ∷ ys) ≡ true
    skip x y ys h = removed-behind x (y ∷ ys) 0 h

itself : (s : Segment) → same_segment s s ≡ true
itself s = let a : (s.id == s.id) ≡ true = grind (arith, nat_tests) in let b : (s.mask == s.mask) ≡ true = grind (arith, nat_tests) in ap (λ c. c && (s.mask == s.mask)) a ∙ b

pub remove-here : (xs : List TokenRow) (p : ℕ) (r : TokenRow) → rises row_below xs ≡ true → slice_get xs p ≡ Some r → remove_row r.segment xs ≡ remove xs p
remove-here [] p r h e = absurd (cc)
remove-here (x ∷ xs) zero r h e =
    let is : x ≡ r = cc in
    let same : same_segment x.segment r.segment ≡ true = subst (λ r. same_segment x.segment r.segment ≡ true) is (itself x.segment) in
    ap (λ b. if not b then x ∷ remove_row r.segment xs else remove_row r.segment xs) same ∙ others r.segment x xs h (ap (λ r. r.segment) is)
remove-here (x ∷ xs) (suc p) r h e =
    let above : x.segment.id + suc p ≤ r.segment.id = rises-above x xs p r h e in
    let differ : (x.segment.id == r.segment.id) ≡ false = grind (arith, nat_tests, above) in
    ap (λ b. if not b then x ∷ remove_row r.segment xs else remove_row r.segment xs) (ap (λ b. b && (x.segment.mask == r.segment.mask)) differ)
    ∙ ap (λ ys. x ∷ ys) (remove-here xs p r (rises-rest x xs h) e)

-- a row of the same id goes where the other stood
pub put-removed : (y : TokenRow) (xs : List TokenRow) (p : ℕ) (r : TokenRow) → rises row_below xs ≡ true → slice_get xs p ≡ Some r → y.segment.id ≡ r.segment.id → put_row y (remove xs p) ≡ slice_set xs p y
put-removed y [] p r h e s = absurd (cc)
put-removed y (x ∷ []) zero r h e s = refl
put-removed y (x ∷ z ∷ xs) zero r h e s =
    let is : x ≡ r = cc in
    let lt : x.segment.id < z.segment.id = below x z (both (row_below x z) (rises row_below (z ∷ xs)) h).0 in
    let same : y.segment.id ≡ x.segment.id = s ∙ ap (λ r. r.segment.id) (sym is) in
    put-first y z xs (omega (arith, lt, same))
put-removed y (x ∷ xs) (suc p) r h e s =
    let above : x.segment.id + suc p ≤ r.segment.id = rises-above x xs p r h e in
    put-later y x (remove xs p) (omega (arith, above, s)) ∙ ap (λ ys. x ∷ ys) (put-removed y xs p r (rises-rest x xs h) e s)

-- a put of a greater id leaves the place of a row
pub set-put : (y z : TokenRow) (xs : List TokenRow) (p : ℕ) (r : TokenRow) → rises row_below xs ≡ true → slice_get xs p ≡ Some r → z.segment.id ≡ r.segment.id → r.segment.id < y.segment.id
    → slice_set (put_row y xs) p z ≡ put_row y (slice_set xs p z)
set-put y z [] p r h e s lt = absurd (cc)
set-put y z (x ∷ xs) zero r h e s lt =
    let is : x ≡ r = cc in
    let a : x.segment.id < y.segment.id = subst (λ r. r.segment.id < y.segment.id) (sym is) lt in
    ap (λ ys. slice_set ys 0 z) (put-later y x xs a) ∙ sym (put-later y z xs (omega (arith, s, lt)))
set-put y z (x ∷ xs) (suc p) r h e s lt =
    let above : x.segment.id + suc p ≤ r.segment.id = rises-above x xs p r h e in
    let a : x.segment.id < y.segment.id = omega (arith, above, lt) in
    ap (λ ys. slice_set ys (suc p) z) (put-later y x xs a) ∙ ap (λ ys. x ∷ ys) (set-put y z xs p r (rises-rest x xs h) e s lt) ∙ sym (put-later y x (slice_set xs p z) a)
