-- The place of a segment's row: a put there keeps the other rows and their order.
use Rattle.std.proofs.Common.{◌≡◌, ℕ, zero, suc, ◌+◌, ◌<◌, ◌≤◌, ◌==◌, ◌&&◌, Bool, true, false, List, [], ◌∷◌, map, length, filter, Option, Some, None, slice_get, slice_set, get_or, if◌then◌else◌, refl, sym, ap, ◌∙◌, subst, arith, nat_lt}
use Rattle.std.specs.Cmp.{nat_cmp_is}
use Rattle.std.specs.Ordering.{nat_cmp, ordering_then, match_ordering}
use Rattle.std.specs.declared.cmp.Ordering.TheVariants.{Equal, Greater}
use Rattle.std.proofs.lemmas.Cmp.{tied_itself}
use Rattle.std.proofs.lemmas.Bool.Decides.{nat_tests}
use Rattle.ax_values.specs.Words.{rises, place_where}
use Rattle.ax_laws.proofs.Tests.{both}
use Rattle.ax_segments.specs.Segments.{Segment, IsSegment, matches, same_segment, segment_cmp}
use Rattle.ax_segments.specs.Orders.{segment_cmp_total}
use Rattle.ax_claims.specs.Rows.{TokenRow, AreRows, AreSegments, row_cmp, row_below, row_at, put_row, place_at, place_if}

pub rises-above : (x : TokenRow) (xs : List TokenRow) (p : ℕ) (r : TokenRow) → rises row_below (x ∷ xs) ≡ true → slice_get xs p ≡ Some r → x.segment.id + suc p ≤ r.segment.id
rises-above x [] p r h e = absurd (cc)
rises-above x (y ∷ ys) zero r h e =
    let below : x.segment.id < y.segment.id = grind (arith, nat_tests, (both (row_below x y) (rises row_below (y ∷ ys)) h).0) in
    let is : y ≡ r = cc in subst (λ r. x.segment.id + 1 ≤ r.segment.id) is (omega arith)
rises-above x (y ∷ ys) (suc p) r h e =
    let below : x.segment.id < y.segment.id = grind (arith, nat_tests, (both (row_below x y) (rises row_below (y ∷ ys)) h).0) in
    let ih : y.segment.id + suc p ≤ r.segment.id = rises-above y ys p r (both (row_below x y) (rises row_below (y ∷ ys)) h).1 e in omega arith

-- a row's place is at most its id
pub place-low : (xs : List TokenRow) (p : ℕ) (r : TokenRow) → rises row_below xs ≡ true → slice_get xs p ≡ Some r → p ≤ r.segment.id
place-low [] p r h e = absurd (cc)
place-low (x ∷ xs) zero r h e = omega arith
place-low (x ∷ xs) (suc p) r h e = let a : x.segment.id + suc p ≤ r.segment.id = rises-above x xs p r h e in omega arith

pub get-read : {A : Type 0} (xs : List A) (p : ℕ) (x : A) → p < length xs → x ≡ get_or xs p x → slice_get xs p ≡ Some x
get-read [] p x lt e = absurd (omega arith)
get-read (y ∷ ys) zero x lt e = ap Some (sym e)
get-read (y ∷ ys) (suc p) x lt e = get-read ys p x (omega arith) e

pub same-segment : (s t : Segment) → same_segment s t ≡ true → s ≡ t
same-segment s t h =
    let id : s.id ≡ t.id = grind (arith, nat_tests, (both (s.id == t.id) (s.mask == t.mask) h).0) in
    let mask : s.mask ≡ t.mask = grind (arith, nat_tests, (both (s.id == t.id) (s.mask == t.mask) h).1) in
    ap (λ i. record { id = i; mask = s.mask }) id ∙ ap (λ m. record { id = t.id; mask = m }) mask

pub low-at : (xs : List TokenRow) (p : ℕ) (r : TokenRow) (s : Segment) → rises row_below xs ≡ true → p < length xs → r ≡ get_or xs p r → same_segment r.segment s ≡ true → p ≤ s.id
low-at xs p r s h lt e same = subst (λ t. p ≤ t.id) (same-segment r.segment s same) (place-low xs p r h (get-read xs p r lt e))

-- ---- what is found

pub record Found (s : Segment) (rows : List TokenRow) (p : ℕ) : Type 0 where
  pub row : TokenRow
  pub here : slice_get rows p ≡ Some row
  pub at : row_at s rows ≡ Some row
  pub segment : row.segment ≡ s
  pub place : place_where (λ r. same_segment r.segment s) rows ≡ p

abbrev place_by : Bool → Segment → TokenRow → List TokenRow → Option ℕ
place_by b s r rs = place_if (if b then Some r else row_at s rs) (if b then 0 else suc (place_where (λ r. same_segment r.segment s) rs))

later : (s : Segment) (r : TokenRow) (rs : List TokenRow) (o : Option TokenRow) (p : ℕ) → row_at s rs ≡ o → place_if o (suc (place_where (λ r. same_segment r.segment s) rs)) ≡ Some p
    → ((q : ℕ) → place_at s rs ≡ Some q → Found s rs q) → (same_segment r.segment s ≡ false) → Found s (r ∷ rs) p
later s r rs None p e h more differ = absurd (cc)
later s r rs (Some x) p e h more differ =
    let q : ℕ = place_where (λ r. same_segment r.segment s) rs in
    let is : suc q ≡ p = cc in
    let f : Found s rs q = more q (ap (λ o. place_if o q) e) in
    subst (λ p. Found s (r ∷ rs) p) is (record {
      row = f.row;
      here = f.here;
      at = ap (λ b. if b then Some r else row_at s rs) differ ∙ f.at;
      segment = f.segment;
      place = ap (λ b. if b then 0 else suc q) differ;
    })

first : (s : Segment) (r : TokenRow) (rs : List TokenRow) (p : ℕ) → same_segment r.segment s ≡ true → place_by true s r rs ≡ Some p → Found s (r ∷ rs) p
first s r rs p same h =
    let is : 0 ≡ p = cc in
    subst (λ p. Found s (r ∷ rs) p) is (record {
      row = r;
      here = refl;
      at = ap (λ b. if b then Some r else row_at s rs) same;
      segment = same-segment r.segment s same;
      place = ap (λ b. if b then 0 else suc (place_where (λ r. same_segment r.segment s) rs)) same;
    })

found-by : (b : Bool) (s : Segment) (r : TokenRow) (rs : List TokenRow) (p : ℕ) → same_segment r.segment s ≡ b → place_by b s r rs ≡ Some p → ((q : ℕ) → place_at s rs ≡ Some q → Found s rs q) → Found s (r ∷ rs) p
found-by true s r rs p e h more = first s r rs p e h
found-by false s r rs p e h more = later s r rs (row_at s rs) p refl h more e

pub found : (s : Segment) (rows : List TokenRow) (p : ℕ) → place_at s rows ≡ Some p → Found s rows p
found s [] p h = absurd (cc)
found s (r ∷ rs) p h = found-by (same_segment r.segment s) s r rs p refl h (λ q e. found s rs q e)

pub unfound : (s : Segment) (rows : List TokenRow) → place_at s rows ≡ None → row_at s rows ≡ None
unfound s rows h = at (row_at s rows) refl h
  where
    at : (o : Option TokenRow) → row_at s rows ≡ o → place_if o (place_where (λ r. same_segment r.segment s) rows) ≡ None → row_at s rows ≡ None
    at None e h = e
    at (Some x) e h = absurd (cc)

pub get-within : {A : Type 0} (xs : List A) (p : ℕ) (x : A) → slice_get xs p ≡ Some x → p < length xs
get-within [] p x e = absurd (cc)
get-within (y ∷ ys) zero x e = omega arith
get-within (y ∷ ys) (suc p) x e = let ih : p < length ys = get-within ys p x e in omega arith

-- ---- a row put over one of its segment

module _ (y : TokenRow) where
  pub put-here : (xs : List TokenRow) (p : ℕ) (r : TokenRow) → rises row_below xs ≡ true → slice_get xs p ≡ Some r → y.segment ≡ r.segment → put_row y xs ≡ slice_set xs p y
  put-here [] p r h e s = absurd (cc)
  put-here (x ∷ xs) zero r h e s =
      let is : x ≡ r = cc in
      let same : row_cmp y x ≡ Equal = ap (λ t. segment_cmp t x.segment) (s ∙ ap (λ r. r.segment) (sym is)) ∙ tied_itself segment_cmp_total x.segment in
      ap (λ o. match_ordering o (y ∷ x ∷ xs) (y ∷ xs) (x ∷ put_row y xs)) same
  put-here (x ∷ xs) (suc p) r h e s =
      let above : x.segment.id + suc p ≤ r.segment.id = rises-above x xs p r h e in
      let greater : row_cmp y x ≡ Greater = ap (λ t. segment_cmp t x.segment) s ∙ ap (λ o. ordering_then o (nat_cmp r.segment.mask x.segment.mask)) (sym (nat_cmp_is r.segment.id x.segment.id Greater (omega arith))) in
      ap (λ o. match_ordering o (y ∷ x ∷ xs) (y ∷ xs) (x ∷ put_row y xs)) greater ∙ ap (λ ys. x ∷ ys) (put-here xs p r (rest x xs h) e s)
    where
      rest : (x : TokenRow) (xs : List TokenRow) → rises row_below (x ∷ xs) ≡ true → rises row_below xs ≡ true
      rest x [] h = refl
      rest x (z ∷ zs) h = (both (row_below x z) (rises row_below (z ∷ zs)) h).1

  segments-kept : (xs : List TokenRow) (p : ℕ) (r : TokenRow) → slice_get xs p ≡ Some r → y.segment ≡ r.segment → map (λ r. r.segment) (slice_set xs p y) ≡ map (λ r. r.segment) xs
  segments-kept [] p r e s = absurd (cc)
  segments-kept (x ∷ xs) zero r e s = let is : x ≡ r = cc in ap (λ t. t ∷ map (λ r. r.segment) xs) (s ∙ ap (λ r. r.segment) (sym is))
  segments-kept (x ∷ xs) (suc p) r e s = ap (λ ts. x.segment ∷ ts) (segments-kept xs p r e s)

abbrev below : Segment → Segment → Bool
below s t = nat_lt s.id t.id

rises-segments : (xs : List TokenRow) → rises row_below xs ≡ rises below (map (λ r. r.segment) xs)
rises-segments [] = refl
rises-segments (x ∷ []) = refl
rises-segments (x ∷ z ∷ xs) = ap (λ b. row_below x z && b) (rises-segments (z ∷ xs))

matching-segments : (h : ℕ) (xs : List TokenRow) → length (filter (λ r. matches r.segment h) xs) ≡ length (filter (λ s. matches s h) (map (λ r. r.segment) xs))
matching-segments h [] = refl
matching-segments h (x ∷ xs) =
    elim (matches x.segment h) as (λ b. length (if b then x ∷ filter (λ r. matches r.segment h) xs else filter (λ r. matches r.segment h) xs)
    ≡ length (if b then x.segment ∷ filter (λ s. matches s h) (map (λ r. r.segment) xs) else filter (λ s. matches s h) (map (λ r. r.segment) xs)))
    [ true ↦ ap suc (matching-segments h xs) | false ↦ matching-segments h xs ]

abbrev segments-of : List Segment → Type 0
segments-of [] = Unit {0}
segments-of (s ∷ ss) = IsSegment s × segments-of ss

to-segments : (xs : List TokenRow) → AreSegments xs → segments-of (map (λ r. r.segment) xs)
to-segments [] h = tt
to-segments (x ∷ xs) h = (h.0, to-segments xs h.1)

from-segments : (xs : List TokenRow) → segments-of (map (λ r. r.segment) xs) → AreSegments xs
from-segments [] h = tt
from-segments (x ∷ xs) h = (h.0, from-segments xs h.1)

-- it is about the segments alone
pub same-segments : (ys xs : List TokenRow) → map (λ r. r.segment) ys ≡ map (λ r. r.segment) xs → AreRows xs → AreRows ys
same-segments ys xs same h = record {
  order = rises-segments ys ∙ ap (rises below) same ∙ sym (rises-segments xs) ∙ h.order;
  segments = from-segments ys (subst segments-of (sym same) (to-segments xs h.segments));
  once = λ k small. matching-segments k ys ∙ ap (λ ss. length (filter (λ s. matches s k) ss)) same ∙ sym (matching-segments k xs) ∙ h.once k small;
}

pub rows-kept : (y : TokenRow) (xs : List TokenRow) (p : ℕ) (r : TokenRow) → AreRows xs → slice_get xs p ≡ Some r → y.segment ≡ r.segment → AreRows (slice_set xs p y)
rows-kept y xs p r h e s = same-segments (slice_set xs p y) xs (segments-kept y xs p r e s) h
