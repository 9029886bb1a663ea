-- Changes of a row that is held: what they make of the rows, by the place of the row.
use Rattle.std.proofs.Common.{◌≡◌, ℕ, zero, suc, ◌<◌, ◌≤◌, ◌^◌, ◌/◌, ◌==◌, ◌&&◌, ◌||◌, Bool, true, false, min, List, [], ◌∷◌, length, map, Option, Some, None, Result, Ok, Err, IfSome, IfNone, slice_get, slice_set, get_or, cond, if◌then◌else◌, refl, sym, ap, ◌∙◌, subst, arith, nat_lt}
use Rattle.std.specs.Prelude.{insert, remove, position}
use Rattle.std.specs.List.{position_or_len}
use Rattle.std.proofs.lemmas.Bool.Decides.{nat_tests}
use Rattle.ax_values.specs.Grammar.{Name}
use Rattle.ax_values.specs.Words.{place_where}
use Rattle.ax_laws.proofs.Options.{some-is}
use Rattle.ax_laws.proofs.Tests.{and-swap}
use Rattle.ax_segments.specs.Segments.{Segment, IsSegment, AreHalves, matches, partner, is_partner, merged, same_segment, max_mask, lower_half, upper_half}
use Rattle.ax_segments.proofs.Halves.{AreParts, are_parts}
use Rattle.ax_tokens.specs.Tokens.{Token}
use Rattle.ax_claims.specs.Rows.{TokenRow, AreRows, row_at, place_at, put_row, remove_row}
use Rattle.ax_claims.specs.Changes.{is_claimed, held_check, checked, if_held, split, split_rows, lower_row, upper_row, merge, merged_with, merged_token, merge_rows, whole_row, free_row, partner_row, reset_rows, IsChanged}
use Rattle.ax_claims.specs.declared.refused.Refused.{Refused}
use Rattle.ax_claims.proofs.RowPlaces.{found, get-read, same-segments, place-low}
use Rattle.ax_claims.proofs.RowLists.{segment-at}
use Rattle.ax_claims.proofs.Halving.{are-split, split-put, split-is, are-merged, merged-is, matches-own, removed-both, place-order}
use Rattle.ax_claims.proofs.Answered.{within, read-row, row-put}

-- a place of a row is a small number
pub small-place : (rows : List TokenRow) (p : ℕ) → AreRows rows → p < length rows → p < 2 ^ 32
small-place rows p h lt = at (slice_get rows p) refl
  where
    none : {A : Type 0} (xs : List A) (p : ℕ) → p < length xs → slice_get xs p ≡ None → ⊥
    none [] p lt e = absurd (omega (arith, lt))
    none (x ∷ xs) zero lt e = cc
    none (x ∷ xs) (suc p) lt e = none xs p (omega (arith, lt)) e

    at : (o : Option TokenRow) → slice_get rows p ≡ o → p < 2 ^ 32
    at None e = absurd (none rows p lt e)
    at (Some r) e =
        let low : p ≤ r.segment.id = place-low rows p r h.order e in
        let is = segment-at rows p r h.segments e in
        let a : r.segment.id ≤ r.segment.mask = is.id in
        let b : r.segment.mask ≤ 65535 = is.mask in omega (arith, low, a, b)

passed : (s : Segment) (held : Option ℕ) (rows : List TokenRow) (change : TokenRow → Result (List TokenRow) Refused) (r : TokenRow) → held_check held (row_at s rows) ≡ None → row_at s rows ≡ Some r
    → if_held s held rows change ≡ change r
passed s held rows change r c e = ap (λ o. checked o (row_at s rows) change) c ∙ ap (λ o. checked None o change) e

-- the new row in the place of the old one
pub put-done : (s : Segment) (held : Option ℕ) (rows : List TokenRow) (next : TokenRow → TokenRow) (p : ℕ) (r : TokenRow) → AreRows rows → Some p ≡ place_at s rows → held_check held (row_at s rows) ≡ None → r ≡ get_or rows p r
    → (next r).segment ≡ r.segment → IsChanged (if_held s held rows (λ r. Ok (put_row (next r) rows))) rows (slice_set rows p (next r)) (Ok tt)
put-done s held rows next p r h e c g same =
    subst (λ x. IsChanged x rows (slice_set rows p (next r)) (Ok tt)) (sym (passed s held rows (λ r. Ok (put_row (next r) rows)) r c (read-row s rows p r e g))) (row-put s rows p r (next r) h e g same)

-- ---- split

module _ (s : Segment) (held : Option ℕ) (fence p : ℕ) (rows : List TokenRow) (r : TokenRow) (h : AreRows rows) (e : Some p ≡ place_at s rows) (c : held_check held (row_at s rows) ≡ None) (g : r ≡ get_or rows p r) where
  row-here : slice_get rows p ≡ Some r
  row-here = get-read rows p r (within s rows p e) g

  row-segment : r.segment ≡ s
  row-segment = let f = found s rows p (sym e) in ap (λ r. r.segment) (some-is r f.row (sym row-here ∙ f.here)) ∙ f.segment

  split-change : split s held fence rows ≡ (if s.mask == max_mask then Err Refused.MaskFull else Ok (split_rows r fence rows))
  split-change = passed s held rows (λ r. if s.mask == max_mask then Err Refused.MaskFull else Ok (split_rows r fence rows)) r c (read-row s rows p r e g)

  same-mask : (b : Bool) → (r.segment.mask == max_mask) ≡ b → (s.mask == max_mask) ≡ b
  same-mask b k = ap (λ (s : Segment). s.mask == max_mask) (sym row-segment) ∙ k

  pub split-refused : (r.segment.mask == max_mask) ≡ true → split s held fence rows ≡ Err Refused.MaskFull
  split-refused k = split-change ∙ ap (λ b. if b then Err Refused.MaskFull else Ok (split_rows r fence rows)) (same-mask true k)

  pub split-kept : (lo up : TokenRow) → (r.segment.mask == max_mask) ≡ false → lo ≡ lower_row r fence → up ≡ upper_row r fence
      → AreRows (slice_set (insert rows (place_where (λ x. nat_lt up.segment.id x.segment.id) rows) up) p lo)
  split-kept lo up k a b =
      let low : lo.segment ≡ lower_half r.segment = ap (λ r. r.segment) a in
      let high : up.segment ≡ upper_half r.segment = ap (λ r. r.segment) b in
      subst AreRows (sym (split-put rows p r lo up h row-here k low high)) (are-split rows p r lo up h row-here k low high)

  pub split-done : (lo up : TokenRow) → (r.segment.mask == max_mask) ≡ false → lo ≡ lower_row r fence → up ≡ upper_row r fence
      → split s held fence rows ≡ Ok (slice_set (insert rows (place_where (λ x. nat_lt up.segment.id x.segment.id) rows) up) p lo)
  split-done lo up k a b =
      let low : lo.segment ≡ lower_half r.segment = ap (λ r. r.segment) a in
      let high : up.segment ≡ upper_half r.segment = ap (λ r. r.segment) b in
      split-change ∙ ap (λ b. if b then Err Refused.MaskFull else Ok (split_rows r fence rows)) (same-mask false k)
      ∙ ap Ok (ap (λ x. put_row x (put_row (lower_row r fence) (remove_row r.segment rows))) (sym b) ∙ ap (λ x. put_row up (put_row x (remove_row r.segment rows))) (sym a) ∙ sym (split-is rows p r lo up h row-here k low high))

-- ---- merge

turned : (w s t : Segment) → AreHalves w s t → AreHalves w t s
turned w s t h = record {
  each = λ k. or-swap (matches t k) (matches s k) ∙ h.each k;
  once = λ k. and-swap (matches t k) (matches s k) ∙ h.once k;
}
  where
    or-swap : (a b : Bool) → (a || b) ≡ (b || a)
    or-swap true true = refl
    or-swap true false = refl
    or-swap false true = refl
    or-swap false false = refl

itself : (s : Segment) → same_segment s s ≡ true
itself s = let a : (s.id == s.id) ≡ true = grind (arith, nat_tests) in let b : (s.mask == s.mask) ≡ true = grind (arith, nat_tests) in ap (λ c. c && (s.mask == s.mask)) a ∙ b

module _ (s o : Segment) (held : Option ℕ) (actor : Name) (now fence p k : ℕ) (rows : List TokenRow) (r q : TokenRow) (h : AreRows rows) (e : Some p ≡ place_at s rows) (c : held_check held (row_at s rows) ≡ None)
    (g : r ≡ get_or rows p r) (is : partner s ≡ Some o) (f : Some k ≡ place_at o rows) (j : q ≡ get_or rows k q) where
  own-here : slice_get rows p ≡ Some r
  own-here = get-read rows p r (within s rows p e) g

  other-here : slice_get rows k ≡ Some q
  other-here = get-read rows k q (within o rows k f) j

  own-segment : r.segment ≡ s
  own-segment = let x = found s rows p (sym e) in ap (λ r. r.segment) (some-is r x.row (sym own-here ∙ x.here)) ∙ x.segment

  other-segment : q.segment ≡ o
  other-segment = let x = found o rows k (sym f) in ap (λ r. r.segment) (some-is q x.row (sym other-here ∙ x.here)) ∙ x.segment

  merge-change : merge s held actor now fence rows ≡ (if is_claimed actor now q then Err (Refused.Claimed (place_where (λ x. same_segment x.segment q.segment) rows)) else Ok (merge_rows r q fence rows))
  merge-change =
      passed s held rows (λ r. merged_with actor now fence rows r (partner_row (partner s) rows)) r c (read-row s rows p r e g)
      ∙ ap (λ x. merged_with actor now fence rows r (partner_row x rows)) is ∙ ap (merged_with actor now fence rows r) (read-row o rows k q f j)

  pub merge-claimed : is_claimed actor now q ≡ true → merge s held actor now fence rows ≡ Err (Refused.Claimed k)
  merge-claimed m =
      merge-change ∙ ap (λ b. if b then Err (Refused.Claimed (place_where (λ x. same_segment x.segment q.segment) rows)) else Ok (merge_rows r q fence rows)) m
      ∙ ap (λ t. Err (Refused.Claimed (place_where (λ x. same_segment x.segment t) rows))) other-segment ∙ ap (λ n. Err (Refused.Claimed n)) (found o rows k (sym f)).place

  merge-free : is_claimed actor now q ≡ false → merge s held actor now fence rows ≡ Ok (merge_rows r q fence rows)
  merge-free m = merge-change ∙ ap (λ b. if b then Err (Refused.Claimed (place_where (λ x. same_segment x.segment q.segment) rows)) else Ok (merge_rows r q fence rows)) m

  own-is : IsSegment s
  own-is = subst IsSegment own-segment (segment-at rows p r h.segments own-here)

  abbrev pub w : TokenRow
  w = whole_row r q fence

  parts : AreParts w.segment r.segment q.segment
  parts = subst (λ t. AreParts w.segment t q.segment) (sym own-segment) (subst (λ t. AreParts w.segment s t) (sym other-segment)
      (are_parts s o o (min r.segment.id q.segment.id) (r.segment.mask / 2) own-is is (itself o) (ap (λ t. min t.id q.segment.id) own-segment ∙ ap (λ t. min s.id t.id) other-segment) (ap (λ t. t.mask / 2) own-segment)))

  -- the two rows are not one
  pub places-differ : p ≡ k → ⊥
  places-differ same =
      let one : Some r ≡ Some q = sym own-here ∙ ap (slice_get rows) same ∙ other-here in
      let segments-are : q.segment ≡ r.segment = ap (λ r. r.segment) (sym (some-is r q one)) in
      let both-match : (matches r.segment r.segment.id && matches r.segment r.segment.id) ≡ false = subst (λ t. (matches r.segment r.segment.id && matches t r.segment.id) ≡ false) segments-are (parts.halves.once r.segment.id) in
      let yes : matches r.segment r.segment.id ≡ true = matches-own r.segment (segment-at rows p r h.segments own-here) in
      let no : true ≡ false = sym (ap (λ b. b && matches r.segment r.segment.id) yes ∙ yes) ∙ both-match in absurd (cc)

  pub merge-low : p < k → AreRows (slice_set (remove rows k) p w)
  merge-low lt = are-merged rows p k r q w h lt own-here other-here parts.is (let lower : r.segment.id < q.segment.id = place-order rows p k r q h.order own-here other-here lt in omega (arith, lower)) parts.halves

  pub merge-low-is : p < k → is_claimed actor now q ≡ false → merge s held actor now fence rows ≡ Ok (slice_set (remove rows k) p w)
  merge-low-is lt m =
      merge-free m ∙ ap Ok (sym (merged-is rows p k r q w h lt own-here other-here parts.is (let lower : r.segment.id < q.segment.id = place-order rows p k r q h.order own-here other-here lt in omega (arith, lower)) parts.halves))

  pub merge-high : k < p → AreRows (slice_set (remove rows p) k w)
  merge-high lt = are-merged rows k p q r w h lt other-here own-here parts.is (let lower : q.segment.id < r.segment.id = place-order rows k p q r h.order other-here own-here lt in omega (arith, lower)) (turned w.segment r.segment q.segment parts.halves)

  pub merge-high-is : k < p → is_claimed actor now q ≡ false → merge s held actor now fence rows ≡ Ok (slice_set (remove rows p) k w)
  merge-high-is lt m =
      merge-free m ∙ ap (λ xs. Ok (put_row w xs)) (removed-both r.segment q.segment rows)
      ∙ ap Ok (sym (merged-is rows k p q r w h lt other-here own-here parts.is (let lower : q.segment.id < r.segment.id = place-order rows k p q r h.order other-here own-here lt in omega (arith, lower)) (turned w.segment r.segment q.segment parts.halves)))

  -- the row that is put is that of the whole
  pub whole-is : (whole : Segment) (t : Token) (x : TokenRow) → merged s o ≡ Some whole → t ≡ merged_token r q → x ≡ free_row whole t fence → x ≡ w
  whole-is whole t x m a b =
      let whole-of : record { id = min s.id o.id; mask = s.mask / 2 } ≡ whole = some-is _ whole (sym (merged-by is) ∙ m) in
      b ∙ ap (λ t. free_row whole t fence) a ∙ ap (λ n. free_row n (merged_token r q) fence) (sym whole-of ∙ ap (λ t. record { id = min t.id o.id; mask = t.mask / 2 }) (sym own-segment) ∙ ap (λ t. record { id = min r.segment.id t.id; mask = r.segment.mask / 2 }) (sym other-segment))
    where
      merged-by : partner s ≡ Some o → merged s o ≡ Some (record { id = min s.id o.id; mask = s.mask / 2 })
      merged-by k = ap (λ x. if is_partner x o then Some (record { id = min s.id o.id; mask = s.mask / 2 }) else None) k ∙ ap (λ b. if b then Some (record { id = min s.id o.id; mask = s.mask / 2 }) else None) (itself o)

pub strict : (p k : ℕ) → k ≤ p → (p ≡ k → ⊥) → k < p
strict p k le differ = at (nat_lt k p) refl
  where
    at : (b : Bool) → nat_lt k p ≡ b → k < p
    at true e = grind (arith, nat_tests, e)
    at false e = let ge : p ≤ k = grind (arith, nat_tests, e) in absurd (differ (omega (arith, ge, le)))

-- the row of the other half, and its place
pub record HasPartner (s : Segment) (rows : List TokenRow) (k : ℕ) (whole : Segment) : Type 0 where
  pub other : Segment
  pub is : partner s ≡ Some other
  pub place : Some k ≡ place_at other rows
  pub of_both : merged s other ≡ Some whole

pub partner-at : (s : Segment) (read rows : List TokenRow) (k : ℕ) (whole : Segment) → read ≡ rows → IfNone (partner s) ⊥ → IfSome (partner s) (λ o. place_at o read ≡ Some k) → IfSome (partner s) (λ o. merged s o ≡ Some whole)
    → HasPartner s rows k whole
partner-at s read rows k whole same some place both = at (partner s) refl some place both
  where
    at : (x : Option Segment) → partner s ≡ x → IfNone x ⊥ → IfSome x (λ o. place_at o read ≡ Some k) → IfSome x (λ o. merged s o ≡ Some whole) → HasPartner s rows k whole
    at None e n p b = absurd n
    at (Some o) e n p b = record { other = o; is = e; place = sym p ∙ ap (place_at o) same; of_both = b }

-- the row that stands at a place
pub row-there : (s : Segment) (rows : List TokenRow) (p : ℕ) (e : Some p ≡ place_at s rows) → (found s rows p (sym e)).row ≡ get_or rows p (found s rows p (sym e)).row
row-there s rows p e = let f = found s rows p (sym e) in read-at rows p f.row f.here
  where
    read-at : {A : Type 0} (xs : List A) (p : ℕ) (x : A) → slice_get xs p ≡ Some x → x ≡ get_or xs p x
    read-at [] p x e = absurd (cc)
    read-at (y ∷ ys) zero x e = let is : y ≡ x = some-is y x e in sym is
    read-at (y ∷ ys) (suc p) x e = read-at ys p x e

-- ---- reset

pub reset-segments : (actor : Name) (now fence : ℕ) (rows : List TokenRow) → map (λ r. r.segment) (reset_rows actor now fence rows) ≡ map (λ r. r.segment) rows
reset-segments actor now fence [] = refl
reset-segments actor now fence (r ∷ rows) = ap (λ ss. r.segment ∷ ss) (reset-segments actor now (suc fence) rows)

pub reset-kept : (actor : Name) (now fence : ℕ) (rows : List TokenRow) → AreRows rows → AreRows (reset_rows actor now fence rows)
reset-kept actor now fence rows h = same-segments (reset_rows actor now fence rows) rows (reset-segments actor now fence rows) h

pub position-within : {A : Type 0} (test : A → Bool) (rows : List A) (p : ℕ) → Some p ≡ position test rows → p < length rows
position-within test rows p e = at (nat_lt (position_or_len test rows) (length rows)) refl
  where
    at : (b : Bool) → nat_lt (position_or_len test rows) (length rows) ≡ b → p < length rows
    at true k =
        let is : Some p ≡ Some (position_or_len test rows) = e ∙ ap (λ b. cond b (Some (position_or_len test rows)) None) k in
        let same : p ≡ position_or_len test rows = some-is _ _ is in
        let lt : position_or_len test rows < length rows = grind (arith, nat_tests, k) in omega (arith, same, lt)
    at false k = let is : Some p ≡ None = e ∙ ap (λ b. cond b (Some (position_or_len test rows)) None) k in absurd (cc)
