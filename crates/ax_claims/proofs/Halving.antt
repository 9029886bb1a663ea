-- Rows in which one is split, or two are merged: they match each hash once, as before.
use Rattle.std.proofs.Common.{◌≡◌, ℕ, zero, suc, ◌+◌, ◌<◌, ◌≤◌, ◌^◌, ◌*◌, ◌%◌, ◌==◌, ◌&&◌, ◌||◌, Bool, true, false, not, List, [], ◌∷◌, length, filter, Some, slice_get, slice_set, if◌then◌else◌, refl, sym, ap, ◌∙◌, subst, arith, nat_lt}
use Rattle.std.specs.Prelude.{insert, remove}
use Rattle.std.proofs.lemmas.Bool.Decides.{nat_tests}
use Rattle.std.proofs.lemmas.Nat.{mod-mul-add}
use Rattle.ax_values.specs.Words.{rises, place_where}
use Rattle.ax_segments.specs.Segments.{Segment, IsSegment, AreHalves, matches, lower_half, upper_half, max_mask, same_segment}
use Rattle.ax_segments.proofs.Halves.{are_halves, is_lower, is_upper}
use Rattle.ax_claims.specs.Rows.{TokenRow, AreRows, row_below, put_row, remove_row}
use Rattle.ax_claims.proofs.RowPlaces.{rises-above}
use Rattle.ax_claims.proofs.RowLists.{one, matching, LacksId, lacks, insert-put, rises-put, segments-put, matching-put, matching-set, matching-removed, segments-set, segments-removed, segment-at, rises-set, lacks-set, rises-removed, rises-rest, remove-here, put-removed, set-put}

-- ---- no two match one hash

some-match : (h : ℕ) (xs : List TokenRow) (p : ℕ) (r : TokenRow) → slice_get xs p ≡ Some r → matches r.segment h ≡ true → 1 ≤ matching h xs
some-match h xs p r e m = let k = matching-removed h xs p r e in let is : one (matches r.segment h) ≡ 1 = ap one m in omega (arith, k, is)

two-match : (h : ℕ) (xs : List TokenRow) (p k : ℕ) (r x : TokenRow) → slice_get xs p ≡ Some r → slice_get xs k ≡ Some x → (p ≡ k → ⊥) → matches r.segment h ≡ true → matches x.segment h ≡ true → 2 ≤ matching h xs
two-match h [] p k r x e f differ m n = absurd (cc)
two-match h (y ∷ ys) zero zero r x e f differ m n = absurd (differ refl)
two-match h (y ∷ ys) zero (suc k) r x e f differ m n =
    let is : y ≡ r = cc in
    let here : matches y.segment h ≡ true = ap (λ r. matches r.segment h) is ∙ m in
    let rest : 1 ≤ matching h ys = some-match h ys k x f n in
    subst (λ b. 2 ≤ length (if b then y ∷ filter (λ r. matches r.segment h) ys else filter (λ r. matches r.segment h) ys)) (sym here) (omega (arith, rest))
two-match h (y ∷ ys) (suc p) zero r x e f differ m n =
    let is : y ≡ x = cc in
    let here : matches y.segment h ≡ true = ap (λ r. matches r.segment h) is ∙ n in
    let rest : 1 ≤ matching h ys = some-match h ys p r e m in
    subst (λ b. 2 ≤ length (if b then y ∷ filter (λ r. matches r.segment h) ys else filter (λ r. matches r.segment h) ys)) (sym here) (omega (arith, rest))
two-match h (y ∷ ys) (suc p) (suc k) r x e f differ m n = at (matches y.segment h) (two-match h ys p k r x e f (λ s. differ (ap suc s)) m n)
  where
    at : (b : Bool) → 2 ≤ matching h ys → 2 ≤ length (if b then y ∷ filter (λ r. matches r.segment h) ys else filter (λ r. matches r.segment h) ys)
    at true le = omega (arith, le)
    at false le = le

pub matches-own : (s : Segment) → IsSegment s → matches s s.id ≡ true
matches-own s is =
    let le : s.id ≤ s.mask = is.id in
    let zero-more : s.id ≡ 0 * (s.mask + 1) + s.id = omega arith in
    let e : s.id % (s.mask + 1) ≡ s.id = ap (λ n. n % (s.mask + 1)) zero-more ∙ mod-mul-add 0 (s.mask + 1) s.id (omega (arith, le)) in
    grind (arith, nat_tests, e)

-- the halves match, between them, as often as the whole
halves-count : (b c d : Bool) → (b || c) ≡ d → (b && c) ≡ false → one b + one c ≡ one d
halves-count true true d e f = cc
halves-count true false d e f = ap one e
halves-count false true d e f = ap one e
halves-count false false d e f = ap one e

-- ---- a split

module _ (rows : List TokenRow) (p : ℕ) (r lo up : TokenRow) (h : AreRows rows) (e : slice_get rows p ≡ Some r) (more : (r.segment.mask == max_mask) ≡ false)
    (low : lo.segment ≡ lower_half r.segment) (high : up.segment ≡ upper_half r.segment) where
  whole : IsSegment r.segment
  whole = segment-at rows p r h.segments e

  splits : r.segment.mask ≡ max_mask → ⊥
  splits k = let yes : (r.segment.mask == max_mask) ≡ true = grind (arith, nat_tests, k) in cc

  lower_is : IsSegment lo.segment
  lower_is = subst IsSegment (sym low) (is_lower r.segment whole splits)

  upper_is : IsSegment up.segment
  upper_is = subst IsSegment (sym high) (is_upper r.segment whole splits)

  halves : AreHalves r.segment lo.segment up.segment
  halves = subst (λ s. AreHalves r.segment s up.segment) (sym low) (subst (λ s. AreHalves r.segment (lower_half r.segment) s) (sym high) (are_halves r.segment whole.id))

  id-low : lo.segment.id ≡ r.segment.id
  id-low = ap (λ s. s.id) low

  id-high : r.segment.id < up.segment.id
  id-high = let is : up.segment.id ≡ r.segment.id + (r.segment.mask + 1) = ap (λ s. s.id) high in omega (arith, is)

  -- the upper half's id is matched by the whole, and so by no other row
  met : matches r.segment up.segment.id ≡ true
  met = sym (halves.each up.segment.id) ∙ at (matches lo.segment up.segment.id) (matches-own up.segment upper_is)
    where
      at : (b : Bool) → matches up.segment up.segment.id ≡ true → (b || matches up.segment up.segment.id) ≡ true
      at true m = refl
      at false m = m

  apart-by : (b : Bool) (k : ℕ) (x : TokenRow) → (p == k) ≡ b → slice_get rows k ≡ Some x → x.segment.id ≡ up.segment.id → ⊥
  apart-by true k x same f is =
      let k-is : p ≡ k = grind (arith, nat_tests, same) in
      let x-is : Some r ≡ Some x = sym e ∙ ap (slice_get rows) k-is ∙ f in
      let r-is : r ≡ x = cc in
      let ids-are : r.segment.id ≡ up.segment.id = ap (λ r. r.segment.id) r-is ∙ is in omega (arith, ids-are, id-high)
  apart-by false k x same f is =
      let differ : (p ≡ k → ⊥) = λ s. (let yes : (p == k) ≡ true = grind (arith, nat_tests, s) in cc) in
      let own : matches x.segment up.segment.id ≡ true = subst (λ n. matches x.segment n ≡ true) is (matches-own x.segment (segment-at rows k x h.segments f)) in
      let two : 2 ≤ matching up.segment.id rows = two-match up.segment.id rows p k r x e f differ met own in
      let small : up.segment.id < 2 ^ 32 = (let a : up.segment.id ≤ up.segment.mask = upper_is.id in let b : up.segment.mask ≤ 65535 = upper_is.mask in omega (arith, a, b)) in
      let once : matching up.segment.id rows ≡ 1 = h.once up.segment.id small in omega (arith, two, once)

  lacks-upper : LacksId up.segment.id rows
  lacks-upper = lacks up.segment.id rows (λ k x. apart-by (p == k) k x refl)

  set-rises : rises row_below (slice_set rows p lo) ≡ true
  set-rises = rises-set lo rows p r h.order e id-low

  set-lacks : LacksId up.segment.id (slice_set rows p lo)
  set-lacks = lacks-set up.segment.id lo rows p r lacks-upper e id-low

  pub are-split : AreRows (put_row up (slice_set rows p lo))
  are-split = record {
    order = rises-put up (slice_set rows p lo) set-rises set-lacks;
    segments = segments-put up (slice_set rows p lo) upper_is (segments-set lo rows p lower_is h.segments) set-lacks;
    once = λ k small. (
        let a : matching k (put_row up (slice_set rows p lo)) ≡ one (matches up.segment k) + matching k (slice_set rows p lo) = matching-put up k (slice_set rows p lo) set-lacks in
        let b : matching k (slice_set rows p lo) + one (matches r.segment k) ≡ matching k rows + one (matches lo.segment k) = matching-set k lo rows p r e in
        let c : matching k rows ≡ 1 = h.once k small in
        let d : one (matches lo.segment k) + one (matches up.segment k) ≡ one (matches r.segment k) = halves-count (matches lo.segment k) (matches up.segment k) (matches r.segment k) (halves.each k) (halves.once k) in
        omega (arith, a, b, c, d));
  }

  -- one is put in after all below it, and the other in the place of the whole
  pub split-put : slice_set (insert rows (place_where (λ x. nat_lt up.segment.id x.segment.id) rows) up) p lo ≡ put_row up (slice_set rows p lo)
  split-put = ap (λ ys. slice_set ys p lo) (insert-put up rows lacks-upper) ∙ set-put up lo rows p r h.order e id-low id-high

  pub split-is : slice_set (insert rows (place_where (λ x. nat_lt up.segment.id x.segment.id) rows) up) p lo ≡ put_row up (put_row lo (remove_row r.segment rows))
  split-is = split-put ∙ sym (ap (put_row up) (ap (put_row lo) (remove-here rows p r h.order e) ∙ put-removed lo rows p r h.order e id-low))

-- ---- a merge of the rows at two places

get-removed : (xs : List TokenRow) (p k : ℕ) → p < k → slice_get (remove xs k) p ≡ slice_get xs p
get-removed [] p zero lt = refl
get-removed [] p (suc k) lt = refl
get-removed (x ∷ xs) zero zero lt = absurd (omega (arith, lt))
get-removed (x ∷ xs) zero (suc k) lt = refl
get-removed (x ∷ xs) (suc p) zero lt = absurd (omega (arith, lt))
get-removed (x ∷ xs) (suc p) (suc k) lt = get-removed xs p k (omega (arith, lt))

module _ (rows : List TokenRow) (p k : ℕ) (l g w : TokenRow) (h : AreRows rows) (lt : p < k) (e : slice_get rows p ≡ Some l) (f : slice_get rows k ≡ Some g)
    (is : IsSegment w.segment) (id : w.segment.id ≡ l.segment.id) (halves : AreHalves w.segment l.segment g.segment) where
  here : slice_get (remove rows k) p ≡ Some l
  here = get-removed rows p k lt ∙ e

  left-rises : rises row_below (remove rows k) ≡ true
  left-rises = rises-removed rows k h.order

  pub are-merged : AreRows (slice_set (remove rows k) p w)
  are-merged = record {
    order = rises-set w (remove rows k) p l left-rises here id;
    segments = segments-set w (remove rows k) p is (segments-removed rows k h.segments);
    once = λ n small. (
        let a : matching n (slice_set (remove rows k) p w) + one (matches l.segment n) ≡ matching n (remove rows k) + one (matches w.segment n) = matching-set n w (remove rows k) p l here in
        let b : matching n (remove rows k) + one (matches g.segment n) ≡ matching n rows = matching-removed n rows k g f in
        let c : matching n rows ≡ 1 = h.once n small in
        let d : one (matches l.segment n) + one (matches g.segment n) ≡ one (matches w.segment n) = halves-count (matches l.segment n) (matches g.segment n) (matches w.segment n) (halves.each n) (halves.once n) in
        omega (arith, a, b, c, d));
  }

  pub merged-is : slice_set (remove rows k) p w ≡ put_row w (remove_row l.segment (remove_row g.segment rows))
  merged-is = sym (ap (put_row w) (ap (remove_row l.segment) (remove-here rows k g h.order f) ∙ remove-here (remove rows k) p l left-rises here) ∙ put-removed w (remove rows k) p l left-rises here id)

-- the order of two removals doesn't matter
pub removed-both : (s t : Segment) (xs : List TokenRow) → remove_row s (remove_row t xs) ≡ remove_row t (remove_row s xs)
removed-both s t [] = refl
removed-both s t (x ∷ xs) = at (same_segment x.segment s) (same_segment x.segment t) refl refl (removed-both s t xs)
  where
    at : (b c : Bool) → same_segment x.segment s ≡ b → same_segment x.segment t ≡ c → remove_row s (remove_row t xs) ≡ remove_row t (remove_row s xs)
        → remove_row s (if not c then x ∷ remove_row t xs else remove_row t xs) ≡ remove_row t (if not b then x ∷ remove_row s xs else remove_row s xs)
    at true true p q k = k
    at true false p q k = ap (λ b. if not b then x ∷ remove_row s (remove_row t xs) else remove_row s (remove_row t xs)) p ∙ k
    at false true p q k = k ∙ sym (ap (λ b. if not b then x ∷ remove_row t (remove_row s xs) else remove_row t (remove_row s xs)) q)
    at false false p q k =
        ap (λ b. if not b then x ∷ remove_row s (remove_row t xs) else remove_row s (remove_row t xs)) p ∙ ap (λ ys. x ∷ ys) k
        ∙ sym (ap (λ b. if not b then x ∷ remove_row t (remove_row s xs) else remove_row t (remove_row s xs)) q)

-- rows stand by id
pub place-order : (xs : List TokenRow) (p k : ℕ) (r x : TokenRow) → rises row_below xs ≡ true → slice_get xs p ≡ Some r → slice_get xs k ≡ Some x → p < k → r.segment.id < x.segment.id
place-order [] p k r x h e f lt = absurd (cc)
place-order (y ∷ ys) zero zero r x h e f lt = absurd (omega (arith, lt))
place-order (y ∷ ys) zero (suc k) r x h e f lt = let is : y ≡ r = cc in let above : y.segment.id + suc k ≤ x.segment.id = rises-above y ys k x h f in subst (λ r. r.segment.id < x.segment.id) is (omega (arith, above))
place-order (y ∷ ys) (suc p) zero r x h e f lt = absurd (omega (arith, lt))
place-order (y ∷ ys) (suc p) (suc k) r x h e f lt = place-order ys p k r x (rises-rest y ys h) e f (omega (arith, lt))
