-- Lists that rise in a total order: what a put and a removal do to them, and where a binary search finds their places.
use Rattle.std.proofs.Common.{◌≡◌, ◌<◌, ◌≤◌, ℕ, zero, suc, true, List, [], ◌∷◌, length, get_or, set, refl, sym, ap, ◌∙◌, subst, arith}
use Rattle.std.specs.Prelude.{insert, remove}
use Rattle.std.specs.List.Sorted.{IsNonDecreasingBy, IsPartitionPoint}
use Rattle.std.specs.declared.cmp.Ordering.{Ordering}
use Rattle.std.specs.declared.cmp.Ordering.TheVariants.{Less, Equal, Greater}
use Rattle.std.specs.Ordering.{is_lt, match_ordering, ordering_index, ordering_reverse, ordering_then, then_cmp}
use Rattle.std.specs.Cmp.{IsTotalOrder, alike_right, tied_back, then_flip}
use Rattle.ax_laws.proofs.Tests.{both, and-true, is-less}
use Rattle.ax_values.specs.Words.{put_rising, remove_rising, rises}

tied_first : (p q : Ordering) → ordering_then p q ≡ Equal → (p ≡ Equal) × (q ≡ Equal)
tied_first Less q h = absurd (cc)
tied_first Equal q h = (refl, h)
tied_first Greater q h = absurd (cc)

-- first by one order, and then by another
module _ {A : Type 0} {R S : A → A → Ordering} (a : IsTotalOrder R) (b : IsTotalOrder S) where
  chain : (x y z : A) (p q : Ordering) → R x y ≡ p → R y z ≡ q → ordering_then p (S x y) ≡ Less → ordering_then q (S y z) ≡ Less → ordering_then (R x z) (S x z) ≡ Less
  chain x y z Less Less e f h k = ap (λ r. ordering_then r (S x z)) (a.trans x y z e f)
  chain x y z Less Equal e f h k = ap (λ r. ordering_then r (S x z)) (sym (alike_right a y z x f) ∙ e)
  chain x y z Less Greater e f h k = absurd (cc)
  chain x y z Equal Less e f h k = ap (λ r. ordering_then r (S x z)) (a.congr x y z e ∙ f)
  chain x y z Equal Equal e f h k = ap (λ r. ordering_then r (S x z)) (a.congr x y z e ∙ f) ∙ b.trans x y z h k
  chain x y z Equal Greater e f h k = absurd (cc)
  chain x y z Greater q e f h k = absurd (cc)

  pub then_total : IsTotalOrder (then_cmp R S)
  then_total = record {
    antisymm = λ x y. ap (λ p. ordering_then p (S x y)) (a.antisymm x y) ∙ ap (λ q. ordering_then (ordering_reverse (R y x)) q) (b.antisymm x y) ∙ then_flip (R y x) (S y x);
    trans = λ x y z. chain x y z (R x y) (R y z) refl refl;
    congr = λ x y z h. (let t = tied_first (R x y) (S x y) h in ap (λ p. ordering_then p (S x z)) (a.congr x y z t.0) ∙ ap (λ q. ordering_then (R y z) q) (b.congr x y z t.1));
  }

module _ {A : Type 0} (cmp : A → A → Ordering) (o : IsTotalOrder cmp) where
  abbrev Rises : List A → Type 0
  Rises xs = rises (λ x y. is_lt (cmp x y)) xs ≡ true

  less : (x y : A) → cmp x y ≡ Less → is_lt (cmp x y) ≡ true
  less x y h = ap is_lt h

  turned_less : (x y : A) → cmp x y ≡ Less → cmp y x ≡ Greater
  turned_less x y h = o.antisymm y x ∙ ap ordering_reverse h

  turned_greater : (x y : A) → cmp x y ≡ Greater → cmp y x ≡ Less
  turned_greater x y h = o.antisymm y x ∙ ap ordering_reverse h

  pub rises-rest : (x : A) (xs : List A) → Rises (x ∷ xs) → Rises xs
  rises-rest x [] h = refl
  rises-rest x (y ∷ ys) h = (both _ _ h).1

  -- the first is below every other
  pub rises-first : (x : A) (xs : List A) → Rises (x ∷ xs) → (i : ℕ) (d : A) → i < length xs → cmp x (get_or xs i d) ≡ Less
  rises-first x [] h i d k = absurd (omega arith)
  rises-first x (y ∷ ys) h zero d k = is-less (cmp x y) (both _ _ h).0
  rises-first x (y ∷ ys) h (suc i) d k = o.trans x y (get_or ys i d) (is-less (cmp x y) (both _ _ h).0) (rises-first y ys (both _ _ h).1 i d (omega arith))

  index_rises : (x y r : A) (p : Ordering) → cmp y r ≡ p → cmp x y ≡ Less → ordering_index (cmp x r) ≤ ordering_index p
  index_rises x y r Less e h = subst (λ q. ordering_index q ≤ 0) (sym (o.trans x y r h e)) (omega arith)
  index_rises x y r Equal e h = subst (λ q. ordering_index q ≤ 1) (sym (sym (alike_right o y r x e) ∙ h)) (omega arith)
  index_rises x y r Greater e h = most (cmp x r)
    where
      most : (q : Ordering) → ordering_index q ≤ 2
      most Less = omega arith
      most Equal = omega arith
      most Greater = omega arith

  -- so a binary search may be made in it
  pub rises-nondecreasing : (r : A) (xs : List A) → Rises xs → IsNonDecreasingBy (λ y. ordering_index (cmp y r)) xs
  rises-nondecreasing r [] h i j d le lt = absurd (omega arith)
  rises-nondecreasing r (x ∷ xs) h zero zero d le lt = omega arith
  rises-nondecreasing r (x ∷ xs) h zero (suc j) d le lt = index_rises x (get_or xs j d) r (cmp (get_or xs j d) r) refl (rises-first x xs h j d (omega arith))
  rises-nondecreasing r (x ∷ xs) h (suc i) zero d le lt = absurd (omega arith)
  rises-nondecreasing r (x ∷ xs) h (suc i) (suc j) d le lt = rises-nondecreasing r xs (rises-rest x xs h) i j d (omega arith) (omega arith)

  -- what lies before a place that is equal is below
  before_found : (r x : A) (xs : List A) (i : ℕ) → Rises (x ∷ xs) → i < length xs → cmp (get_or xs i r) r ≡ Equal → cmp r x ≡ Greater
  before_found r x xs i h k e = turned_less x r (sym (alike_right o (get_or xs i r) r x e) ∙ rises-first x xs h i r k)

  -- where an equal stands, it is replaced
  pub put-found : (r : A) (xs : List A) (i : ℕ) → Rises xs → i < length xs → cmp (get_or xs i r) r ≡ Equal → put_rising cmp r xs ≡ set xs i r
  put-found r [] i h k e = absurd (omega arith)
  put-found r (x ∷ xs) zero h k e = ap (λ p. match_ordering p (r ∷ x ∷ xs) (r ∷ xs) (x ∷ put_rising cmp r xs)) (tied_back o x r e)
  put-found r (x ∷ xs) (suc i) h k e =
      ap (λ p. match_ordering p (r ∷ x ∷ xs) (r ∷ xs) (x ∷ put_rising cmp r xs)) (before_found r x xs i h (omega arith) e)
      ∙ ap (λ ys. x ∷ ys) (put-found r xs i (rises-rest x xs h) (omega arith) e)

  pub remove-found : (r : A) (xs : List A) (i : ℕ) → Rises xs → i < length xs → cmp (get_or xs i r) r ≡ Equal → remove_rising cmp r xs ≡ remove xs i
  remove-found r [] i h k e = absurd (omega arith)
  remove-found r (x ∷ xs) zero h k e = ap (λ p. match_ordering p (x ∷ xs) xs (x ∷ remove_rising cmp r xs)) (tied_back o x r e)
  remove-found r (x ∷ xs) (suc i) h k e =
      ap (λ p. match_ordering p (x ∷ xs) xs (x ∷ remove_rising cmp r xs)) (before_found r x xs i h (omega arith) e)
      ∙ ap (λ ys. x ∷ ys) (remove-found r xs i (rises-rest x xs h) (omega arith) e)

  -- what a search that finds none says of the rest
  abbrev Parts : A → List A → ℕ → Type 0
  Parts r xs i = IsPartitionPoint (λ y. cmp y r ≡ Less) (λ y. cmp y r ≡ Greater) xs i

  parts-rest : (r x : A) (xs : List A) (i : ℕ) → Parts r (x ∷ xs) (suc i) → Parts r xs i
  parts-rest r x xs i p = (λ k d low high. p.0 (suc k) d (omega arith) (omega arith), λ k d low high. p.1 (suc k) d (omega arith) (omega arith))

  -- where none is equal, it goes between the lower and the greater ones
  pub put-none : (r : A) (xs : List A) (i : ℕ) → i ≤ length xs → Parts r xs i → put_rising cmp r xs ≡ insert xs i r
  put-none r [] zero h p = refl
  put-none r [] (suc i) h p = absurd (omega arith)
  put-none r (x ∷ xs) zero h p = ap (λ q. match_ordering q (r ∷ x ∷ xs) (r ∷ xs) (x ∷ put_rising cmp r xs)) (turned_greater x r (p.1 0 r (omega arith) (omega arith)))
  put-none r (x ∷ xs) (suc i) h p =
      ap (λ q. match_ordering q (r ∷ x ∷ xs) (r ∷ xs) (x ∷ put_rising cmp r xs)) (turned_less x r (p.0 0 r (omega arith) (omega arith)))
      ∙ ap (λ ys. x ∷ ys) (put-none r xs i (omega arith) (parts-rest r x xs i p))

  pub remove-none : (r : A) (xs : List A) (i : ℕ) → i ≤ length xs → Parts r xs i → remove_rising cmp r xs ≡ xs
  remove-none r [] i h p = refl
  remove-none r (x ∷ xs) zero h p = ap (λ q. match_ordering q (x ∷ xs) xs (x ∷ remove_rising cmp r xs)) (turned_greater x r (p.1 0 r (omega arith) (omega arith)))
  remove-none r (x ∷ xs) (suc i) h p =
      ap (λ q. match_ordering q (x ∷ xs) xs (x ∷ remove_rising cmp r xs)) (turned_less x r (p.0 0 r (omega arith) (omega arith)))
      ∙ ap (λ ys. x ∷ ys) (remove-none r xs i (omega arith) (parts-rest r x xs i p))

  -- an equal first element serves as well, and so does one that is further below
  equal-first : (r x : A) (xs : List A) → cmp r x ≡ Equal → Rises (x ∷ xs) → Rises (r ∷ xs)
  equal-first r x [] e h = refl
  equal-first r x (y ∷ ys) e h = and-true _ _ (ap is_lt (o.congr r x y e) ∙ (both _ _ h).0) (both _ _ h).1

  lower-first : (w x : A) (xs : List A) → cmp w x ≡ Less → Rises (x ∷ xs) → Rises (w ∷ xs)
  lower-first w x [] e h = refl
  lower-first w x (y ∷ ys) e h = and-true _ _ (less w y (o.trans w x y e (is-less (cmp x y) (both _ _ h).0))) (both _ _ h).1

  put-behind-by : (p : Ordering) (w r x : A) (xs : List A) → cmp r x ≡ p → cmp w r ≡ Less → cmp w x ≡ Less → Rises (x ∷ xs) → (cmp x r ≡ Less → Rises (x ∷ put_rising cmp r xs))
      → Rises (w ∷ match_ordering p (r ∷ x ∷ xs) (r ∷ xs) (x ∷ put_rising cmp r xs))
  put-behind-by Less w r x xs e h k s more = and-true _ _ (less w r h) (and-true _ _ (less r x e) s)
  put-behind-by Equal w r x xs e h k s more = and-true _ _ (less w r h) (equal-first r x xs e s)
  put-behind-by Greater w r x xs e h k s more = and-true _ _ (less w x k) (more (turned_greater r x e))

  put-behind : (w r : A) (xs : List A) → cmp w r ≡ Less → Rises (w ∷ xs) → Rises (w ∷ put_rising cmp r xs)
  put-behind w r [] h s = and-true _ _ (less w r h) refl
  put-behind w r (x ∷ xs) h s = put-behind-by (cmp r x) w r x xs refl h (is-less (cmp w x) (both _ _ s).0) (both _ _ s).1 (λ e. put-behind x r xs e (both _ _ s).1)

  put-by : (p : Ordering) (r x : A) (xs : List A) → cmp r x ≡ p → Rises (x ∷ xs) → Rises (match_ordering p (r ∷ x ∷ xs) (r ∷ xs) (x ∷ put_rising cmp r xs))
  put-by Less r x xs e s = and-true _ _ (less r x e) s
  put-by Equal r x xs e s = equal-first r x xs e s
  put-by Greater r x xs e s = put-behind x r xs (turned_greater r x e) s

  -- a put keeps the order
  pub rises-put : (r : A) (xs : List A) → Rises xs → Rises (put_rising cmp r xs)
  rises-put r [] h = refl
  rises-put r (x ∷ xs) h = put-by (cmp r x) r x xs refl h

  remove-behind-by : (p : Ordering) (w r x : A) (xs : List A) → cmp w x ≡ Less → Rises (x ∷ xs) → Rises (x ∷ remove_rising cmp r xs)
      → Rises (w ∷ match_ordering p (x ∷ xs) xs (x ∷ remove_rising cmp r xs))
  remove-behind-by Less w r x xs k s more = and-true _ _ (less w x k) s
  remove-behind-by Equal w r x xs k s more = lower-first w x xs k s
  remove-behind-by Greater w r x xs k s more = and-true _ _ (less w x k) more

  remove-behind : (w r : A) (xs : List A) → Rises (w ∷ xs) → Rises (w ∷ remove_rising cmp r xs)
  remove-behind w r [] s = refl
  remove-behind w r (x ∷ xs) s = remove-behind-by (cmp r x) w r x xs (is-less (cmp w x) (both _ _ s).0) (both _ _ s).1 (remove-behind x r xs (both _ _ s).1)

  remove-by : (p : Ordering) (r x : A) (xs : List A) → Rises (x ∷ xs) → Rises (match_ordering p (x ∷ xs) xs (x ∷ remove_rising cmp r xs))
  remove-by Less r x xs s = s
  remove-by Equal r x xs s = rises-rest x xs s
  remove-by Greater r x xs s = remove-behind x r xs s

  -- so does a removal
  pub rises-remove : (r : A) (xs : List A) → Rises xs → Rises (remove_rising cmp r xs)
  rises-remove r [] h = refl
  rises-remove r (x ∷ xs) h = remove-by (cmp r x) r x xs h
