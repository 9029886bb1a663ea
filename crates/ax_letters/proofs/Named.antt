-- Lists that rise by a name: what is found under a name, and what a put, an insertion and a removal do to it.
use Rattle.std.proofs.Common.{◌≡◌, ◌≤◌, ℕ, zero, suc, Bool, true, false, cond, List, [], ◌∷◌, length, get_or, set, Option, Some, None, refl, sym, ap, ◌∙◌, subst, arith}
use Rattle.std.specs.Prelude.{find, insert, remove, slice_get, if◌then◌else◌}
use Rattle.std.specs.List.Sorted.{IsPartitionPoint, IsNonDecreasingBy}
use Rattle.std.specs.declared.cmp.Ordering.{Ordering}
use Rattle.std.specs.declared.cmp.Ordering.TheVariants.{Less, Equal, Greater}
use Rattle.std.specs.Ordering.{is_eq, is_lt, ordering_index, ordering_reverse}
use Rattle.std.specs.Cmp.{IsTotalOrder, on_total}
use Rattle.std.proofs.lemmas.Cmp.{nat_list_cmp_total}
use Rattle.std.proofs.lemmas.Map.Text.{is_eq-slice_cmp}
use Rattle.std.proofs.lemmas.Option.{slice_get_within, get_or_from_slice_get}
use Rattle.std.proofs.lemmas.Slice.Eq.{bytes_eq-Decides}
use Rattle.ax_values.specs.Grammar.{Name}
use Rattle.ax_values.specs.Words.{same_name, name_cmp, rises}
use Rattle.ax_laws.proofs.Tests.{both, and-true}
use Rattle.ax_values.proofs.Rising.{rises-first, rises-rest, rises-nondecreasing, put-found, put-none, rises-put, remove-found, rises-remove}

-- ---- names

pub name-is : (a b : Name) → same_name a b ≡ true → a ≡ b
name-is a b h = (bytes_eq-Decides a b).0 h

pub name-refl : (a : Name) → same_name a a ≡ true
name-refl a = (bytes_eq-Decides a a).1 refl

pub same-by : (a b : Name) (o : Ordering) → name_cmp a b ≡ o → same_name a b ≡ is_eq o
same-by a b o e = sym (is_eq-slice_cmp a b) ∙ ap is_eq e

pub equal-is : (a b : Name) → name_cmp a b ≡ Equal → a ≡ b
equal-is a b e = name-is a b (same-by a b Equal e)

pub is-equal : (a : Name) → name_cmp a a ≡ Equal
is-equal a = by (name_cmp a a) refl
  where
    by : (o : Ordering) → name_cmp a a ≡ o → name_cmp a a ≡ Equal
    by Less e = let h : true ≡ false = sym (name-refl a) ∙ same-by a a Less e in absurd (cc)
    by Equal e = e
    by Greater e = let h : true ≡ false = sym (name-refl a) ∙ same-by a a Greater e in absurd (cc)

pub turned : (a b : Name) → name_cmp a b ≡ Less → name_cmp b a ≡ Greater
turned a b e = nat_list_cmp_total.antisymm b a ∙ ap ordering_reverse e

pub turned-greater : (a b : Name) → name_cmp a b ≡ Greater → name_cmp b a ≡ Less
turned-greater a b e = nat_list_cmp_total.antisymm b a ∙ ap ordering_reverse e

-- ---- lists that rise by a name

module _ {A : Type 0} (key : A → Name) where
  abbrev by_name : A → A → Ordering
  by_name x y = name_cmp (key x) (key y)

  by_name_total : IsTotalOrder by_name
  by_name_total = on_total key nat_list_cmp_total

  abbrev pub Rises : List A → Type 0
  Rises xs = rises (λ x y. is_lt (name_cmp (key x) (key y))) xs ≡ true

  abbrev pub under : Name → List A → Option A
  under a xs = find (λ x. same_name (key x) a) xs

  pub rest : (x : A) (xs : List A) → Rises (x ∷ xs) → Rises xs
  rest x xs h = rises-rest by_name by_name_total x xs h

  -- the first is below what stands at any place of the rest
  pub below-first : (x y : A) (xs : List A) (i : ℕ) → Rises (x ∷ xs) → slice_get xs i ≡ Some y → name_cmp (key x) (key y) ≡ Less
  below-first x y xs i h e =
      subst (λ z. name_cmp (key x) (key z) ≡ Less) (get_or_from_slice_get xs i y y e)
      (rises-first by_name by_name_total x xs h i y (slice_get_within xs i y e))

  pub first-differs : (x y : A) (xs : List A) (i : ℕ) → Rises (x ∷ xs) → slice_get xs i ≡ Some y → same_name (key x) (key y) ≡ false
  first-differs x y xs i h e = same-by (key x) (key y) Less (below-first x y xs i h e)

  -- what stands at a place is found under its name
  pub find-here : (xs : List A) (i : ℕ) (x : A) → Rises xs → slice_get xs i ≡ Some x → under (key x) xs ≡ Some x
  find-here [] i x h e = absurd (cc)
  find-here (y ∷ ys) zero x h e = let same : y ≡ x = cc in subst (λ z. under (key x) (z ∷ ys) ≡ Some x) (sym same) (ap (λ b. cond b (Some x) (under (key x) ys)) (name-refl (key x)))
  find-here (y ∷ ys) (suc i) x h e = ap (λ b. cond b (Some y) (under (key x) ys)) (first-differs y x ys i h e) ∙ find-here ys i x (rest y ys h) e

  -- so a binary search may be made in it
  pub nondecreasing : (x : A) (xs : List A) → Rises xs → IsNonDecreasingBy (λ y. ordering_index (name_cmp (key y) (key x))) xs
  nondecreasing x xs h = rises-nondecreasing by_name by_name_total x xs h

  -- ---- what a search that finds none says

  abbrev pub Parts : Name → List A → ℕ → Type 0
  Parts a xs i = IsPartitionPoint (λ x. name_cmp (key x) a ≡ Less) (λ x. name_cmp (key x) a ≡ Greater) xs i

  pub parts-rest : (a : Name) (x : A) (xs : List A) (i : ℕ) → Parts a (x ∷ xs) (suc i) → Parts a xs i
  parts-rest a x xs i p = (λ k d low high. p.0 (suc k) d (omega arith) (omega arith), λ k d low high. p.1 (suc k) d (omega arith) (omega arith))

  parts-past : (a : Name) (x : A) (xs : List A) → Parts a (x ∷ xs) 0 → Parts a xs 0
  parts-past a x xs p = (λ k d low high. absurd (omega arith), λ k d low high. p.1 (suc k) d (omega arith) (omega arith))

  pub parts-lower : (a : Name) (x : A) (xs : List A) (i : ℕ) → Parts a (x ∷ xs) (suc i) → name_cmp (key x) a ≡ Less
  parts-lower a x xs i p = p.0 0 x (omega arith) (omega arith)

  pub parts-greater : (a : Name) (x : A) (xs : List A) → Parts a (x ∷ xs) 0 → name_cmp (key x) a ≡ Greater
  parts-greater a x xs p = p.1 0 x (omega arith) (omega arith)

  pub find-none : (a : Name) (xs : List A) (i : ℕ) → i ≤ length xs → Parts a xs i → under a xs ≡ None
  find-none a [] i le p = refl
  find-none a (x ∷ xs) zero le p = ap (λ b. cond b (Some x) (under a xs)) (same-by (key x) a Greater (parts-greater a x xs p)) ∙ find-none a xs 0 (omega arith) (parts-past a x xs p)
  find-none a (x ∷ xs) (suc i) le p = ap (λ b. cond b (Some x) (under a xs)) (same-by (key x) a Less (parts-lower a x xs i p)) ∙ find-none a xs i (omega arith) (parts-rest a x xs i p)

  -- ---- changes

  pub find-set : (a : Name) (xs : List A) (i : ℕ) (x y : A) → slice_get xs i ≡ Some x → key y ≡ key x → Rises xs → under a (set xs i y) ≡ (if same_name (key x) a then Some y else under a xs)
  find-set a [] i x y e k h = absurd (cc)
  find-set a (z ∷ zs) zero x y e k h =
      let same : z ≡ x = cc in
      subst (λ w. under a (y ∷ zs) ≡ (if same_name (key x) a then Some y else under a (w ∷ zs))) (sym same)
      (ap (λ n. cond (same_name n a) (Some y) (under a zs)) k ∙ at (same_name (key x) a))
    where
      at : (b : Bool) → cond b (Some y) (under a zs) ≡ (if b then Some y else cond b (Some x) (under a zs))
      at true = refl
      at false = refl
  find-set a (z ∷ zs) (suc i) x y e k h =
      ap (λ o. cond (same_name (key z) a) (Some z) o) (find-set a zs i x y e k (rest z zs h))
      ∙ at (same_name (key z) a) refl (same_name (key x) a) refl
    where
      at : (b : Bool) → same_name (key z) a ≡ b → (d : Bool) → same_name (key x) a ≡ d → cond b (Some z) (if d then Some y else under a zs) ≡ (if d then Some y else cond b (Some z) (under a zs))
      at false p d q = refl
      at true p false q = refl
      at true p true q =
          let alike : key z ≡ key x = name-is (key z) a p ∙ sym (name-is (key x) a q) in
          let both : false ≡ true = sym (first-differs z x zs i h e) ∙ ap (λ n. same_name (key z) n) (sym alike) ∙ name-refl (key z) in absurd (cc)

  pub find-insert : (a : Name) (xs : List A) (i : ℕ) (y : A) → i ≤ length xs → Parts (key y) xs i → under a (insert xs i y) ≡ (if same_name (key y) a then Some y else under a xs)
  find-insert a xs zero y le p = at (same_name (key y) a)
    where
      at : (b : Bool) → cond b (Some y) (under a xs) ≡ (if b then Some y else under a xs)
      at true = refl
      at false = refl
  find-insert a [] (suc i) y le p = absurd (omega arith)
  find-insert a (z ∷ zs) (suc i) y le p =
      ap (λ o. cond (same_name (key z) a) (Some z) o) (find-insert a zs i y (omega arith) (parts-rest (key y) z zs i p))
      ∙ at (same_name (key z) a) refl (same_name (key y) a) refl
    where
      at : (b : Bool) → same_name (key z) a ≡ b → (d : Bool) → same_name (key y) a ≡ d → cond b (Some z) (if d then Some y else under a zs) ≡ (if d then Some y else cond b (Some z) (under a zs))
      at false p' d q = refl
      at true p' false q = refl
      at true p' true q =
          let alike : key z ≡ key y = name-is (key z) a p' ∙ sym (name-is (key y) a q) in
          let both : false ≡ true = sym (same-by (key z) (key y) Less (parts-lower (key y) z zs i p)) ∙ ap (λ n. same_name (key z) n) (sym alike) ∙ name-refl (key z) in absurd (cc)

  -- none of the rest has the name of the first
  pub rest-differs : (x : A) (xs : List A) → Rises (x ∷ xs) → under (key x) xs ≡ None
  rest-differs x [] h = refl
  rest-differs x (y ∷ ys) h =
      let lower : name_cmp (key x) (key y) ≡ Less = below-first x y (y ∷ ys) 0 h refl in
      ap (λ b. cond b (Some y) (under (key x) ys)) (same-by (key y) (key x) Greater (turned (key x) (key y) lower))
      ∙ rest-differs x ys (remove-second x y ys h)
    where
      remove-second : (x y : A) (ys : List A) → Rises (x ∷ y ∷ ys) → Rises (x ∷ ys)
      remove-second x y [] h = refl
      remove-second x y (z ∷ zs) h = and-true _ _ (ap is_lt (below-first x z (y ∷ z ∷ zs) 1 h refl)) (both _ _ (both _ _ h).1).1

  pub find-remove : (a : Name) (xs : List A) (i : ℕ) (x : A) → slice_get xs i ≡ Some x → Rises xs → under a (remove xs i) ≡ (if same_name (key x) a then None else under a xs)
  find-remove a [] i x e h = absurd (cc)
  find-remove a (z ∷ zs) zero x e h =
      let same : z ≡ x = cc in
      subst (λ w. under a zs ≡ (if same_name (key w) a then None else under a (z ∷ zs))) same (at (same_name (key z) a) refl)
    where
      at : (b : Bool) → same_name (key z) a ≡ b → under a zs ≡ (if b then None else cond b (Some z) (under a zs))
      at true p = ap (λ n. under n zs) (sym (name-is (key z) a p)) ∙ rest-differs z zs h
      at false p = refl
  find-remove a (z ∷ zs) (suc i) x e h =
      ap (λ o. cond (same_name (key z) a) (Some z) o) (find-remove a zs i x e (rest z zs h))
      ∙ at (same_name (key z) a) refl (same_name (key x) a) refl
    where
      at : (b : Bool) → same_name (key z) a ≡ b → (d : Bool) → same_name (key x) a ≡ d → cond b (Some z) (if d then None else under a zs) ≡ (if d then None else cond b (Some z) (under a zs))
      at false p d q = refl
      at true p false q = refl
      at true p true q =
          let alike : key z ≡ key x = name-is (key z) a p ∙ sym (name-is (key x) a q) in
          let both : false ≡ true = sym (first-differs z x zs i h e) ∙ ap (λ n. same_name (key z) n) (sym alike) ∙ name-refl (key z) in absurd (cc)

  -- ---- the order is kept

  pub rises-set : (xs : List A) (i : ℕ) (x y : A) → slice_get xs i ≡ Some x → key y ≡ key x → Rises xs → Rises (set xs i y)
  rises-set xs i x y e k h =
      let found : name_cmp (key (get_or xs i y)) (key y) ≡ Equal =
      ap (λ z. name_cmp (key z) (key y)) (get_or_from_slice_get xs i x y e) ∙ ap (λ n. name_cmp n (key y)) (sym k) ∙ is-equal (key y) in
      subst Rises (put-found by_name by_name_total y xs i h (slice_get_within xs i x e) found) (rises-put by_name by_name_total y xs h)

  pub rises-insert : (xs : List A) (i : ℕ) (y : A) → i ≤ length xs → Parts (key y) xs i → Rises xs → Rises (insert xs i y)
  rises-insert xs i y le p h = subst Rises (put-none by_name by_name_total y xs i le p) (rises-put by_name by_name_total y xs h)

  pub rises-without : (xs : List A) (i : ℕ) (x : A) → slice_get xs i ≡ Some x → Rises xs → Rises (remove xs i)
  rises-without xs i x e h =
      let found : name_cmp (key (get_or xs i x)) (key x) ≡ Equal = ap (λ z. name_cmp (key z) (key x)) (get_or_from_slice_get xs i x x e) ∙ is-equal (key x) in
      subst Rises (remove-found by_name by_name_total x xs i h (slice_get_within xs i x e) found) (rises-remove by_name by_name_total x xs h)
