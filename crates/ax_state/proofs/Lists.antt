-- What holds of each element, and counts, after a change at one place.
use Rattle.std.specs.Prelude.{◌≡◌, ℕ, zero, suc, ◌+◌, ◌≤◌, Bool, true, false, List, [], ◌∷◌, ◌++◌, filter, Option, Some, None, IfSome, slice_get, slice_set, if◌then◌else◌}
use Rattle.std.specs.List.{AllByRecursion}
use Rattle.std.proofs.Common.{refl, ap, sym, ◌∙◌, subst, subst₂, arith}
use Rattle.std.specs.Ordering.{match_ordering}
use Rattle.std.specs.declared.cmp.Ordering.{Ordering}
use Rattle.std.specs.declared.cmp.Ordering.TheVariants.{Less, Equal, Greater}
use Rattle.ax_values.specs.Words.{put_rising}
use Rattle.ax_state.specs.Every.{AllFrom, count, one, option_or}

pub All-map : {A : Type 0} (P Q : A → Type 0) → ((x : A) → P x → Q x) → (xs : List A) → AllByRecursion P xs → AllByRecursion Q xs
All-map P Q f [] h = tt
All-map P Q f (x ∷ xs) h = (f x h.0, All-map P Q f xs h.1)

pub All-set : {A : Type 0} (P : A → Type 0) (xs : List A) (p : ℕ) (y : A) → AllByRecursion P xs → P y → AllByRecursion P (slice_set xs p y)
All-set P [] p y h j = tt
All-set P (x ∷ xs) zero y h j = (j, h.1)
All-set P (x ∷ xs) (suc p) y h j = (h.0, All-set P xs p y h.1 j)

pub All-at : {A : Type 0} (P : A → Type 0) (xs : List A) (p : ℕ) (d : A) → AllByRecursion P xs → P d → P (option_or d (slice_get xs p))
All-at P [] p d h j = j
All-at P (x ∷ xs) zero d h j = h.0
All-at P (x ∷ xs) (suc p) d h j = All-at P xs p d h.1 j

pub All-put : {A : Type 0} (P : A → Type 0) (cmp : A → A → Ordering) (y : A) (xs : List A) → AllByRecursion P xs → P y → AllByRecursion P (put_rising cmp y xs)
All-put P cmp y [] h j = (j, tt)
All-put P cmp y (x ∷ xs) h j =
    elim (cmp y x) as (λ o. AllByRecursion P (match_ordering o (y ∷ x ∷ xs) (y ∷ xs) (x ∷ put_rising cmp y xs)))
    [ Less ↦ (j, (h.0, h.1)) | Equal ↦ (j, h.1) | Greater ↦ (h.0, All-put P cmp y xs h.1 j) ]

pub All-get : {A : Type 0} (P : A → Type 0) (xs : List A) (p : ℕ) (x : A) → AllByRecursion P xs → slice_get xs p ≡ Some x → P x
All-get P [] p x h e = absurd (cc)
All-get P (y ∷ ys) zero x h e = let is : y ≡ x = cc in subst P is h.0
All-get P (y ∷ ys) (suc p) x h e = All-get P ys p x h.1 e

pub All-filter : {A : Type 0} (P : A → Type 0) (t : A → Bool) (xs : List A) → AllByRecursion P xs → AllByRecursion P (filter t xs)
All-filter P t [] h = tt
All-filter P t (x ∷ xs) h =
    elim (t x) as (λ b. AllByRecursion P (if b then x ∷ filter t xs else filter t xs)) [ true ↦ (h.0, All-filter P t xs h.1) | false ↦ All-filter P t xs h.1 ]

pub All-left : {A : Type 0} (P : A → Type 0) (xs ys : List A) → AllByRecursion P (xs ++ ys) → AllByRecursion P xs
All-left P [] ys h = tt
All-left P (x ∷ xs) ys h = (h.0, All-left P xs ys h.1)

pub All-right : {A : Type 0} (P : A → Type 0) (xs ys : List A) → AllByRecursion P (xs ++ ys) → AllByRecursion P ys
All-right P [] ys h = h
All-right P (x ∷ xs) ys h = All-right P xs ys h.1

pub All-got : {A : Type 0} (P Q : A → Type 0) (xs : List A) → ((k : ℕ) (x : A) → slice_get xs k ≡ Some x → P x → Q x) → AllByRecursion P xs → AllByRecursion Q xs
All-got P Q [] f h = tt
All-got P Q (x ∷ xs) f h = (f 0 x refl h.0, All-got P Q xs (λ k y e j. f (suc k) y e j) h.1)

pub All-append : {A : Type 0} (P : A → Type 0) (xs ys : List A) → AllByRecursion P xs → AllByRecursion P ys → AllByRecursion P (xs ++ ys)
All-append P [] ys h j = j
All-append P (x ∷ xs) ys h j = (h.0, All-append P xs ys h.1 j)

pub AllFrom-map : {A : Type 0} (P Q : ℕ → A → Type 0) → ((k : ℕ) (x : A) → P k x → Q k x) → (n : ℕ) (xs : List A) → AllFrom P n xs → AllFrom Q n xs
AllFrom-map P Q f n [] h = tt
AllFrom-map P Q f n (x ∷ xs) h = (f n x h.0, AllFrom-map P Q f (suc n) xs h.1)

pub AllFrom-set : {A : Type 0} (P : ℕ → A → Type 0) (n : ℕ) (xs : List A) (p : ℕ) (y : A) → AllFrom P n xs → ((k : ℕ) → k ≡ n + p → P k y) → AllFrom P n (slice_set xs p y)
AllFrom-set P n [] p y h j = tt
AllFrom-set P n (x ∷ xs) zero y h j = (j n (omega arith), h.1)
AllFrom-set P n (x ∷ xs) (suc p) y h j = (h.0, AllFrom-set P (suc n) xs p y h.1 (λ k e. j k (omega arith)))

pub AllFrom-at : {A : Type 0} (P : ℕ → A → Type 0) (n : ℕ) (xs : List A) (p : ℕ) (d : A) → AllFrom P n xs → ((k : ℕ) → P k d) → (k : ℕ) → k ≡ n + p → P k (option_or d (slice_get xs p))
AllFrom-at P n [] p d h j k e = j k
AllFrom-at P n (x ∷ xs) zero d h j k e = let same : n ≡ k = omega arith in subst (λ i. P i x) same h.0
AllFrom-at P n (x ∷ xs) (suc p) d h j k e = AllFrom-at P (suc n) xs p d h.1 j k (omega arith)

pub AllFrom-get : {A : Type 0} (P : ℕ → A → Type 0) (n : ℕ) (xs : List A) (p : ℕ) (x : A) → AllFrom P n xs → slice_get xs p ≡ Some x → (k : ℕ) → k ≡ n + p → P k x
AllFrom-get P n [] p x h e k i = absurd (cc)
AllFrom-get P n (y ∷ ys) zero x h e k i = let same : n ≡ k = omega arith in let is : y ≡ x = cc in subst₂ P same is h.0
AllFrom-get P n (y ∷ ys) (suc p) x h e k i = AllFrom-get P (suc n) ys p x h.1 e k (omega arith)

-- what follows at each place
pub AllFrom-got : {A : Type 0} (P Q : ℕ → A → Type 0) (n : ℕ) (xs : List A) → ((k : ℕ) (x : A) → slice_get xs k ≡ Some x → P (n + k) x → Q (n + k) x) → AllFrom P n xs → AllFrom Q n xs
AllFrom-got P Q n [] f h = tt
AllFrom-got P Q n (x ∷ xs) f h = (
  (let at : n + 0 ≡ n = omega arith in subst (λ (i : ℕ). Q i x) at (f 0 x refl (subst (λ (i : ℕ). P i x) (sym at) h.0))),
  AllFrom-got P Q (suc n) xs (λ k y e j. let at : n + suc k ≡ suc n + k = omega arith in subst (λ (i : ℕ). Q i y) at (f (suc k) y e (subst (λ (i : ℕ). P i y) (sym at) j))) h.1,
)

-- one place changes, and the others keep what they have
pub AllFrom-others : {A : Type 0} (P Q : ℕ → A → Type 0) (n : ℕ) (xs : List A) (p : ℕ) (y : A) → ((k : ℕ) (x : A) → slice_get xs k ≡ Some x → (k ≡ p → ⊥) → P (n + k) x → Q (n + k) x) → ((k : ℕ) → Q k y) → AllFrom P n xs → AllFrom Q n (slice_set xs p y)
AllFrom-others P Q n [] p y f g h = tt
AllFrom-others P Q n (x ∷ xs) zero y f g h =
    (g n, AllFrom-got P Q (suc n) xs (λ k z e j. let at : n + suc k ≡ suc n + k = omega arith in subst (λ (i : ℕ). Q i z) at (f (suc k) z e (λ (i : suc k ≡ 0). absurd (omega arith)) (subst (λ (i : ℕ). P i z) (sym at) j))) h.1)
AllFrom-others P Q n (x ∷ xs) (suc p) y f g h = (
  (let at : n + 0 ≡ n = omega arith in subst (λ (i : ℕ). Q i x) at (f 0 x refl (λ (i : 0 ≡ suc p). absurd (omega arith)) (subst (λ (i : ℕ). P i x) (sym at) h.0))),
  AllFrom-others P Q (suc n) xs p y (λ k z e ne j. let at : n + suc k ≡ suc n + k = omega arith in subst (λ (i : ℕ). Q i z) at (f (suc k) z e (λ (i : suc k ≡ suc p). ne (omega arith)) (subst (λ (i : ℕ). P i z) (sym at) j))) g h.1,
)

pub AllFrom-of : {A : Type 0} (P : A → Type 0) (Q : ℕ → A → Type 0) → ((k : ℕ) (x : A) → P x → Q k x) → (n : ℕ) (xs : List A) → AllByRecursion P xs → AllFrom Q n xs
AllFrom-of P Q f n [] h = tt
AllFrom-of P Q f n (x ∷ xs) h = (f n x h.0, AllFrom-of P Q f (suc n) xs h.1)

pub AllFrom-zip : {A : Type 0} (P : ℕ → A → Type 0) (Q : A → Type 0) (n : ℕ) (xs : List A) → AllFrom P n xs → AllByRecursion Q xs → AllFrom (λ k x. P k x × Q x) n xs
AllFrom-zip P Q n [] h j = tt
AllFrom-zip P Q n (x ∷ xs) h j = ((h.0, j.0), AllFrom-zip P Q (suc n) xs h.1 j.1)

pub AllFrom-each : {A : Type 0} (P : ℕ → A → Type 0) (Q : A → Type 0) → ((k : ℕ) (x : A) → P k x → Q x) → (n : ℕ) (xs : List A) → AllFrom P n xs → AllByRecursion Q xs
AllFrom-each P Q f n [] h = tt
AllFrom-each P Q f n (x ∷ xs) h = (f n x h.0, AllFrom-each P Q f (suc n) xs h.1)

pub count-set : {A : Type 0} (t : A → Bool) (xs : List A) (p : ℕ) (y : A) → count t (slice_set xs p y) ≤ count t xs + one (t y)
count-set t [] p y = omega arith
count-set t (x ∷ xs) zero y = omega arith
count-set t (x ∷ xs) (suc p) y = let ih : count t (slice_set xs p y) ≤ count t xs + one (t y) = count-set t xs p y in omega arith

pub count-set_same : {A : Type 0} (t : A → Bool) (xs : List A) (p : ℕ) (d y : A) → t y ≡ t (option_or d (slice_get xs p)) → count t (slice_set xs p y) ≡ count t xs
count-set_same t [] p d y e = refl
count-set_same t (x ∷ xs) zero d y e = ap (λ b. one b + count t xs) e
count-set_same t (x ∷ xs) (suc p) d y e = ap (λ n. one (t x) + n) (count-set_same t xs p d y e)

pub count-put : {A : Type 0} (t : A → Bool) (cmp : A → A → Ordering) (y : A) (xs : List A) → count t (put_rising cmp y xs) ≤ count t xs + one (t y)
count-put t cmp y [] = omega arith
count-put t cmp y (x ∷ xs) =
    let ih : count t (put_rising cmp y xs) ≤ count t xs + one (t y) = count-put t cmp y xs in
    elim (cmp y x) as (λ o. count t (match_ordering o (y ∷ x ∷ xs) (y ∷ xs) (x ∷ put_rising cmp y xs)) ≤ one (t x) + count t xs + one (t y))
    [ Less ↦ omega arith | Equal ↦ omega arith | Greater ↦ omega arith ]

pub one-most : (b : Bool) → one b ≤ 1
one-most true = omega arith
one-most false = omega arith

pub count-none : {A : Type 0} (t : A → Bool) (xs : List A) → AllByRecursion (λ x. t x ≡ false) xs → count t xs ≡ 0
count-none t [] h = refl
count-none t (x ∷ xs) h = let ih : count t xs ≡ 0 = count-none t xs h.1 in let e : one (t x) ≡ 0 = ap one h.0 in omega arith

one-of : {A : Type 0} (t : A → Bool) (xs : List A) (p : ℕ) (x : A) → slice_get xs p ≡ Some x → t x ≡ true → 1 ≤ count t xs
one-of t [] p x e h = absurd (cc)
one-of t (y ∷ ys) zero x e h = let is : y ≡ x = cc in let bit : one (t y) ≡ 1 = ap (λ z. one (t z)) is ∙ ap one h in omega arith
one-of t (y ∷ ys) (suc p) x e h = let ih : 1 ≤ count t ys = one-of t ys p x e h in omega arith

-- two places that pass are one
pub same-place : {A : Type 0} (t : A → Bool) (xs : List A) (p q : ℕ) (x y : A) → count t xs ≤ 1 → slice_get xs p ≡ Some x → t x ≡ true → slice_get xs q ≡ Some y → t y ≡ true → p ≡ q
same-place t [] p q x y c e h d k = absurd (cc)
same-place t (z ∷ zs) zero zero x y c e h d k = refl
same-place t (z ∷ zs) zero (suc q) x y c e h d k = let is : z ≡ x = cc in let bit : one (t z) ≡ 1 = ap (λ w. one (t w)) is ∙ ap one h in let more : 1 ≤ count t zs = one-of t zs q y d k in absurd (omega arith)
same-place t (z ∷ zs) (suc p) zero x y c e h d k = let is : z ≡ y = cc in let bit : one (t z) ≡ 1 = ap (λ w. one (t w)) is ∙ ap one k in let more : 1 ≤ count t zs = one-of t zs p x e h in absurd (omega arith)
same-place t (z ∷ zs) (suc p) (suc q) x y c e h d k = ap suc (same-place t zs p q x y (omega arith) e h d k)

pub IfSome-map : {A : Type 0} (P Q : A → Type 0) → ((x : A) → P x → Q x) → (o : Option A) → IfSome o P → IfSome o Q
IfSome-map P Q f None h = tt
IfSome-map P Q f (Some x) h = f x h
