-- Lists: tests of all their parts, filters and fronts.
use Rattle.std.proofs.Common.{◌≡◌, ◌≤◌, ℕ, zero, suc, Bool, true, false, not, List, [], ◌∷◌, ◌++◌, length, map, take, Some, refl, ap, ◌∙◌, arith}
use Rattle.std.specs.Prelude.{filter, slice_get, if◌then◌else◌}
use Rattle.std.specs.List.{list_all}
use Rattle.ax_laws.proofs.Tests.{both, and-true, not-true}

pub none-left : {A : Type 0} (xs : List A) → length xs ≡ 0 → xs ≡ []
none-left [] h = refl
none-left (x ∷ xs) h = absurd (omega (arith, h))

pub append-none : {A : Type 0} (xs : List A) → xs ++ [] ≡ xs
append-none [] = refl
append-none (x ∷ xs) = ap (λ ys. x ∷ ys) (append-none xs)

pub take-front : {A : Type 0} (xs ys : List A) → take (length xs) (xs ++ ys) ≡ xs
take-front [] ys = refl
take-front (x ∷ xs) ys = ap (λ zs. x ∷ zs) (take-front xs ys)

pub map-same : {A B : Type 0} (f g : A → B) → ((x : A) → f x ≡ g x) → (xs : List A) → map f xs ≡ map g xs
map-same f g same [] = refl
map-same f g same (x ∷ xs) = ap (λ y. y ∷ map f xs) (same x) ∙ ap (λ ys. g x ∷ ys) (map-same f g same xs)

-- ---- a test of all

pub all-append : {A : Type 0} (test : A → Bool) (xs ys : List A) → list_all test xs ≡ true → list_all test ys ≡ true → list_all test (xs ++ ys) ≡ true
all-append test [] ys p q = q
all-append test (x ∷ xs) ys p q =
    let k = both (test x) (list_all test xs) p in and-true (test x) (list_all test (xs ++ ys)) k.0 (all-append test xs ys k.1 q)

-- one more at the end
pub all-more : {A : Type 0} (test : A → Bool) (xs : List A) (x : A) → list_all test xs ≡ true → test x ≡ true → list_all test (xs ++ x ∷ []) ≡ true
all-more test xs x p q = all-append test xs (x ∷ []) p (and-true (test x) true q refl)

-- what stands at a place passes
pub all-at : {A : Type 0} (test : A → Bool) (xs : List A) (n : ℕ) (x : A) → list_all test xs ≡ true → slice_get xs n ≡ Some x → test x ≡ true
all-at test [] n x p h = cc
all-at test (y ∷ ys) zero x p h = let same : x ≡ y = cc in ap test same ∙ (both (test y) (list_all test ys) p).0
all-at test (y ∷ ys) (suc n) x p h = all-at test ys n x (both (test y) (list_all test ys) p).1 h

pub all-filter : {A : Type 0} (test passes : A → Bool) (xs : List A) → list_all test xs ≡ true → list_all test (filter passes xs) ≡ true
all-filter test passes [] p = refl
all-filter test passes (x ∷ xs) p =
    let k = both (test x) (list_all test xs) p in at (passes x) k.0 (all-filter test passes xs k.1)
  where
    at : (b : Bool) → test x ≡ true → list_all test (filter passes xs) ≡ true → list_all test (if b then x ∷ filter passes xs else filter passes xs) ≡ true
    at true q rest = and-true (test x) (list_all test (filter passes xs)) q rest
    at false q rest = rest

-- ---- filters

pub length-filter : {A : Type 0} (test : A → Bool) (xs : List A) → length (filter test xs) ≤ length xs
length-filter test [] = omega arith
length-filter test (x ∷ xs) = at (test x) (length-filter test xs)
  where
    at : (b : Bool) → length (filter test xs) ≤ length xs → length (if b then x ∷ filter test xs else filter test xs) ≤ length (x ∷ xs)
    at true h = omega (arith, h)
    at false h = omega (arith, h)

-- where none passes, nothing is left
pub none-pass : {A : Type 0} (test : A → Bool) (xs : List A) → list_all not (map test xs) ≡ true → filter test xs ≡ []
none-pass test [] h = refl
none-pass test (x ∷ xs) h =
    let k = both (not (test x)) (list_all not (map test xs)) h in at (test x) (not-true (test x) k.0) (none-pass test xs k.1)
  where
    at : (b : Bool) → b ≡ false → filter test xs ≡ [] → (if b then x ∷ filter test xs else filter test xs) ≡ []
    at true e rest = cc
    at false e rest = rest
