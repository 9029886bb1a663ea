-- Plain tokens as sets: what is made of a test has the numbers that pass it, and a canonical one is made of its set.
use Rattle.std.specs.Prelude.{◌≡◌, ℕ, zero, suc, ◌+◌, ◌<◌, ◌≤◌, Bool, true, false, not, ◌&&◌, ◌||◌, List, [], ◌∷◌, filter, nat_lt, nat_le, ◌==◌, if◌then◌else◌}
use Rattle.std.specs.List.{list_all}
use Rattle.std.proofs.Common.{refl, ap, sym, ◌∙◌, arith}
use Rattle.std.proofs.lemmas.Bool.Decides.{nat_tests}
use borrow.Author.Tests.{ltb-true, ltb-false, eqb-true, eqb-false, eq-eqb, lt-ltb, le-ltb}
use Rattle.ax_laws.proofs.Tests.{and-left, and-right}
use Rattle.ax_values.specs.Words.{rises}
use Rattle.ax_tokens.specs.Plain.{Plain, is_canonical_plain, has, contains, numbers_from, below, end_of, plain_of}

pub contains-filter-numbers : (f : ℕ → Bool) (k n i : ℕ) → contains (filter f (numbers_from k n)) i ≡ ((nat_le k i && nat_lt i (k + n)) && f i)
contains-filter-numbers f k zero i = grind (arith, nat_tests)
contains-filter-numbers f k (suc n) i = at (f k) refl (k == i) refl (contains-filter-numbers f (suc k) n i)
  where
    at : (b : Bool) → f k ≡ b → (c : Bool) → (k == i) ≡ c → contains (filter f (numbers_from (suc k) n)) i ≡ ((nat_le (suc k) i && nat_lt i (suc k + n)) && f i)
        → contains (if b then k ∷ filter f (numbers_from (suc k) n) else filter f (numbers_from (suc k) n)) i ≡ ((nat_le k i && nat_lt i (k + suc n)) && f i)
    at true e true d ih = let same : k ≡ i = eqb-true k i d in rw (← same) (rw (e, eq-eqb k k refl) (grind (arith, nat_tests)))
    at true e false d ih = rw (d, ih) (let apart : k ≡ i → ⊥ = eqb-false k i d in grind (arith, nat_tests))
    at false e true d ih = let same : k ≡ i = eqb-true k i d in ih ∙ rw (← same) (rw e (grind (arith, nat_tests)))
    at false e false d ih = ih ∙ (let apart : k ≡ i → ⊥ = eqb-false k i d in grind (arith, nat_tests))

pub contains-filter-below : (f : ℕ → Bool) (n i : ℕ) → contains (filter f (below n)) i ≡ (nat_lt i n && f i)
contains-filter-below f n i = contains-filter-numbers f 0 n i ∙ grind (arith, nat_tests)

-- from its end on, no number below n passes
pub end_of-last : (test : ℕ → Bool) (n i : ℕ) → i < n → end_of test n ≤ i → test i ≡ false
end_of-last test zero i h k = absurd (omega arith)
end_of-last test (suc n) i h k = at (test n) refl k (λ lt j. end_of-last test n i lt j)
  where
    last : test n ≡ false → (i < n → test i ≡ false) → (c : Bool) → (i == n) ≡ c → test i ≡ false
    last e again true d = rw (eqb-true i n d) e
    last e again false d = again (omega (arith, eqb-false i n d))

    at : (b : Bool) → test n ≡ b → (if b then suc n else end_of test n) ≤ i → (i < n → end_of test n ≤ i → test i ≡ false) → test i ≡ false
    at true e j again = absurd (omega arith)
    at false e j again = last e (λ lt. again lt j) (i == n) refl

end_of-le : (test : ℕ → Bool) (n : ℕ) → end_of test n ≤ n
end_of-le test zero = omega arith
end_of-le test (suc n) =
    elim (test n) as (λ b. (if b then suc n else end_of test n) ≤ suc n) [ true ↦ omega arith | false ↦ (let h : end_of test n ≤ n = end_of-le test n in omega arith) ]

not-not : (t : Bool) → not (not t) ≡ t
not-not true = refl
not-not false = refl

-- a plain token made of a test has the numbers that pass it
pub has-plain_of : (test : ℕ → Bool) (n i : ℕ) → i < n → has (plain_of test n) i ≡ test i
has-plain_of test n i h = ap (λ b. nat_lt i (end_of test n) && not b) (contains-filter-below (λ j. not (test j)) (end_of test n) i) ∙ at (nat_lt i (end_of test n)) refl
  where
    at : (b : Bool) → nat_lt i (end_of test n) ≡ b → (b && not (b && not (test i))) ≡ test i
    at true e = not-not (test i)
    at false e = sym (end_of-last test n i h (ltb-false i (end_of test n) e))

-- and none from the bound on
pub has-plain_of-beyond : (test : ℕ → Bool) (n i : ℕ) → n ≤ i → has (plain_of test n) i ≡ false
has-plain_of-beyond test n i h = at (nat_lt i (end_of test n)) refl
  where
    at : (b : Bool) → nat_lt i (end_of test n) ≡ b → (b && not (contains (plain_of test n).gaps i)) ≡ false
    at true e = absurd (omega (arith, ltb-true i (end_of test n) e, end_of-le test n))
    at false e = refl

-- ---- a canonical plain token is made of its set

-- what stands just below k
abbrev EndsAt : (ℕ → Bool) → ℕ → Type 0
EndsAt test zero = Unit {0}
EndsAt test (suc j) = test j ≡ true

end_of-step : (test : ℕ → Bool) (n k : ℕ) (b : Bool) → test n ≡ b → (c : Bool) → (k == suc n) ≡ c → k ≤ suc n → EndsAt test k → ((i : ℕ) → k ≤ i → i < suc n → test i ≡ false)
    → (k ≤ n → end_of test n ≡ k) → (if b then suc n else end_of test n) ≡ k
end_of-step test n k true t true d h e g again = sym (eqb-true k (suc n) d)
end_of-step test n k true t false d h e g again =
    let fails : test n ≡ false = g n (omega (arith, eqb-false k (suc n) d)) (omega arith) in
    absurd (cc)
end_of-step test n k false t true d h e g again =
    let passes : EndsAt test (suc n) = rw (eqb-true k (suc n) d) at e in
    absurd (cc)
end_of-step test n k false t false d h e g again = again (omega (arith, eqb-false k (suc n) d))

end_of-is : (test : ℕ → Bool) (n k : ℕ) → k ≤ n → EndsAt test k → ((i : ℕ) → k ≤ i → i < n → test i ≡ false) → end_of test n ≡ k
end_of-is test zero k h e g = omega arith
end_of-is test (suc n) k h e g = end_of-step test n k (test n) refl (k == suc n) refl h e g (λ j. end_of-is test n k j e (λ i low lt. g i low (omega arith)))

or-true : (a b : Bool) → (a || b) ≡ true → (a ≡ false → b ≡ true)
or-true true b e f = absurd (cc)
or-true false b e f = e

-- what a rising list has is above what stands before it
pub above-first : (x : ℕ) (xs : List ℕ) → rises nat_lt (x ∷ xs) ≡ true → (i : ℕ) → contains xs i ≡ true → x < i
above-first x [] r i e = absurd (cc)
above-first x (y ∷ ys) r i e = at (y == i) refl (above-first y ys (and-right _ _ r) i)
  where
    lower : x < y
    lower = ltb-true x y (and-left _ _ r)

    at : (c : Bool) → (y == i) ≡ c → (contains ys i ≡ true → y < i) → x < i
    at true d again = let same : y ≡ i = eqb-true y i d in omega (arith, lower)
    at false d again = let later : y < i = again (or-true (y == i) (contains ys i) e d) in omega (arith, lower)

self : (x : ℕ) (xs : List ℕ) → contains (x ∷ xs) x ≡ true
self x xs = ap (λ b. b || contains xs x) (eq-eqb x x refl)

pub tail-rises : (x : ℕ) (xs : List ℕ) → rises nat_lt (x ∷ xs) ≡ true → rises nat_lt xs ≡ true
tail-rises x [] r = refl
tail-rises x (y ∷ ys) r = and-right _ _ r

-- the first of one list is not below that of another with the same numbers
not-below : (x : ℕ) (xs : List ℕ) (y : ℕ) (ys : List ℕ) → rises nat_lt (y ∷ ys) ≡ true → ((i : ℕ) → contains (x ∷ xs) i ≡ contains (y ∷ ys) i) → y ≤ x
not-below x xs y ys r same = at (y == x) refl
  where
    there : contains (y ∷ ys) x ≡ true
    there = sym (same x) ∙ self x xs

    at : (c : Bool) → (y == x) ≡ c → y ≤ x
    at true d = omega (arith, eqb-true y x d)
    at false d = let later : y < x = above-first y ys r x (or-true (y == x) (contains ys x) there d) in omega arith

-- two rising lists with the same numbers are one
pub rising-same : (xs ys : List ℕ) → rises nat_lt xs ≡ true → rises nat_lt ys ≡ true → ((i : ℕ) → contains xs i ≡ contains ys i) → xs ≡ ys
rising-same [] [] r s same = refl
rising-same [] (y ∷ ys) r s same = let e : false ≡ true = same y ∙ self y ys in absurd (cc)
rising-same (x ∷ xs) [] r s same = let e : false ≡ true = sym (same x) ∙ self x xs in absurd (cc)
rising-same (x ∷ xs) (y ∷ ys) r s same = cons (rising-same xs ys (tail-rises x xs r) (tail-rises y ys s) tails)
  where
    heads : x ≡ y
    heads = let low : y ≤ x = not-below x xs y ys s same in let high : x ≤ y = not-below y ys x xs r (λ i. sym (same i)) in omega arith

    not_there : (z : ℕ) (zs : List ℕ) → rises nat_lt (z ∷ zs) ≡ true → (b : Bool) → contains zs z ≡ b → b ≡ false
    not_there z zs q true e = let lt : z < z = above-first z zs q z e in absurd (omega arith)
    not_there z zs q false e = refl

    tails_at : (i : ℕ) (c : Bool) → (x == i) ≡ c → contains xs i ≡ contains ys i
    tails_at i true d =
        let is : x ≡ i = eqb-true x i d in
        rw (← is) (not_there x xs r (contains xs x) refl ∙ sym (rw heads (not_there y ys s (contains ys y) refl)))
    tails_at i false d =
        let other : (y == i) ≡ false = rw (← heads) d in
        let e : ((x == i) || contains xs i) ≡ ((y == i) || contains ys i) = same i in
        rw (d, other) at e

    tails : (i : ℕ) → contains xs i ≡ contains ys i
    tails i = tails_at i (x == i) refl

    cons : xs ≡ ys → x ∷ xs ≡ y ∷ ys
    cons e = cc (heads)

pub rises-cons : (x : ℕ) (xs : List ℕ) → ((i : ℕ) → contains xs i ≡ true → x < i) → rises nat_lt xs ≡ true → rises nat_lt (x ∷ xs) ≡ true
rises-cons x [] low r = refl
rises-cons x (y ∷ ys) low r = ap (λ b. b && rises nat_lt (y ∷ ys)) (lt-ltb x y (low y (self y ys))) ∙ r

pub rises-numbers : (f : ℕ → Bool) (k n : ℕ) → rises nat_lt (filter f (numbers_from k n)) ≡ true
rises-numbers f k zero = refl
rises-numbers f k (suc n) = at (f k) (rises-numbers f (suc k) n)
  where
    above : (i : ℕ) → contains (filter f (numbers_from (suc k) n)) i ≡ true → k < i
    above i e =
        let within : ((nat_le (suc k) i && nat_lt i (suc k + n)) && f i) ≡ true = sym (contains-filter-numbers f (suc k) n i) ∙ e in
        let low : nat_le (suc k) i ≡ true = and-left _ _ (and-left _ _ within) in
        grind (arith, nat_tests, low)

    at : (b : Bool) → rises nat_lt (filter f (numbers_from (suc k) n)) ≡ true → rises nat_lt (if b then k ∷ filter f (numbers_from (suc k) n) else filter f (numbers_from (suc k) n)) ≡ true
    at true ih = rises-cons k _ above ih
    at false ih = ih

-- a gap lies below the number before next
pub gaps-below : (n : ℕ) (gs : List ℕ) (i : ℕ) → list_all (λ g. nat_lt (suc g) n) gs ≡ true → contains gs i ≡ true → suc i < n
gaps-below n [] i h e = absurd (cc)
gaps-below n (g ∷ gs) i h e = at (g == i) refl (gaps-below n gs i (and-right _ _ h))
  where
    at : (c : Bool) → (g == i) ≡ c → (contains gs i ≡ true → suc i < n) → suc i < n
    at true d again = let same : g ≡ i = eqb-true g i d in rw (← same) (ltb-true (suc g) n (and-left _ _ h))
    at false d again = again (or-true (g == i) (contains gs i) e d)

-- what is canonical is made of its set
pub plain_of-canonical : (test : ℕ → Bool) (n : ℕ) (p : Plain) → is_canonical_plain p ≡ true → p.next ≤ n → ((i : ℕ) → i < n → has p i ≡ test i) → plain_of test n ≡ p
plain_of-canonical test n p h bound same = λ k. record { next = nexts k; gaps = gaps k }
  where
    below_next : list_all (λ g. nat_lt (suc g) p.next) p.gaps ≡ true
    below_next = and-right (rises nat_lt p.gaps) (list_all (λ g. nat_lt (suc g) p.next) p.gaps) h

    no_gap_at : (i : ℕ) → p.next ≤ suc i → (b : Bool) → contains p.gaps i ≡ b → b ≡ false
    no_gap_at i j true e = let lt : suc i < p.next = gaps-below p.next p.gaps i below_next e in absurd (omega arith)
    no_gap_at i j false e = refl

    no_gap : (i : ℕ) → p.next ≤ suc i → contains p.gaps i ≡ false
    no_gap i j = no_gap_at i j (contains p.gaps i) refl

    ends : (k : ℕ) → k ≡ p.next → EndsAt test k
    ends zero e = tt
    ends (suc j) e =
        let low : nat_lt j p.next ≡ true = lt-ltb j p.next (omega arith) in
        let free : contains p.gaps j ≡ false = no_gap j (omega arith) in
        sym (same j (omega arith)) ∙ rw (low, free)

    past : (i : ℕ) → p.next ≤ i → i < n → test i ≡ false
    past i j lt = let high : nat_lt i p.next ≡ false = le-ltb i p.next j in sym (same i lt) ∙ rw high

    nexts : end_of test n ≡ p.next
    nexts = end_of-is test n p.next bound (ends p.next refl) past

    member_at : (i : ℕ) (b : Bool) → nat_lt i p.next ≡ b → (b && not (test i)) ≡ contains p.gaps i
    member_at i true u =
        let lt : i < p.next = ltb-true i p.next u in
        let there : (nat_lt i p.next && not (contains p.gaps i)) ≡ test i = same i (omega arith) in
        ap not (sym (rw u at there)) ∙ not-not (contains p.gaps i)
    member_at i false u = let ge : p.next ≤ i = ltb-false i p.next u in sym (no_gap i (omega arith))

    member : (i : ℕ) → contains (filter (λ j. not (test j)) (below (end_of test n))) i ≡ contains p.gaps i
    member i = contains-filter-below (λ j. not (test j)) (end_of test n) i ∙ (ap (λ k. nat_lt i k && not (test i)) nexts ∙ member_at i (nat_lt i p.next) refl)

    gaps : filter (λ i. not (test i)) (below (end_of test n)) ≡ p.gaps
    gaps = rising-same (filter (λ i. not (test i)) (below (end_of test n))) p.gaps (rises-numbers (λ i. not (test i)) 0 (end_of test n)) (and-left (rises nat_lt p.gaps) (list_all (λ g. nat_lt (suc g) p.next) p.gaps) h) member
