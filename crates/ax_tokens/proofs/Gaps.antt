-- What filters and walks along rising gaps make of plain tokens.
use Rattle.std.specs.Prelude.{◌≡◌, ℕ, zero, suc, ◌+◌, ◌<◌, ◌≤◌, Bool, true, false, not, ◌&&◌, ◌||◌, List, [], ◌∷◌, ◌++◌, length, filter, max, nat_lt, nat_le, ◌==◌, if◌then◌else◌, IsTrue}
use Rattle.std.specs.List.{list_all}
use Rattle.std.proofs.Common.{refl, ap, sym, ◌∙◌, arith, take, get_or, Result, Ok, Err}
use Rattle.std.specs.Result.{MatchResult, is_err}
use Rattle.std.specs.List.Sorted.{IsBinarySearchResult}
use Rattle.std.specs.Ordering.{nat_cmp}
use Rattle.std.proofs.lemmas.List.Sorted.{searched}
use Rattle.std.proofs.lemmas.Bool.Decides.{nat_tests}
use Rattle.std.proofs.lemmas.List.Elements.{filter-append}
use borrow.Author.Tests.{ltb-true, ltb-false, eqb-true, lt-ltb, le-ltb}
use Rattle.ax_values.specs.Words.{rises}
use Rattle.ax_values.specs.declared.cell.Cell.{Cell}
use Rattle.ax_laws.proofs.Tests.{and-left, and-right, and-true, and-false, or-swap, not-true, apart, same-bool}
use Rattle.ax_laws.proofs.Lists.{all-filter}
use Rattle.ax_log.specs.Log.{is_settled}
use Rattle.ax_tokens.specs.Plain.{Plain, is_canonical_plain, has, contains, numbers_from, below, end_of, plain_of, union, advanced_plain, includes, settles}
use Rattle.ax_tokens.specs.Outside.{from, begins_with}
use Rattle.ax_tokens.proofs.Sets.{above-first, tail-rises, rises-cons, rises-numbers, gaps-below, contains-filter-below, has-plain_of, has-plain_of-beyond, plain_of-canonical}

not-and : (c m : Bool) → not (c && not m) ≡ (not c || m)
not-and true true = refl
not-and true false = refl
not-and false m = refl

-- ---- lists

pub contains-filter : (f : ℕ → Bool) (xs : List ℕ) (i : ℕ) → contains (filter f xs) i ≡ (contains xs i && f i)
contains-filter f [] i = refl
contains-filter f (x ∷ xs) i = at (f x) refl (x == i) refl (contains-filter f xs i)
  where
    at : (b : Bool) → f x ≡ b → (c : Bool) → (x == i) ≡ c → contains (filter f xs) i ≡ (contains xs i && f i)
        → contains (if b then x ∷ filter f xs else filter f xs) i ≡ (((x == i) || contains xs i) && f i)
    at true e true d ih = let same : x ≡ i = eqb-true x i d in rw d (sym e ∙ ap f same)
    at true e false d ih = rw d ih
    at false e true d ih =
        let same : x ≡ i = eqb-true x i d in
        let fails : f i ≡ false = sym (ap f same) ∙ e in
        ih ∙ rw (d, fails) (and-false (contains xs i))
    at false e false d ih = rw d ih

pub rises-filter : (f : ℕ → Bool) (xs : List ℕ) → rises nat_lt xs ≡ true → rises nat_lt (filter f xs) ≡ true
rises-filter f [] r = refl
rises-filter f (x ∷ xs) r = at (f x) (rises-filter f xs (tail-rises x xs r))
  where
    above : (i : ℕ) → contains (filter f xs) i ≡ true → x < i
    above i e = above-first x xs r i (and-left _ _ (sym (contains-filter f xs i) ∙ e))

    at : (b : Bool) → rises nat_lt (filter f xs) ≡ true → rises nat_lt (if b then x ∷ filter f xs else filter f xs) ≡ true
    at true ih = rises-cons x _ above ih
    at false ih = ih

-- a test of all parts, by what the list contains
pub all-contained : (t : ℕ → Bool) (xs : List ℕ) → ((i : ℕ) → contains xs i ≡ true → t i ≡ true) → list_all t xs ≡ true
all-contained t [] h = refl
all-contained t (x ∷ xs) h = and-true (t x) (list_all t xs) (h x here) (all-contained t xs (λ i e. h i (later i e)))
  where
    here : contains (x ∷ xs) x ≡ true
    here = grind (arith, nat_tests)

    later : (i : ℕ) → contains xs i ≡ true → contains (x ∷ xs) i ≡ true
    later i e = at (x == i)
      where
        at : (b : Bool) → (b || contains xs i) ≡ true
        at true = refl
        at false = e

pub contained-all : (t : ℕ → Bool) (xs : List ℕ) (i : ℕ) → list_all t xs ≡ true → contains xs i ≡ true → t i ≡ true
contained-all t [] i h e = absurd (cc)
contained-all t (x ∷ xs) i h e = at (x == i) refl e (contained-all t xs i (and-right (t x) (list_all t xs) h))
  where
    at : (b : Bool) → (x == i) ≡ b → (b || contains xs i) ≡ true → (contains xs i ≡ true → t i ≡ true) → t i ≡ true
    at true d k again = let same : x ≡ i = eqb-true x i d in sym (ap t same) ∙ and-left (t x) (list_all t xs) h
    at false d k again = again k

-- ---- what is canonical

pub canonical-rises : (p : Plain) → is_canonical_plain p ≡ true → rises nat_lt p.gaps ≡ true
canonical-rises p h = and-left (rises nat_lt p.gaps) (list_all (λ g. nat_lt (suc g) p.next) p.gaps) h

pub canonical-below : (p : Plain) → is_canonical_plain p ≡ true → list_all (λ g. nat_lt (suc g) p.next) p.gaps ≡ true
canonical-below p h = and-right (rises nat_lt p.gaps) (list_all (λ g. nat_lt (suc g) p.next) p.gaps) h

canonical-filter : (f : ℕ → Bool) (p : Plain) → is_canonical_plain p ≡ true → is_canonical_plain (record { next = p.next; gaps = filter f p.gaps }) ≡ true
canonical-filter f p h =
    and-true (rises nat_lt (filter f p.gaps)) (list_all (λ g. nat_lt (suc g) p.next) (filter f p.gaps))
    (rises-filter f p.gaps (canonical-rises p h))
    (all-filter (λ g. nat_lt (suc g) p.next) f p.gaps (canonical-below p h))

-- the number before the end passes
end_of-passes : (test : ℕ → Bool) (n j : ℕ) → end_of test n ≡ suc j → test j ≡ true
end_of-passes test zero j e = absurd (omega arith)
end_of-passes test (suc n) j e = at (test n) refl e (end_of-passes test n j)
  where
    at : (b : Bool) → test n ≡ b → (if b then suc n else end_of test n) ≡ suc j → (end_of test n ≡ suc j → test j ≡ true) → test j ≡ true
    at true t k again = let same : n ≡ j = omega arith in sym (ap test same) ∙ t
    at false t k again = again k

pub canonical-plain_of : (test : ℕ → Bool) (n : ℕ) → is_canonical_plain (plain_of test n) ≡ true
canonical-plain_of test n =
    and-true (rises nat_lt gaps) (list_all (λ g. nat_lt (suc g) end) gaps) (rises-numbers (λ i. not (test i)) 0 end) (all-contained (λ g. nat_lt (suc g) end) gaps low)
  where
    end : ℕ
    end = end_of test n

    gaps : List ℕ
    gaps = filter (λ i. not (test i)) (below (end_of test n))

    low : (i : ℕ) → contains (filter (λ i. not (test i)) (below (end_of test n))) i ≡ true → nat_lt (suc i) (end_of test n) ≡ true
    low i e = at (nat_lt (suc i) (end_of test n)) refl
      where
        within : (nat_lt i (end_of test n) && not (test i)) ≡ true
        within = sym (contains-filter-below (λ j. not (test j)) (end_of test n) i) ∙ e

        at : (b : Bool) → nat_lt (suc i) (end_of test n) ≡ b → b ≡ true
        at true d = refl
        at false d =
            let lt : i < end_of test n = ltb-true i (end_of test n) (and-left _ _ within) in
            let ge : end_of test n ≤ suc i = ltb-false (suc i) (end_of test n) d in
            let is : end_of test n ≡ suc i = omega arith in
            absurd (apart (test i) (end_of-passes test n i is) (not-true (test i) (and-right _ _ within)))

-- ---- a plain token with more

-- with more of what lies below its end, fewer gaps are left
pub grown : (test more : ℕ → Bool) (n : ℕ) (p : Plain) → is_canonical_plain p ≡ true → n ≡ p.next → ((i : ℕ) → test i ≡ (has p i || more i)) →
    plain_of test n ≡ record { next = p.next; gaps = filter (λ g. not (more g)) p.gaps }
grown test more n p h e same = plain_of-canonical test n (record { next = p.next; gaps = filter (λ g. not (more g)) p.gaps }) (canonical-filter (λ g. not (more g)) p h) (omega arith) sets
  where
    sets : (i : ℕ) → i < n → (nat_lt i p.next && not (contains (filter (λ g. not (more g)) p.gaps) i)) ≡ test i
    sets i lt =
        let low : nat_lt i p.next ≡ true = lt-ltb i p.next (omega arith) in
        ap (λ b. b && not (contains (filter (λ g. not (more g)) p.gaps) i)) low
        ∙ ap not (contains-filter (λ g. not (more g)) p.gaps i)
        ∙ not-and (contains p.gaps i) (more i)
        ∙ sym (same i ∙ ap (λ b. (b && not (contains p.gaps i)) || more i) low)

-- ---- unions

pub has-union : (p q : Plain) (i : ℕ) → has (union p q) i ≡ (has p i || has q i)
has-union p q i = at (nat_lt i (max p.next q.next)) refl
  where
    test : ℕ → Bool
    test j = has p j || has q j

    none : (x : ℕ) (gaps : List ℕ) → x ≤ i → (nat_lt i x && not (contains gaps i)) ≡ false
    none x gaps le = ap (λ b. b && not (contains gaps i)) (le-ltb i x le)

    at : (b : Bool) → nat_lt i (max p.next q.next) ≡ b → has (union p q) i ≡ (has p i || has q i)
    at true e = has-plain_of (λ j. has p j || has q j) (max p.next q.next) i (ltb-true i (max p.next q.next) e)
    at false e =
        let le : max p.next q.next ≤ i = ltb-false i (max p.next q.next) e in
        let first : has p i ≡ false = none p.next p.gaps (omega arith) in
        let second : has q i ≡ false = none q.next q.gaps (omega arith) in
        has-plain_of-beyond (λ j. has p j || has q j) (max p.next q.next) i le ∙ sym (ap (λ b. b || has q i) first ∙ second)

pub has-advanced : (cells : List Cell) (b : ℕ) (p : Plain) (i : ℕ) → has (advanced_plain cells b p) i ≡ (has p i || settles cells b i)
has-advanced cells b p i = at (nat_lt i (max p.next b)) refl
  where
    at : (c : Bool) → nat_lt i (max p.next b) ≡ c → has (advanced_plain cells b p) i ≡ (has p i || settles cells b i)
    at true e = has-plain_of (λ j. has p j || settles cells b j) (max p.next b) i (ltb-true i (max p.next b) e)
    at false e =
        let le : max p.next b ≤ i = ltb-false i (max p.next b) e in
        let first : has p i ≡ false = ap (λ c. c && not (contains p.gaps i)) (le-ltb i p.next (omega arith)) in
        let second : settles cells b i ≡ false = ap (λ c. c && is_settled cells i) (le-ltb i b (omega arith)) in
        has-plain_of-beyond (λ j. has p j || settles cells b j) (max p.next b) i le ∙ sym (ap (λ c. c || settles cells b i) first ∙ second)

pub canonical-union : (p q : Plain) → IsTrue (is_canonical_plain (union p q))
canonical-union p q = canonical-plain_of (λ i. has p i || has q i) (max p.next q.next)

pub union-with : (p q : Plain) → is_canonical_plain p ≡ true → q.next ≤ p.next → union p q ≡ record { next = p.next; gaps = filter (λ g. not (has q g)) p.gaps }
union-with p q h le = grown (λ i. has p i || has q i) (has q) (max p.next q.next) p h (omega arith) (λ i. refl)

pub union-swap : (p q : Plain) → union p q ≡ union q p
union-swap p q =
    let bounds : max p.next q.next ≡ max q.next p.next = omega arith in
    ap (plain_of (λ i. has p i || has q i)) bounds ∙ (λ k. plain_of (λ i. or-swap (has p i) (has q i) k) (max q.next p.next))

-- ---- the walk of two lists of gaps

-- the gaps that are no gaps of what is walked beside, or lie past its end
abbrev pub outside : ℕ → List ℕ → List ℕ → List ℕ
outside next rest [] = []
outside next rest (g ∷ gs) = if nat_le next g || begins_with g (from g rest) then g ∷ outside next (from g rest) gs else outside next (from g rest) gs

contains-from : (g : ℕ) (xs : List ℕ) (i : ℕ) → g ≤ i → contains (from g xs) i ≡ contains xs i
contains-from g [] i le = refl
contains-from g (x ∷ xs) i le = at (nat_lt x g) refl (contains-from g xs i le)
  where
    at : (b : Bool) → nat_lt x g ≡ b → contains (from g xs) i ≡ contains xs i → contains (if b then from g xs else x ∷ xs) i ≡ contains (x ∷ xs) i
    at true e later =
        let lt : x < g = ltb-true x g e in
        let other : (x == i) ≡ false = grind (arith, nat_tests) in
        later ∙ sym (ap (λ b. b || contains xs i) other)
    at false e later = refl

rises-from : (g : ℕ) (xs : List ℕ) → rises nat_lt xs ≡ true → rises nat_lt (from g xs) ≡ true
rises-from g [] r = refl
rises-from g (x ∷ xs) r = at (nat_lt x g) (rises-from g xs (tail-rises x xs r))
  where
    at : (b : Bool) → rises nat_lt (from g xs) ≡ true → rises nat_lt (if b then from g xs else x ∷ xs) ≡ true
    at true later = later
    at false later = r

begins-from : (g : ℕ) (xs : List ℕ) → rises nat_lt xs ≡ true → begins_with g (from g xs) ≡ contains xs g
begins-from g [] r = refl
begins-from g (x ∷ xs) r = at (nat_lt x g) refl (begins-from g xs (tail-rises x xs r))
  where
    none : (b : Bool) → contains xs g ≡ b → g ≤ x → b ≡ false
    none true e le = let above : x < g = above-first x xs r g e in absurd (omega arith)
    none false e le = refl

    or-none : (c : Bool) → contains xs g ≡ false → c ≡ (c || contains xs g)
    or-none true e = refl
    or-none false e = sym e

    at : (b : Bool) → nat_lt x g ≡ b → begins_with g (from g xs) ≡ contains xs g → begins_with g (if b then from g xs else x ∷ xs) ≡ contains (x ∷ xs) g
    at true e later =
        let lt : x < g = ltb-true x g e in
        let other : (x == g) ≡ false = grind (arith, nat_tests) in
        later ∙ sym (ap (λ b. b || contains xs g) other)
    at false e later = or-none (x == g) (none (contains xs g) refl (ltb-false x g e))

outside-test : (n g : ℕ) (c : Bool) → (nat_le n g || c) ≡ not (nat_lt g n && not c)
outside-test n g true = grind (arith, nat_tests)
outside-test n g false = grind (arith, nat_tests)

outside-by : (q : Plain) (gs rest : List ℕ) → rises nat_lt gs ≡ true → rises nat_lt rest ≡ true → ((i : ℕ) → contains gs i ≡ true → contains rest i ≡ contains q.gaps i) →
    outside q.next rest gs ≡ filter (λ g. not (has q g)) gs
outside-by q [] rest r s same = refl
outside-by q (g ∷ gs) rest r s same =
    ap (λ b. if b then g ∷ outside q.next (from g rest) gs else outside q.next (from g rest) gs) here
    ∙ ap (λ ys. if not (has q g) then g ∷ ys else ys) (outside-by q gs (from g rest) (tail-rises g gs r) (rises-from g rest s) behind)
  where
    first : contains (g ∷ gs) g ≡ true
    first = grind (arith, nat_tests)

    here : (nat_le q.next g || begins_with g (from g rest)) ≡ not (has q g)
    here = ap (λ b. nat_le q.next g || b) (begins-from g rest s ∙ same g first) ∙ outside-test q.next g (contains q.gaps g)

    behind : (i : ℕ) → contains gs i ≡ true → contains (from g rest) i ≡ contains q.gaps i
    behind i e =
        let above : g < i = above-first g gs r i e in
        let there : contains (g ∷ gs) i ≡ true = at (g == i) in
        contains-from g rest i (omega arith) ∙ same i there
      where
        at : (b : Bool) → (b || contains gs i) ≡ true
        at true = refl
        at false = e

pub outside-is : (q : Plain) (gs : List ℕ) → is_canonical_plain q ≡ true → rises nat_lt gs ≡ true → outside q.next q.gaps gs ≡ filter (λ g. not (has q g)) gs
outside-is q gs h r = outside-by q gs q.gaps r (canonical-rises q h) (λ i e. refl)

-- ---- what a set includes

pub included-at : (p q : Plain) (i : ℕ) → includes p q ≡ true → has q i ≡ true → has p i ≡ true
included-at p q i h e = contained-all (has p) (filter (has q) (below q.next)) i h there
  where
    there : contains (filter (has q) (below q.next)) i ≡ true
    there =
        let low : nat_lt i q.next ≡ true = and-left _ _ e in
        contains-filter-below (has q) q.next i ∙ ap (λ b. b && has q i) low ∙ e

pub included-by : (p q : Plain) → ((i : ℕ) → has q i ≡ true → has p i ≡ true) → includes p q ≡ true
included-by p q f = all-contained (has p) (filter (has q) (below q.next)) (λ i e. f i (and-right (nat_lt i q.next) (has q i) (sym (contains-filter-below (has q) q.next i) ∙ e)))

last-is : (q : Plain) (j : ℕ) → is_canonical_plain q ≡ true → q.next ≡ suc j → has q j ≡ true
last-is q j h e =
    let low : nat_lt j q.next ≡ true = lt-ltb j q.next (omega arith) in
    ap (λ b. b && not (contains q.gaps j)) low ∙ ap not (none (contains q.gaps j) refl)
  where
    none : (b : Bool) → contains q.gaps j ≡ b → b ≡ false
    none true c = let lt : suc j < q.next = gaps-below q.next q.gaps j (canonical-below q h) c in absurd (omega arith)
    none false c = refl

pub includes-is : (p q : Plain) → is_canonical_plain q ≡ true → includes p q ≡ (nat_le q.next p.next && list_all (λ g. not (has q g)) p.gaps)
includes-is p q h = same-bool _ _ (λ e. and-true _ _ (long e) (apart-gaps e)) (λ e. included-by p q (λ i k. back i (and-left _ _ e) (and-right _ _ e) k))
  where
    long-by : (k : ℕ) → k ≡ q.next → includes p q ≡ true → nat_le k p.next ≡ true
    long-by zero e i = grind (arith, nat_tests)
    long-by (suc j) e i =
        let there : has p j ≡ true = included-at p q j i (last-is q j h (sym e)) in
        let lt : j < p.next = ltb-true j p.next (and-left _ _ there) in
        grind (arith, nat_tests)

    long : includes p q ≡ true → nat_le q.next p.next ≡ true
    long i = long-by q.next refl i

    lacks-gap : (g : ℕ) (b : Bool) → has q g ≡ b → includes p q ≡ true → contains p.gaps g ≡ true → not b ≡ true
    lacks-gap g true e i c =
        let there : not (contains p.gaps g) ≡ true = and-right (nat_lt g p.next) _ (included-at p q g i e) in
        absurd (apart (contains p.gaps g) c (not-true (contains p.gaps g) there))
    lacks-gap g false e i c = refl

    apart-gaps : includes p q ≡ true → list_all (λ g. not (has q g)) p.gaps ≡ true
    apart-gaps i = all-contained (λ g. not (has q g)) p.gaps (λ g c. lacks-gap g (has q g) refl i c)

    free : (i : ℕ) (b : Bool) → contains p.gaps i ≡ b → list_all (λ g. not (has q g)) p.gaps ≡ true → has q i ≡ true → not b ≡ true
    free i true c a k = absurd (apart (has q i) k (not-true (has q i) (contained-all (λ g. not (has q g)) p.gaps i a c)))
    free i false c a k = refl

    back : (i : ℕ) → nat_le q.next p.next ≡ true → list_all (λ g. not (has q g)) p.gaps ≡ true → has q i ≡ true → has p i ≡ true
    back i le a k =
        let below_q : i < q.next = ltb-true i q.next (and-left _ _ k) in
        let low : nat_lt i p.next ≡ true = grind (arith, nat_tests) in
        and-true (nat_lt i p.next) (not (contains p.gaps i)) low (free i (contains p.gaps i) refl a k)

-- ---- the walk along the cells

numbers_from-end : (k n : ℕ) → numbers_from k (suc n) ≡ numbers_from k n ++ (k + n) ∷ []
numbers_from-end k zero = let e : k ≡ k + 0 = omega arith in ap (λ m. m ∷ []) e
numbers_from-end k (suc n) =
    let e : suc k + n ≡ k + suc n = omega arith in
    ap (λ ys. k ∷ ys) (numbers_from-end (suc k) n) ∙ ap (λ m. k ∷ (numbers_from (suc k) n ++ m ∷ [])) e

below-end : (f : ℕ → Bool) (n : ℕ) → filter f (below (suc n)) ≡ filter f (below n) ++ (if f n then n ∷ [] else [])
below-end f n =
    let e : 0 + n ≡ n = omega arith in
    ap (filter f) (numbers_from-end 0 n) ∙ ap (λ m. filter f (below n ++ m ∷ [])) e ∙ filter-append f (below n) (n ∷ [])

-- the walk has come to x: where the set ends so far, all that it lacks below x, and how many of these lie below that end
pub record IsWalked (test : ℕ → Bool) (x next kept : ℕ) (gaps : List ℕ) : Type 0 where
  pub ends : next ≡ end_of test x
  pub lacking : gaps ≡ filter (λ i. not (test i)) (below x)
  pub front : take kept gaps ≡ filter (λ i. not (test i)) (below next)
  pub within : kept ≤ length gaps

take-whole : (xs : List ℕ) → take (length xs) xs ≡ xs
take-whole [] = refl
take-whole (x ∷ xs) = ap (λ ys. x ∷ ys) (take-whole xs)

take-front : (k : ℕ) (xs ys : List ℕ) → k ≤ length xs → take k (xs ++ ys) ≡ take k xs
take-front zero xs ys h = refl
take-front (suc k) [] ys h = absurd (omega arith)
take-front (suc k) (x ∷ xs) ys h = ap (λ zs. x ∷ zs) (take-front k xs ys (omega arith))

walked-start : (more : ℕ → Bool) (p : Plain) (gaps : List ℕ) → is_canonical_plain p ≡ true → gaps ≡ filter (λ g. not (more g)) p.gaps →
    IsWalked (λ i. has p i || more i) p.next p.next (length gaps) gaps
walked-start more p gaps h e = record {
  ends = sym ends;
  lacking = lacking;
  front = take-whole gaps ∙ lacking;
  within = omega arith;
}
  where
    is : plain_of (λ i. has p i || more i) p.next ≡ record { next = p.next; gaps = filter (λ g. not (more g)) p.gaps }
    is = grown (λ i. has p i || more i) more p.next p h refl (λ i. refl)

    ends : end_of (λ i. has p i || more i) p.next ≡ p.next
    ends = ap (λ (q : Plain). q.next) is

    lacking : gaps ≡ filter (λ i. not (has p i || more i)) (below p.next)
    lacking = e ∙ sym (ap (λ (q : Plain). q.gaps) is) ∙ ap (λ n. filter (λ i. not (has p i || more i)) (below n)) ends

walked-covered : (test : ℕ → Bool) (x next kept : ℕ) (gaps : List ℕ) → IsWalked test x next kept gaps → test x ≡ true → IsWalked test (suc x) (suc x) (length gaps) gaps
walked-covered test x next kept gaps w t = record {
  ends = sym (ap (λ b. if b then suc x else end_of test x) t);
  lacking = lacking;
  front = take-whole gaps ∙ lacking;
  within = omega arith;
}
  where
    none : filter (λ i. not (test i)) (below x) ≡ filter (λ i. not (test i)) (below x) ++ []
    none = nil (filter (λ i. not (test i)) (below x))
      where
        nil : (xs : List ℕ) → xs ≡ xs ++ []
        nil [] = refl
        nil (y ∷ ys) = ap (λ zs. y ∷ zs) (nil ys)

    lacking : gaps ≡ filter (λ i. not (test i)) (below (suc x))
    lacking = w.lacking ∙ none ∙ sym (below-end (λ i. not (test i)) x ∙ ap (λ b. filter (λ i. not (test i)) (below x) ++ (if not b then x ∷ [] else [])) t)

walked-left : (test : ℕ → Bool) (x next kept : ℕ) (gaps : List ℕ) → IsWalked test x next kept gaps → test x ≡ false → IsWalked test (suc x) next kept (gaps ++ x ∷ [])
walked-left test x next kept gaps w t = record {
  ends = w.ends ∙ sym (ap (λ b. if b then suc x else end_of test x) t);
  lacking =
      ap (λ ys. ys ++ x ∷ []) w.lacking
      ∙ sym (below-end (λ i. not (test i)) x ∙ ap (λ b. filter (λ i. not (test i)) (below x) ++ (if not b then x ∷ [] else [])) t);
  front = take-front kept gaps (x ∷ []) w.within ∙ w.front;
  within = more gaps w.within;
}
  where
    more : (xs : List ℕ) → kept ≤ length xs → kept ≤ length (xs ++ x ∷ [])
    more xs h = grind (arith, longer xs)
      where
        longer : (ys : List ℕ) → length (ys ++ x ∷ []) ≡ suc (length ys)
        longer [] = refl
        longer (y ∷ ys) = ap suc (longer ys)

walked-done : (test : ℕ → Bool) (x next kept : ℕ) (gaps : List ℕ) → IsWalked test x next kept gaps → record { next = next; gaps = take kept gaps } ≡ plain_of test x
walked-done test x next kept gaps w = λ k. record { next = w.ends k; gaps = front k }
  where
    front : take kept gaps ≡ filter (λ i. not (test i)) (below (end_of test x))
    front = w.front ∙ ap (λ n. filter (λ i. not (test i)) (below n)) w.ends

-- from its end on, a token has what the cells say
pub settled-past : (cells : List Cell) (b : ℕ) (p : Plain) (x : ℕ) → p.next ≤ x → x < b → (has p x || settles cells b x) ≡ is_settled cells x
settled-past cells b p x le lt =
    ap (λ c. (c && not (contains p.gaps x)) || settles cells b x) (le-ltb x p.next le) ∙ ap (λ c. c && is_settled cells x) (lt-ltb x b lt)

-- ---- a search

-- a list whose parts are all below or above a number does not contain it
absent-all : (xs : List ℕ) (x : ℕ) → ((k : ℕ) → k < length xs → get_or xs k 0 ≡ x → ⊥) → contains xs x ≡ false
absent-all [] x h = refl
absent-all (y ∷ ys) x h =
    let other : (y == x) ≡ false = grind (arith, nat_tests, h 0 (omega arith)) in
    ap (λ b. b || contains ys x) other ∙ absent-all ys x (λ k lt e. h (suc k) (omega arith) e)

contained-at : (xs : List ℕ) (x k : ℕ) → k < length xs → get_or xs k 0 ≡ x → contains xs x ≡ true
contained-at [] x k h e = absurd (omega arith)
contained-at (y ∷ ys) x zero h e = let same : (y == x) ≡ true = grind (arith, nat_tests) in ap (λ b. b || contains ys x) same
contained-at (y ∷ ys) x (suc k) h e = or-later (y == x) (contained-at ys x k (omega arith) e)
  where
    or-later : (b : Bool) → contains ys x ≡ true → (b || contains ys x) ≡ true
    or-later true f = refl
    or-later false f = f

get-contained : (xs : List ℕ) (k : ℕ) → k < length xs → contains xs (get_or xs k 0) ≡ true
get-contained xs k h = contained-at xs (get_or xs k 0) k h refl

rises-order : (xs : List ℕ) → rises nat_lt xs ≡ true → (i j : ℕ) → i ≤ j → j < length xs → get_or xs i 0 ≤ get_or xs j 0
rises-order [] r i j le lt = absurd (omega arith)
rises-order (x ∷ xs) r zero zero le lt = omega arith
rises-order (x ∷ xs) r zero (suc j) le lt =
    let above : x < get_or xs j 0 = above-first x xs r (get_or xs j 0) (get-contained xs j (omega arith)) in
    omega arith
rises-order (x ∷ xs) r (suc i) zero le lt = absurd (omega arith)
rises-order (x ∷ xs) r (suc i) (suc j) le lt = rises-order xs (tail-rises x xs r) i j (omega arith) (omega arith)

-- what a binary search of a rising list says
pub searched-is : (xs : List ℕ) (x : ℕ) (r : Result ℕ ℕ) → IsBinarySearchResult (λ y. nat_cmp y x) xs r → rises nat_lt xs ≡ true → is_err r ≡ not (contains xs x)
searched-is xs x r h s = by r (searched xs x r h (rises-order xs s))
  where
    clear : (i k : ℕ) → ((k : ℕ) → k < i → get_or xs k 0 < x) → ((k : ℕ) → i ≤ k → k < length xs → x < get_or xs k 0) → (b : Bool) → nat_lt k i ≡ b → k < length xs → get_or xs k 0 ≡ x → ⊥
    clear i k low high true e lt same = let below_x : get_or xs k 0 < x = low k (ltb-true k i e) in absurd (omega arith)
    clear i k low high false e lt same = let above_x : x < get_or xs k 0 = high k (ltb-false k i e) lt in absurd (omega arith)

    by : (q : Result ℕ ℕ) → MatchResult q (λ i. (i < length xs) × (get_or xs i 0 ≡ x)) (λ i. (i ≤ length xs) × ((k : ℕ) → k < i → get_or xs k 0 < x) × ((k : ℕ) → i ≤ k → k < length xs → x < get_or xs k 0)) →
        is_err q ≡ not (contains xs x)
    by (Ok i) m = sym (ap not (contained-at xs x i m.0 m.1))
    by (Err i) m = sym (ap not (absent-all xs x (λ k lt e. clear i k m.1 m.2 (nat_lt k i) refl lt e)))

-- ---- what the bodies have in hand

pub walk-starts : (more : ℕ → Bool) (p : Plain) (x next kept : ℕ) (gaps : List ℕ) → is_canonical_plain p ≡ true → gaps ≡ filter (λ g. not (more g)) p.gaps →
    x ≡ p.next → next ≡ p.next → kept ≡ length gaps → IsWalked (λ i. has p i || more i) x next kept gaps
walk-starts more p x next kept gaps h e a b c = rw (a, b, c) (walked-start more p gaps h e)

pub walk-covers : (test : ℕ → Bool) (x next kept y n k : ℕ) (gaps gs : List ℕ) → IsWalked test x next kept gaps → test x ≡ true →
    y ≡ suc x → n ≡ suc x → k ≡ length gaps → gs ≡ gaps → IsWalked test y n k gs
walk-covers test x next kept y n k gaps gs w t a b c d = rw (a, b, c, d) (walked-covered test x next kept gaps w t)

pub walk-leaves : (test : ℕ → Bool) (x next kept y n k : ℕ) (gaps gs : List ℕ) → IsWalked test x next kept gaps → test x ≡ false →
    y ≡ suc x → n ≡ next → k ≡ kept → gs ≡ gaps ++ x ∷ [] → IsWalked test y n k gs
walk-leaves test x next kept y n k gaps gs w t a b c d = rw (a, b, c, d) (walked-left test x next kept gaps w t)

pub walk-ends : (test : ℕ → Bool) (x next kept : ℕ) (gaps gs : List ℕ) → IsWalked test x next kept gaps → gs ≡ take kept gaps → record { next = next; gaps = gs } ≡ plain_of test x
walk-ends test x next kept gaps gs w e = rw e (walked-done test x next kept gaps w)

pub canonical-as : (p : Plain) (test : ℕ → Bool) (n : ℕ) → p ≡ plain_of test n → is_canonical_plain p ≡ true
canonical-as p test n e = ap is_canonical_plain e ∙ canonical-plain_of test n

pub with-is : (p q : Plain) (n : ℕ) (gs : List ℕ) → is_canonical_plain p ≡ true → q.next ≤ p.next → n ≡ p.next → gs ≡ filter (λ g. not (has q g)) p.gaps → record { next = n; gaps = gs } ≡ union p q
with-is p q n gs h le a b = rw (a, b) (sym (union-with p q h le))

pub sets-of : (p q b : Plain) → b ≡ union p q → (i : ℕ) → has b i ≡ (has p i || has q i)
sets-of p q b e i = ap (λ (b : Plain). has b i) e ∙ has-union p q i

pub includes-long : (p q : Plain) (b : Bool) → is_canonical_plain q ≡ true → q.next ≤ p.next → b ≡ list_all (λ g. not (has q g)) p.gaps → b ≡ includes p q
includes-long p q b h le e =
    let long : nat_le q.next p.next ≡ true = grind (arith, nat_tests) in
    e ∙ sym (includes-is p q h ∙ ap (λ c. c && list_all (λ g. not (has q g)) p.gaps) long)

pub includes-short : (p q : Plain) (b : Bool) → is_canonical_plain q ≡ true → p.next < q.next → b ≡ false → b ≡ includes p q
includes-short p q b h lt e =
    let short : nat_le q.next p.next ≡ false = grind (arith, nat_tests) in
    e ∙ sym (includes-is p q h ∙ ap (λ c. c && list_all (λ g. not (has q g)) p.gaps) short)

-- an advance, by what its value is
pub advanced-sets : (cells : List Cell) (b : ℕ) (p later : Plain) → later ≡ advanced_plain cells b p → (i : ℕ) → has later i ≡ (has p i || settles cells b i)
advanced-sets cells b p later e i = ap (λ (p : Plain). has p i) e ∙ has-advanced cells b p i

pub advanced-canonical : (cells : List Cell) (b : ℕ) (p later : Plain) → later ≡ advanced_plain cells b p → IsTrue (is_canonical_plain later)
advanced-canonical cells b p later e = canonical-as later (λ i. has p i || settles cells b i) (max p.next b) e

-- a test of inclusion, by what the sets have
pub includes-sets : (p q : Plain) (b : Bool) → b ≡ includes p q → (b ≡ true → (i : ℕ) → has q i ≡ true → has p i ≡ true) × (((i : ℕ) → has q i ≡ true → has p i ≡ true) → b ≡ true)
includes-sets p q b e = (λ h i k. included-at p q i (sym e ∙ h) k, λ f. e ∙ included-by p q f)
