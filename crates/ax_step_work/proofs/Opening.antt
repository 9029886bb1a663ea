-- The next index that a plain part lacks: its gaps are searched by halves.
use Rattle.std.proofs.Common.{◌≡◌, ℕ, zero, suc, ◌<◌, ◌≤◌, ◌==◌, ◌&&◌, ◌||◌, Bool, true, false, not, List, [], ◌∷◌, length, get_or, Result, Ok, Err, refl, sym, ap, ◌∙◌, arith, nat_lt}
use Rattle.std.proofs.lemmas.Bool.Decides.{nat_tests}
use Rattle.std.specs.Result.{MatchResult}
use Rattle.std.specs.List.Sorted.{IsBinarySearchResult}
use Rattle.std.specs.Ordering.{nat_cmp}
use Rattle.std.proofs.lemmas.List.Sorted.{searched}
use borrow.Author.Tests.{lt-ltb, le-ltb}
use Rattle.ax_values.specs.Words.{rises}
use Rattle.ax_laws.proofs.Tests.{and-false}
use Rattle.ax_tokens.specs.Plain.{Plain, contains, has, is_canonical_plain}
use Rattle.ax_tokens.proofs.Sets.{above-first, tail-rises, gaps-below}
use Rattle.ax_tokens.proofs.Gaps.{canonical-rises, canonical-below}

-- a list whose parts are all other than a number does not contain it
absent-all : (xs : List ℕ) (x : ℕ) → ((k : ℕ) → k < length xs → get_or xs k 0 ≡ x → ⊥) → contains xs x ≡ false
absent-all [] x h = refl
absent-all (y ∷ ys) x h =
    let other : (y == x) ≡ false = grind (arith, nat_tests, h 0 (omega arith)) in
    ap (λ b. b || contains ys x) other ∙ absent-all ys x (λ k lt e. h (suc k) (omega arith) e)

contained-at : (xs : List ℕ) (k : ℕ) → k < length xs → contains xs (get_or xs k 0) ≡ true
contained-at [] k h = absurd (omega arith)
contained-at (y ∷ ys) zero h = let same : (y == y) ≡ true = grind (arith, nat_tests) in ap (λ b. b || contains ys y) same
contained-at (y ∷ ys) (suc k) h = later (y == get_or ys k 0) (contained-at ys k (omega arith))
  where
    later : (b : Bool) → contains ys (get_or ys k 0) ≡ true → (b || contains ys (get_or ys k 0)) ≡ true
    later true e = refl
    later false e = e

order : (xs : List ℕ) → rises nat_lt xs ≡ true → (i j : ℕ) → i ≤ j → j < length xs → get_or xs i 0 ≤ get_or xs j 0
order [] r i j le lt = absurd (omega arith)
order (x ∷ xs) r zero zero le lt = omega arith
order (x ∷ xs) r zero (suc j) le lt = let above : x < get_or xs j 0 = above-first x xs r (get_or xs j 0) (contained-at xs j (omega arith)) in omega arith
order (x ∷ xs) r (suc i) zero le lt = absurd (omega arith)
order (x ∷ xs) r (suc i) (suc j) le lt = order xs (tail-rises x xs r) i j (omega arith) (omega arith)

-- ---- what is lacking

pub lacks-past : (p : Plain) (i : ℕ) → p.next ≤ i → has p i ≡ false
lacks-past p i le = ap (λ c. c && not (contains p.gaps i)) (le-ltb i p.next le)

pub lacks-gap : (p : Plain) (k i : ℕ) → k < length p.gaps → get_or p.gaps k 0 ≡ i → has p i ≡ false
lacks-gap p k i lt e = ap (λ c. nat_lt i p.next && not c) (ap (contains p.gaps) (sym e) ∙ contained-at p.gaps k lt) ∙ and-false (nat_lt i p.next)

-- ---- what is not

module _ (p : Plain) (canonical : is_canonical_plain p ≡ true) (start place : ℕ) (low : (k : ℕ) → k < place → get_or p.gaps k 0 < start) where
  has-by : (i : ℕ) → start ≤ i → i < p.next → ((k : ℕ) → place ≤ k → k < length p.gaps → i < get_or p.gaps k 0) → has p i ≡ true
  has-by i le lt high = ap (λ c. c && not (contains p.gaps i)) (lt-ltb i p.next lt) ∙ ap not (absent-all p.gaps i (λ k l e. other k (nat_lt k place) refl l e))
    where
      other : (k : ℕ) (b : Bool) → nat_lt k place ≡ b → k < length p.gaps → get_or p.gaps k 0 ≡ i → ⊥
      other k true b l e = let below : get_or p.gaps k 0 < start = low k (grind (arith, nat_tests, b)) in omega arith
      other k false b l e = let above : i < get_or p.gaps k 0 = high k (grind (arith, nat_tests, b)) l in omega arith

  -- up to the gap at the place
  pub has-to-gap : place < length p.gaps → (i : ℕ) → start ≤ i → i < get_or p.gaps place 0 → has p i ≡ true
  has-to-gap lt i le below =
      let room : suc (get_or p.gaps place 0) < p.next = gaps-below p.next p.gaps (get_or p.gaps place 0) (canonical-below p canonical) (contained-at p.gaps place lt) in
      has-by i le (omega arith) (λ k low l. let order : get_or p.gaps place 0 ≤ get_or p.gaps k 0 = order p.gaps (canonical-rises p canonical) place k low l in omega arith)

  -- up to the end, where no gap is left
  pub has-to-end : length p.gaps ≤ place → (i : ℕ) → start ≤ i → i < p.next → has p i ≡ true
  has-to-end past i le below = has-by i le below (λ k low l. absurd (omega arith))

-- ---- the search

module _ (p : Plain) (canonical : is_canonical_plain p ≡ true) (start : ℕ) (r : Result ℕ ℕ) (search : IsBinarySearchResult (λ y. nat_cmp y start) p.gaps r) where
  result : MatchResult r (λ i. (i < length p.gaps) × (get_or p.gaps i 0 ≡ start)) (λ i. (i ≤ length p.gaps) × ((k : ℕ) → k < i → get_or p.gaps k 0 < start) × ((k : ℕ) → i ≤ k → k < length p.gaps → start < get_or p.gaps k 0))
  result = searched p.gaps start r search (order p.gaps (canonical-rises p canonical))

  pub found-lacks : (place : ℕ) → r ≡ Ok place → has p start ≡ false
  found-lacks place e = let at : (place < length p.gaps) × (get_or p.gaps place 0 ≡ start) = rw e at result in lacks-gap p place start at.0 at.1

  pub gap-after : (place gap : ℕ) → r ≡ Err place → place < length p.gaps → gap ≡ get_or p.gaps place 0 → start ≤ gap
  gap-after place gap e lt is =
      let at : (place ≤ length p.gaps) × ((k : ℕ) → k < place → get_or p.gaps k 0 < start) × ((k : ℕ) → place ≤ k → k < length p.gaps → start < get_or p.gaps k 0) = rw e at result in
      let above : start < get_or p.gaps place 0 = at.2 place (omega arith) lt in omega arith

  pub gap-covers : (place gap : ℕ) → r ≡ Err place → place < length p.gaps → gap ≡ get_or p.gaps place 0 → (i : ℕ) → start ≤ i → i < gap → has p i ≡ true
  gap-covers place gap e lt is i le below =
      let at : (place ≤ length p.gaps) × ((k : ℕ) → k < place → get_or p.gaps k 0 < start) × ((k : ℕ) → place ≤ k → k < length p.gaps → start < get_or p.gaps k 0) = rw e at result in
      has-to-gap p canonical start place at.1 lt i le (omega arith)

  pub end-covers : (place : ℕ) → r ≡ Err place → length p.gaps ≤ place → (i : ℕ) → start ≤ i → i < p.next → has p i ≡ true
  end-covers place e past i le below =
      let at : (place ≤ length p.gaps) × ((k : ℕ) → k < place → get_or p.gaps k 0 < start) × ((k : ℕ) → place ≤ k → k < length p.gaps → start < get_or p.gaps k 0) = rw e at result in
      has-to-end p canonical start place at.1 past i le below
