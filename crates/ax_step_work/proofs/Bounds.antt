-- How far a fetch goes.
use Rattle.std.proofs.Common.{◌≡◌, ℕ, zero, suc, ◌+◌, ◌<◌, ◌≤◌, ◌&&◌, Bool, true, false, not, List, [], ◌∷◌, length, get_or, Option, Some, None, Result, Ok, Err, if◌then◌else◌, refl, sym, ap, ◌∙◌, subst, arith, nat_lt, nat_le}
use Rattle.std.specs.Prelude.{IfOk}
use Rattle.std.proofs.lemmas.Bool.Decides.{nat_tests}
use Rattle.ax_log.specs.Log.{events, is_reserved, is_settled, first_reserved}
use Rattle.ax_values.specs.Grammar.{Name}
use Rattle.ax_laws.proofs.Tests.{and-false, not-true}
use Rattle.ax_segments.specs.Segments.{Segment}
use Rattle.ax_tokens.specs.Tokens.{Token, advanced, collapsed, gaps_fit}
use Rattle.ax_step_work.specs.Reach.{IsCoveredBetween, HasSettled, event_is}
use Rattle.ax_step_work.proofs.Reached.{new-covered}
use Rattle.ax_step_work.proofs.Walks.{passed-same, passed-none, passed-more, step-out, count-in}
use Rattle.ax_step_work.specs.Working.{is_new, new_below, is_fetchable, largest, fetch_limit, fetch_bound, fetched_token}
use Rattle.ax_values.specs.declared.cell.Cell.{Cell}

-- ---- the bound by the number of events

module _ (whole : Option Name) (s : Segment) (t : Token) (cells : List Cell) where
  -- as many events below the bound are new
  abbrev pub count_below : ℕ → ℕ
  count_below b = length (new_below whole s t (events cells) b)

  pub counted-start : (index : ℕ) → IsCoveredBetween t 0 index → 0 ≡ count_below index
  counted-start index h = sym (ap length (passed-same (is_new whole s t) (events cells) 0 index (omega arith) (new-covered whole s t 0 index h) ∙ passed-none (is_new whole s t) (events cells)))

  module _ (count i next : ℕ) (c : Cell) (lt : i < length cells) (at : c ≡ get_or cells i c) (counted : count ≡ count_below i) where
    pub counted-in : i + 1 ≤ next → IsCoveredBetween t (i + 1) next → event_is (is_new whole s t) i c ≡ true → count + 1 ≡ count_below next
    counted-in le h e = ap (λ n. n + 1) counted ∙ sym (count-in (is_new whole s t) cells i next c lt at le (new-covered whole s t (i + 1) next h) e)

    pub counted-out : i + 1 ≤ next → IsCoveredBetween t (i + 1) next → event_is (is_new whole s t) i c ≡ false → count ≡ count_below next
    counted-out le h e = counted ∙ sym (ap length (step-out (is_new whole s t) cells i next c lt at le (new-covered whole s t (i + 1) next h) e))

  -- one more from the next bound on
  pub counted-above : (count i : ℕ) (c : Cell) → i < length cells → c ≡ get_or cells i c → count ≡ count_below i → event_is (is_new whole s t) i c ≡ true → (b : ℕ) → i < b → count < count_below b
  counted-above count i c lt at counted e b over =
      let one : count_below (i + 1) ≡ count_below i + 1 = count-in (is_new whole s t) cells i (i + 1) c lt at (omega arith) (λ x low high. absurd (omega arith)) e in
      let more : count_below (i + 1) ≤ count_below b = passed-more (is_new whole s t) (events cells) (i + 1) b (omega arith) in
      omega arith

  pub counted-few : (count most limit i : ℕ) → limit ≤ i → count ≡ count_below i → count ≤ most → count_below limit ≤ most
  counted-few count most limit i le counted few = let less : count_below limit ≤ count_below i = passed-more (is_new whole s t) (events cells) limit i le in omega arith

-- ---- the limit

-- the first reserved cell is the first behind settled ones
pub reserved-at : (cells : List Cell) (i : ℕ) (c : Cell) → i < length cells → c ≡ get_or cells i c → is_reserved c ≡ true → ((j : ℕ) → j < i → is_settled cells j ≡ true) → first_reserved cells ≡ i
reserved-at [] i c lt e reserved h = absurd (omega arith)
reserved-at (d ∷ cells) zero c lt e reserved h = ap (λ b. if b then 0 else suc (first_reserved cells)) (sym (ap is_reserved e) ∙ reserved)
reserved-at (d ∷ cells) (suc i) c lt e reserved h =
    ap (λ b. if b then 0 else suc (first_reserved cells)) (not-true (is_reserved d) (h 0 (omega arith)))
    ∙ ap suc (reserved-at cells i c (omega arith) e reserved (λ j l. h (suc j) (omega arith)))

pub reserved-none : (cells : List Cell) → ((j : ℕ) → j < length cells → is_settled cells j ≡ true) → first_reserved cells ≡ length cells
reserved-none [] h = refl
reserved-none (d ∷ cells) h =
    ap (λ b. if b then 0 else suc (first_reserved cells)) (not-true (is_reserved d) (h 0 (omega arith))) ∙ ap suc (reserved-none cells (λ j l. h (suc j) (omega arith)))

settled-at : (cells : List Cell) (i : ℕ) (c : Cell) → i < length cells → c ≡ get_or cells i c → is_reserved c ≡ false → is_settled cells i ≡ true
settled-at [] i c lt e free = absurd (omega arith)
settled-at (d ∷ cells) zero c lt e free = ap not (sym (ap is_reserved e) ∙ free)
settled-at (d ∷ cells) (suc i) c lt e free = settled-at cells i c (omega arith) e free

-- all cells below are settled
abbrev pub IsSettledBelow : List Cell → ℕ → Type 0
IsSettledBelow cells n = (j : ℕ) → j < n → is_settled cells j ≡ true

pub settled-start : (t : Token) (cells : List Cell) (n : ℕ) → HasSettled t cells → IsCoveredBetween t 0 n → IsSettledBelow cells n
settled-start t cells n h covered j lt = h 0 0 j (covered 0 0 j (omega arith) lt)

pub settled-next : (t : Token) (cells : List Cell) (i n : ℕ) (c : Cell) → HasSettled t cells → i < length cells → c ≡ get_or cells i c → is_reserved c ≡ false → IsSettledBelow cells i → IsCoveredBetween t (i + 1) n → IsSettledBelow cells n
settled-next t cells i n c h lt e free low covered j le = at (nat_lt j i) refl (nat_lt i j) refl
  where
    at : (b : Bool) → nat_lt j i ≡ b → (d : Bool) → nat_lt i j ≡ d → is_settled cells j ≡ true
    at true k d l = low j (grind (arith, nat_tests, k))
    at false k true l = h 0 0 j (covered 0 0 j (let over : i < j = grind (arith, nat_tests, l) in omega arith) le)
    at false k false l =
        let is : i ≡ j = (let a : i ≤ j = grind (arith, nat_tests, k) in let b : j ≤ i = grind (arith, nat_tests, l) in omega arith) in
        subst (λ n. is_settled cells n ≡ true) is (settled-at cells i c lt e free)

first_reserved-within : (cells : List Cell) → first_reserved cells ≤ length cells
first_reserved-within [] = omega arith
first_reserved-within (c ∷ cells) = elim (is_reserved c) as (λ b. (if b then 0 else suc (first_reserved cells)) ≤ suc (length cells)) [ true ↦ omega arith | false ↦ (let ih : first_reserved cells ≤ length cells = first_reserved-within cells in omega arith) ]

pub limit-within : (whole : Option Name) (cells : List Cell) → fetch_limit whole cells ≤ length cells
limit-within None cells = omega arith
limit-within (Some name) cells = first_reserved-within cells

-- ---- the largest bound

largest-next : (b : Bool) (test : ℕ → Bool) (n k : ℕ) → test (suc n) ≡ b → k ≤ n → ((c : ℕ) → k < c → c ≤ suc n → test c ≡ false) → largest test n ≡ largest test k → (if b then suc n else largest test n) ≡ largest test k
largest-next false test n k e le f h = h
largest-next true test n k e le f h = absurd (let no : test (suc n) ≡ false = f (suc n) (omega arith) (omega arith) in cc)

skip-by : (c : Bool) (test : ℕ → Bool) (n k : ℕ) → nat_le k n ≡ c → k ≤ suc n → ((b : ℕ) → k < b → b ≤ suc n → test b ≡ false) → (k ≤ n → largest test n ≡ largest test k) → largest test (suc n) ≡ largest test k
skip-by true test n k e le f again = let lower : k ≤ n = grind (arith, nat_tests, e) in largest-next (test (suc n)) test n k refl lower f (again lower)
skip-by false test n k e le f again = let over : n < k = grind (arith, nat_tests, e) in let same : suc n ≡ k = omega arith in ap (largest test) same

pub largest-skip : (test : ℕ → Bool) (n k : ℕ) → k ≤ n → ((b : ℕ) → k < b → b ≤ n → test b ≡ false) → largest test n ≡ largest test k
largest-skip test zero k le f = let same : 0 ≡ k = omega arith in ap (largest test) same
largest-skip test (suc n) k le f = skip-by (nat_le k n) test n k refl le f (λ lower. largest-skip test n k lower (λ b lt le. f b lt (omega arith)))

pub largest-here : (test : ℕ → Bool) (n : ℕ) → test n ≡ true → largest test n ≡ n
largest-here test zero h = refl
largest-here test (suc n) h = ap (λ b. if b then suc n else largest test n) h

pub ok-map : {A E : Type 0} (r : Result A E) (P Q : A → Type 0) → ((x : A) → P x → Q x) → IfOk r P → IfOk r Q
ok-map (Ok x) P Q f h = f x h
ok-map (Err e) P Q f h = tt

-- ---- the bound of a fetch

module _ (whole : Option Name) (s : Segment) (t : Token) (cells : List Cell) (most : ℕ) where
  -- `bound` is the largest with few new events, and `low` the largest up to it with few gaps
  pub bound-is : (low bound : ℕ) → low ≤ bound → bound ≤ fetch_limit whole cells → count_below whole s t cells bound ≤ most → ((b : ℕ) → bound < b → b ≤ fetch_limit whole cells → most < count_below whole s t cells b)
      → gaps_fit (advanced cells low t) ≡ true → ((b : ℕ) → low < b → b ≤ bound → gaps_fit (advanced cells b t) ≡ false) → fetch_bound whole s t cells most ≡ low
  bound-is low bound le within few above fits over =
      largest-skip (is_fetchable whole s t cells most) (fetch_limit whole cells) low (omega arith) (λ b lt high. fails b lt high (nat_le b bound) refl) ∙ largest-here (is_fetchable whole s t cells most) low passes
    where
      passes : is_fetchable whole s t cells most low ≡ true
      passes =
          let less : count_below whole s t cells low ≤ most = counted-few whole s t cells (count_below whole s t cells bound) most low bound le refl few in
          let enough : nat_le (count_below whole s t cells low) most ≡ true = grind (arith, nat_tests, less) in
          ap (λ c. c && gaps_fit (advanced cells low t)) enough ∙ fits

      fails : (b : ℕ) → low < b → b ≤ fetch_limit whole cells → (c : Bool) → nat_le b bound ≡ c → is_fetchable whole s t cells most b ≡ false
      fails b lt high true e =
          ap (λ c. nat_le (count_below whole s t cells b) most && c) (over b lt (grind (arith, nat_tests, e))) ∙ and-false (nat_le (count_below whole s t cells b) most)
      fails b lt high false e =
          let more : most < count_below whole s t cells b = above b (grind (arith, nat_tests, e)) high in
          let many : nat_le (count_below whole s t cells b) most ≡ false = grind (arith, nat_tests, more) in
          ap (λ c. c && gaps_fit (advanced cells b t)) many

  pub token-is : (low bound : ℕ) (new last : Token) → low ≤ bound → bound ≤ fetch_limit whole cells → count_below whole s t cells bound ≤ most → ((b : ℕ) → bound < b → b ≤ fetch_limit whole cells → most < count_below whole s t cells b)
      → gaps_fit (advanced cells low t) ≡ true → ((b : ℕ) → low < b → b ≤ bound → gaps_fit (advanced cells b t) ≡ false) → new ≡ advanced cells low t → last ≡ collapsed new → last ≡ fetched_token whole s t cells most
  token-is low bound new last le within few above fits over new_is is =
      is ∙ ap collapsed (new_is ∙ ap (λ b. advanced cells b t) (sym (bound-is low bound le within few above fits over)))
