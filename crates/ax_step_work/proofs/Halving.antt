-- A bound to which a token is advanced with few gaps: whatever lies below it is one too.
use Rattle.std.proofs.Common.{◌≡◌, ℕ, zero, suc, ◌+◌, ◌<◌, ◌≤◌, ◌&&◌, ◌||◌, Bool, true, false, not, List, [], ◌∷◌, length, filter, max, if◌then◌else◌, refl, sym, ap, ◌∙◌, arith, nat_le}
use Rattle.std.proofs.lemmas.Bool.Decides.{nat_tests}
use borrow.Author.Tests.{lt-ltb}
use Rattle.ax_values.specs.declared.cell.Cell.{Cell}
use Rattle.ax_log.specs.Log.{is_settled}
use Rattle.ax_laws.proofs.Tests.{and-left, and-right, and-true}
use Rattle.ax_tokens.specs.Plain.{Plain, has, numbers_from, below, end_of, settles, advanced_plain, is_canonical_plain}
use Rattle.ax_tokens.specs.Tokens.{Token, plain, merged, replay, advanced, gaps_fit, max_gaps, is_canonical}
use Rattle.ax_tokens.proofs.Gaps.{grown}

-- ---- lists of numbers

shorter : (f : ℕ → Bool) (xs : List ℕ) → length (filter f xs) ≤ length xs
shorter f [] = omega arith
shorter f (x ∷ xs) = elim (f x) as (λ b. length (if b then x ∷ filter f xs else filter f xs) ≤ suc (length xs)) [ true ↦ (let ih : length (filter f xs) ≤ length xs = shorter f xs in omega arith) | false ↦ (let ih : length (filter f xs) ≤ length xs = shorter f xs in omega arith) ]

fewer : (f : ℕ → Bool) (k m n : ℕ) → m ≤ n → length (filter f (numbers_from k m)) ≤ length (filter f (numbers_from k n))
fewer f k zero n le = omega arith
fewer f k (suc m) zero le = absurd (omega arith)
fewer f k (suc m) (suc n) le =
    elim (f k) as (λ b. length (if b then k ∷ filter f (numbers_from (suc k) m) else filter f (numbers_from (suc k) m)) ≤ length (if b then k ∷ filter f (numbers_from (suc k) n) else filter f (numbers_from (suc k) n)))
    [ true ↦ (let ih : length (filter f (numbers_from (suc k) m)) ≤ length (filter f (numbers_from (suc k) n)) = fewer f (suc k) m n (omega arith) in omega arith) | false ↦ fewer f (suc k) m n (omega arith) ]

same-numbers : (f g : ℕ → Bool) (k n : ℕ) → ((i : ℕ) → i < k + n → f i ≡ g i) → filter f (numbers_from k n) ≡ filter g (numbers_from k n)
same-numbers f g k zero h = refl
same-numbers f g k (suc n) h =
    ap (λ b. if b then k ∷ filter f (numbers_from (suc k) n) else filter f (numbers_from (suc k) n)) (h k (omega arith))
    ∙ ap (λ xs. if g k then k ∷ xs else xs) (same-numbers f g (suc k) n (λ i lt. h i (omega arith)))

-- ---- ends

end-within : (test : ℕ → Bool) (n : ℕ) → end_of test n ≤ n
end-within test zero = omega arith
end-within test (suc n) = elim (test n) as (λ b. (if b then suc n else end_of test n) ≤ suc n) [ true ↦ omega arith | false ↦ (let ih : end_of test n ≤ n = end-within test n in omega arith) ]

end-same : (f g : ℕ → Bool) (n : ℕ) → ((i : ℕ) → i < n → f i ≡ g i) → end_of f n ≡ end_of g n
end-same f g zero h = refl
end-same f g (suc n) h = ap (λ b. if b then suc n else end_of f n) (h n (omega arith)) ∙ ap (λ m. if g n then suc n else m) (end-same f g n (λ i lt. h i (omega arith)))

end-grows : (f : ℕ → Bool) (m n : ℕ) → m ≤ n → end_of f m ≤ end_of f n
end-grows f m zero le = let none : m ≡ 0 = omega arith in let same : end_of f m ≡ end_of f 0 = ap (end_of f) none in omega arith
end-grows f m (suc n) le = at (nat_le m n) refl (end-grows f m n)
  where
    last : end_of f n ≤ end_of f (suc n)
    last = elim (f n) as (λ b. end_of f n ≤ (if b then suc n else end_of f n)) [ true ↦ (let w : end_of f n ≤ n = end-within f n in omega arith) | false ↦ omega arith ]

    at : (b : Bool) → nat_le m n ≡ b → (m ≤ n → end_of f m ≤ end_of f n) → end_of f m ≤ end_of f (suc n)
    at true e again = let ih : end_of f m ≤ end_of f n = again (grind (arith, nat_tests, e)) in let l : end_of f n ≤ end_of f (suc n) = last in omega arith
    at false e again = let over : n < m = grind (arith, nat_tests, e) in let is : m ≡ suc n = omega arith in let same : end_of f m ≡ end_of f (suc n) = ap (end_of f) is in omega arith

-- ---- a plain part

module _ (cells : List Cell) where
  -- up to its end, gaps only go
  few-inside : (p : Plain) (b : ℕ) → is_canonical_plain p ≡ true → b ≤ p.next → length (advanced_plain cells b p).gaps ≤ length p.gaps
  few-inside p b h le =
      let n : max p.next b ≡ p.next = omega arith in
      let is : (advanced_plain cells b p).gaps ≡ filter (λ g. not (settles cells b g)) p.gaps = ap (λ (q : Plain). q.gaps) (grown (λ i. has p i || settles cells b i) (settles cells b) (max p.next b) p h n (λ i. refl)) in
      let same : length (advanced_plain cells b p).gaps ≡ length (filter (λ g. not (settles cells b g)) p.gaps) = ap length is in
      let less : length (filter (λ g. not (settles cells b g)) p.gaps) ≤ length p.gaps = shorter (λ g. not (settles cells b g)) p.gaps in
      omega arith

  -- past its end, gaps only come
  few-past : (p : Plain) (a b : ℕ) → p.next ≤ a → a ≤ b → length (advanced_plain cells a p).gaps ≤ length (advanced_plain cells b p).gaps
  few-past p a b low le =
      let m : max p.next a ≡ a = omega arith in
      let n : max p.next b ≡ b = omega arith in
      let gaps_a : length (advanced_plain cells a p).gaps ≡ length (filter (λ i. not (at_b i)) (below (end_of at_b a))) =
      ap (λ j. length (filter (λ i. not (at_a i)) (below (end_of at_a j)))) m
      ∙ ap length (same-numbers (λ i. not (at_a i)) (λ i. not (at_b i)) 0 (end_of at_a a) (λ i lt. ap not (agree i (let w : end_of at_a a ≤ a = end-within at_a a in omega arith))))
      ∙ ap (λ j. length (filter (λ i. not (at_b i)) (below j))) (end-same at_a at_b a agree) in
      let gaps_b : length (advanced_plain cells b p).gaps ≡ length (filter (λ i. not (at_b i)) (below (end_of at_b b))) = ap (λ j. length (filter (λ i. not (at_b i)) (below (end_of at_b j)))) n in
      let less : length (filter (λ i. not (at_b i)) (below (end_of at_b a))) ≤ length (filter (λ i. not (at_b i)) (below (end_of at_b b))) = fewer (λ i. not (at_b i)) 0 (end_of at_b a) (end_of at_b b) (end-grows at_b a b le) in
      omega arith
    where
      at_a : ℕ → Bool
      at_a i = has p i || settles cells a i

      at_b : ℕ → Bool
      at_b i = has p i || settles cells b i

      agree : (i : ℕ) → i < a → at_a i ≡ at_b i
      agree i lt = ap (λ c. has p i || (c && is_settled cells i)) (lt-ltb i a lt ∙ sym (lt-ltb i b (omega arith)))

  few-below : (p : Plain) (a b most : ℕ) → is_canonical_plain p ≡ true → a ≤ b → length p.gaps ≤ most → length (advanced_plain cells b p).gaps ≤ most → length (advanced_plain cells a p).gaps ≤ most
  few-below p a b most h le few later = at (nat_le a p.next) refl
    where
      at : (c : Bool) → nat_le a p.next ≡ c → length (advanced_plain cells a p).gaps ≤ most
      at true e = let less : length (advanced_plain cells a p).gaps ≤ length p.gaps = few-inside p a h (grind (arith, nat_tests, e)) in omega arith
      at false e = let less : length (advanced_plain cells a p).gaps ≤ length (advanced_plain cells b p).gaps = few-past p a b (let over : p.next < a = grind (arith, nat_tests, e) in omega arith) le in omega arith

  part-fits : (p : Plain) (a b : ℕ) → is_canonical_plain p ≡ true → a ≤ b → nat_le (length p.gaps) max_gaps ≡ true → nat_le (length (advanced_plain cells b p).gaps) max_gaps ≡ true → nat_le (length (advanced_plain cells a p).gaps) max_gaps ≡ true
  part-fits p a b h le few later =
      let least : length (advanced_plain cells a p).gaps ≤ max_gaps = few-below p a b max_gaps h le (grind (arith, nat_tests, few)) (grind (arith, nat_tests, later)) in
      grind (arith, nat_tests, least)

  part-starts : (p : Plain) → is_canonical_plain p ≡ true → nat_le (length p.gaps) max_gaps ≡ true → nat_le (length (advanced_plain cells 0 p).gaps) max_gaps ≡ true
  part-starts p h few =
      let less : length (advanced_plain cells 0 p).gaps ≤ length p.gaps = few-inside p 0 h (omega arith) in
      let most : length p.gaps ≤ max_gaps = grind (arith, nat_tests, few) in
      let least : length (advanced_plain cells 0 p).gaps ≤ max_gaps = omega arith in
      grind (arith, nat_tests, least)

  -- ---- a token

  pub fits-start : (t : Token) → is_canonical t ≡ true → gaps_fit t ≡ true → gaps_fit (advanced cells 0 t) ≡ true
  fits-start (plain p) h few = part-starts p h few
  fits-start (merged l u) h few =
      and-true (gaps_fit (advanced cells 0 l)) (gaps_fit (advanced cells 0 u)) (fits-start l (and-left (is_canonical l) (is_canonical u) h) (and-left (gaps_fit l) (gaps_fit u) few))
      (fits-start u (and-right (is_canonical l) (is_canonical u) h) (and-right (gaps_fit l) (gaps_fit u) few))
  fits-start (replay r c) h few =
      and-true (nat_le (length r.gaps) max_gaps) (nat_le (length (advanced_plain cells 0 c).gaps) max_gaps) (and-left (nat_le (length r.gaps) max_gaps) (nat_le (length c.gaps) max_gaps) few)
      (part-starts c (and-right (is_canonical_plain r) (is_canonical_plain c) h) (and-right (nat_le (length r.gaps) max_gaps) (nat_le (length c.gaps) max_gaps) few))

  pub fits-below : (t : Token) (a b : ℕ) → is_canonical t ≡ true → a ≤ b → gaps_fit t ≡ true → gaps_fit (advanced cells b t) ≡ true → gaps_fit (advanced cells a t) ≡ true
  fits-below (plain p) a b h le few later = part-fits p a b h le few later
  fits-below (merged l u) a b h le few later =
      and-true (gaps_fit (advanced cells a l)) (gaps_fit (advanced cells a u))
      (fits-below l a b (and-left (is_canonical l) (is_canonical u) h) le (and-left (gaps_fit l) (gaps_fit u) few) (and-left (gaps_fit (advanced cells b l)) (gaps_fit (advanced cells b u)) later))
      (fits-below u a b (and-right (is_canonical l) (is_canonical u) h) le (and-right (gaps_fit l) (gaps_fit u) few) (and-right (gaps_fit (advanced cells b l)) (gaps_fit (advanced cells b u)) later))
  fits-below (replay r c) a b h le few later =
      and-true (nat_le (length r.gaps) max_gaps) (nat_le (length (advanced_plain cells a c).gaps) max_gaps) (and-left (nat_le (length r.gaps) max_gaps) (nat_le (length c.gaps) max_gaps) few)
      (part-fits c a b (and-right (is_canonical_plain r) (is_canonical_plain c) h) le (and-right (nat_le (length r.gaps) max_gaps) (nat_le (length c.gaps) max_gaps) few)
      (and-right (nat_le (length r.gaps) max_gaps) (nat_le (length (advanced_plain cells b c).gaps) max_gaps) later))

  -- a bound past one that does not fit does not fit
  pub over-above : (t : Token) (a b : ℕ) → is_canonical t ≡ true → a ≤ b → gaps_fit t ≡ true → gaps_fit (advanced cells a t) ≡ false → gaps_fit (advanced cells b t) ≡ false
  over-above t a b h le few over = at (gaps_fit (advanced cells b t)) refl
    where
      at : (c : Bool) → gaps_fit (advanced cells b t) ≡ c → c ≡ false
      at false e = refl
      at true e = absurd (let fits : gaps_fit (advanced cells a t) ≡ true = fits-below t a b h le few e in cc)

  -- ---- what the search keeps

  -- the token fits to the lower bound, and not to the higher one nor to any above it
  pub record IsHalved (t : Token) (first low high : ℕ) : Type 0 where
    pub order : low < high
    pub within : high ≤ first
    pub fits : gaps_fit (advanced cells low t) ≡ true
    pub over : (b : ℕ) → high ≤ b → b ≤ first → gaps_fit (advanced cells b t) ≡ false

  pub halved-start : (t : Token) (first : ℕ) → is_canonical t ≡ true → gaps_fit t ≡ true → 0 < first → gaps_fit (advanced cells first t) ≡ false → IsHalved t first 0 first
  halved-start t first h few pos full = record {
    order = pos;
    within = omega arith;
    fits = fits-start t h few;
    over = λ b low high. over-above t first b h low few full;
  }

  pub halved-low : (t : Token) (first low high middle : ℕ) → IsHalved t first low high → middle < high → gaps_fit (advanced cells middle t) ≡ true → IsHalved t first middle high
  halved-low t first low high middle h lt fits = record { order = lt; within = h.within; fits = fits; over = h.over }

  pub halved-high : (t : Token) (first low high middle : ℕ) → is_canonical t ≡ true → gaps_fit t ≡ true → IsHalved t first low high → low < middle → middle < high → gaps_fit (advanced cells middle t) ≡ false → IsHalved t first low middle
  halved-high t first low high middle canonical few h up down full = record {
    order = up;
    within = (let w : high ≤ first = h.within in omega arith);
    fits = h.fits;
    over = λ b le high. over-above t middle b canonical le few full;
  }

  -- a bound that does not fit is not 0
  pub over-zero : (t : Token) (b : ℕ) → is_canonical t ≡ true → gaps_fit t ≡ true → gaps_fit (advanced cells b t) ≡ false → 0 < b
  over-zero t zero h few over = absurd (let fits : gaps_fit (advanced cells 0 t) ≡ true = fits-start t h few in cc)
  over-zero t (suc b) h few over = omega arith
