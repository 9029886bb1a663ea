-- A token advanced and collapsed: what is kept of a token holds of it too.
use Rattle.std.proofs.Common.{◌≡◌, ℕ, zero, suc, ◌<◌, ◌≤◌, ◌&&◌, ◌||◌, Bool, true, false, not, IsTrue, List, [], ◌∷◌, length, filter, max, if◌then◌else◌, refl, sym, ap, ◌∙◌, arith, nat_lt}
use Rattle.std.specs.List.{AllByRecursion}
use Rattle.std.proofs.lemmas.Bool.Decides.{nat_tests}
use Rattle.ax_log.specs.Log.{is_settled}
use Rattle.ax_segments.specs.Segments.{half_mask, is_upper}
use Rattle.ax_tokens.specs.Plain.{Plain, has, contains, below, end_of, plain_of, settles, advanced_plain}
use Rattle.ax_tokens.specs.Tokens.{Token, plain, merged, replay, parts, half, covers, covers_here, advanced, collapsed, gaps_fit, masks_fit}
use Rattle.ax_tokens.proofs.Sets.{contains-filter-below, has-plain_of, plain_of-canonical}
use Rattle.ax_tokens.proofs.Gaps.{canonical-plain_of}
use Rattle.ax_tokens.proofs.Changes.{covers-advanced, covers-collapsed}
use Rattle.ax_laws.proofs.Tests.{and-left, and-right}
use Rattle.ax_state.specs.WellFormed.{IsPlainOver, IsTokenOver, Advanced, with_added}
use Rattle.ax_state.proofs.Collapsing.{token-collapsed}
use Rattle.ax_state.proofs.Lists.{All-left, All-right, All-append, All-map}
use Rattle.ax_values.specs.declared.cell.Cell.{Cell}

module _ (cells : List Cell) (b : ℕ) (le : b ≤ length cells) where
  has-advanced : (p : Plain) (i : ℕ) → has (advanced_plain cells b p) i ≡ (has p i || settles cells b i)
  has-advanced p i = covers-advanced cells b (plain p) 0 0 i

  end-within : (test : ℕ → Bool) (n : ℕ) → end_of test n ≤ n
  end-within test zero = omega arith
  end-within test (suc n) = elim (test n) as (λ c. (if c then suc n else end_of test n) ≤ suc n) [ true ↦ omega arith | false ↦ (let ih : end_of test n ≤ n = end-within test n in omega arith) ]

  plain-over : (p : Plain) → IsPlainOver cells p → IsPlainOver cells (advanced_plain cells b p)
  plain-over p h = record {
    canonical = canonical-plain_of (λ i. has p i || settles cells b i) (max p.next b);
    within = (let w : p.next ≤ length cells = h.within in let e : end_of (λ i. has p i || settles cells b i) (max p.next b) ≤ max p.next b = end-within (λ i. has p i || settles cells b i) (max p.next b) in omega arith);
    settled = λ i e. at i (has p i) refl (sym (has-advanced p i) ∙ e);
  }
    where
      at : (i : ℕ) (c : Bool) → has p i ≡ c → (has p i || settles cells b i) ≡ true → is_settled cells i ≡ true
      at i true k e = h.settled i k
      at i false k e = and-right (nat_lt i b) (is_settled cells i) (ap (λ c. c || settles cells b i) (sym k) ∙ e)

  parts-over : (t : Token) → AllByRecursion (IsPlainOver cells) (parts t) → AllByRecursion (IsPlainOver cells) (parts (advanced cells b t))
  parts-over (plain p) h = (plain-over p h.0, tt)
  parts-over (merged l u) h =
      All-append (IsPlainOver cells) (parts (advanced cells b l)) (parts (advanced cells b u))
      (parts-over l (All-left (IsPlainOver cells) (parts l) (parts u) h)) (parts-over u (All-right (IsPlainOver cells) (parts l) (parts u) h))
  parts-over (replay r c) h = (h.0, (plain-over c h.1.0, tt))

  -- ---- masks

  advanced-masks : (t : Token) (mask : ℕ) → masks_fit mask (advanced cells b t) ≡ masks_fit mask t
  advanced-masks (plain p) mask = refl
  advanced-masks (merged l u) mask = ap (λ c. c && masks_fit (half_mask mask) (advanced cells b u)) (advanced-masks l (half_mask mask)) ∙ ap (λ c. masks_fit (half_mask mask) l && c) (advanced-masks u (half_mask mask))
  advanced-masks (replay r c) mask = refl

  pub token-advanced : (mask : ℕ) (t : Token) → IsTokenOver cells mask t → gaps_fit (advanced cells b t) ≡ true → IsTokenOver cells mask (collapsed (advanced cells b t))
  token-advanced mask t h few = token-collapsed cells mask (advanced cells b t) (parts-over t h.each) (advanced-masks t mask ∙ h.masks) few

  -- ---- the cells that are added

  abbrev added : List ℕ
  added = filter (settles cells b) (below b)

  contains-added : (i : ℕ) → contains added i ≡ settles cells b i
  contains-added i = contains-filter-below (settles cells b) b i ∙ twice (nat_lt i b) (is_settled cells i)
    where
      twice : (x y : Bool) → (x && (x && y)) ≡ (x && y)
      twice true y = refl
      twice false y = refl

  passes : (c : Bool) (f : ℕ → Bool) (x : ℕ) (xs : List ℕ) → f x ≡ c → AllByRecursion (λ i. f i ≡ true) xs → AllByRecursion (λ i. f i ≡ true) (if c then x ∷ xs else xs)
  passes true f x xs e h = (e, h)
  passes false f x xs e h = h

  passing : (f : ℕ → Bool) (xs : List ℕ) → AllByRecursion (λ i. f i ≡ true) (filter f xs)
  passing f [] = tt
  passing f (x ∷ xs) = passes (f x) f x (filter f xs) refl (passing f xs)

  plain-with : (p : Plain) → IsPlainOver cells p → plain_of (λ i. has p i || contains added i) (max p.next (length cells)) ≡ advanced_plain cells b p
  plain-with p h =
      plain_of-canonical (λ i. has p i || contains added i) (max p.next (length cells)) (advanced_plain cells b p) (plain-over p h).canonical
      (let w : (advanced_plain cells b p).next ≤ length cells = (plain-over p h).within in omega arith)
      (λ i lt. has-advanced p i ∙ ap (λ c. has p i || c) (sym (contains-added i)))

  token-with : (t : Token) → AllByRecursion (IsPlainOver cells) (parts t) → with_added (contains added) (length cells) t ≡ advanced cells b t
  token-with (plain p) h = ap plain (plain-with p h.0)
  token-with (merged l u) h =
      ap (λ x. merged x (with_added (contains added) (length cells) u)) (token-with l (All-left (IsPlainOver cells) (parts l) (parts u) h))
      ∙ ap (λ y. merged (advanced cells b l) y) (token-with u (All-right (IsPlainOver cells) (parts l) (parts u) h))
  token-with (replay r c) h = ap (replay r) (plain-with c h.1.0)

  below-length : (i : ℕ) → settles cells b i ≡ true → i < length cells
  below-length i e = let lt : nat_lt i b ≡ true = and-left (nat_lt i b) (is_settled cells i) e in let below_b : i < b = grind (arith, nat_tests, lt) in omega arith

  pub advance-adds : (t : Token) → AllByRecursion (IsPlainOver cells) (parts t) → Advanced cells t (collapsed (advanced cells b t))
  advance-adds t h = record {
    added = added;
    bound = length cells;
    within = All-map (λ i. settles cells b i ≡ true) (λ i. i < length cells) below-length added (passing (settles cells b) (below b));
    settled = All-map (λ i. settles cells b i ≡ true) (λ i. IsTrue (is_settled cells i)) (λ i e. and-right (nat_lt i b) (is_settled cells i) e) added (passing (settles cells b) (below b));
    new_is = ap collapsed (sym (token-with t h));
  }

-- ---- nothing is added below 0

plain-none : (cells : List Cell) (p : Plain) → IsPlainOver cells p → advanced_plain cells 0 p ≡ p
plain-none cells p h =
    plain_of-canonical (λ i. has p i || settles cells 0 i) (max p.next 0) p h.canonical (omega arith) (λ i lt. at i (has p i))
  where
    at : (i : ℕ) (c : Bool) → c ≡ (c || settles cells 0 i)
    at i true = refl
    at i false = let past : nat_lt i 0 ≡ false = grind (arith, nat_tests) in sym (ap (λ b. b && is_settled cells i) past)

pub advanced-none : (cells : List Cell) (t : Token) → AllByRecursion (IsPlainOver cells) (parts t) → advanced cells 0 t ≡ t
advanced-none cells (plain p) h = ap plain (plain-none cells p h.0)
advanced-none cells (merged l u) h =
    ap (λ x. merged x (advanced cells 0 u)) (advanced-none cells l (All-left (IsPlainOver cells) (parts l) (parts u) h))
    ∙ ap (merged l) (advanced-none cells u (All-right (IsPlainOver cells) (parts l) (parts u) h))
advanced-none cells (replay r c) h = ap (replay r) (plain-none cells c h.1.0)

-- ---- what was covered stays covered

plain-keeps : (test : ℕ → Bool) (n : ℕ) (p : Plain) (i : ℕ) → has p i ≡ true → has (plain_of (λ i. has p i || test i) (max p.next n)) i ≡ true
plain-keeps test n p i h =
    let lt : nat_lt i p.next ≡ true = and-left (nat_lt i p.next) (not (contains p.gaps i)) h in
    let below_next : i < p.next = grind (arith, nat_tests, lt) in
    has-plain_of (λ i. has p i || test i) (max p.next n) i (omega arith) ∙ ap (λ c. c || test i) h

covers-keeps : (test : ℕ → Bool) (n : ℕ) (t : Token) (mask h i : ℕ) → covers t mask h i ≡ true → covers (with_added test n t) mask h i ≡ true
covers-keeps test n (plain p) mask h i e = plain-keeps test n p i e
covers-keeps test n (merged l u) mask h i e = at (is_upper mask h) e (covers-keeps test n l (half_mask mask) h i) (covers-keeps test n u (half_mask mask) h i)
  where
    at : (c : Bool) → covers_here (if c then half u (half_mask mask) h else half l (half_mask mask) h) i ≡ true → (covers l (half_mask mask) h i ≡ true → covers (with_added test n l) (half_mask mask) h i ≡ true)
        → (covers u (half_mask mask) h i ≡ true → covers (with_added test n u) (half_mask mask) h i ≡ true)
        → covers_here (if c then half (with_added test n u) (half_mask mask) h else half (with_added test n l) (half_mask mask) h) i ≡ true
    at true e l u = u e
    at false e l u = l e
covers-keeps test n (replay r c) mask h i e = plain-keeps test n c i e

pub advanced-keeps : (cells : List Cell) (old new : Token) (mask h i : ℕ) → Advanced cells old new → covers old mask h i ≡ true → covers new mask h i ≡ true
advanced-keeps cells old new mask h i a e =
    ap (λ t. covers t mask h i) a.new_is ∙ covers-collapsed (with_added (contains a.added) a.bound old) mask h i ∙ covers-keeps (contains a.added) a.bound old mask h i e

-- ---- what is covered is settled

pub covered-settled : (cells : List Cell) (t : Token) → AllByRecursion (IsPlainOver cells) (parts t) → (mask h i : ℕ) → covers t mask h i ≡ true → is_settled cells i ≡ true
covered-settled cells (plain p) each mask h i e = each.0.settled i e
covered-settled cells (merged l u) each mask h i e =
    at (is_upper mask h) e (covered-settled cells l (All-left (IsPlainOver cells) (parts l) (parts u) each) (half_mask mask) h i) (covered-settled cells u (All-right (IsPlainOver cells) (parts l) (parts u) each) (half_mask mask) h i)
  where
    at : (c : Bool) → covers_here (if c then half u (half_mask mask) h else half l (half_mask mask) h) i ≡ true → (covers l (half_mask mask) h i ≡ true → is_settled cells i ≡ true) → (covers u (half_mask mask) h i ≡ true → is_settled cells i ≡ true)
        → is_settled cells i ≡ true
    at true e l u = u e
    at false e l u = l e
covered-settled cells (replay r c) each mask h i e = each.1.0.settled i e
