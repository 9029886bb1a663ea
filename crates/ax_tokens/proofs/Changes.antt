-- What the changes make of the sets of a token.
use Rattle.std.specs.Prelude.{◌≡◌, ℕ, ◌+◌, ◌≤◌, ◌==◌, ◌%◌, Bool, true, false, not, ◌&&◌, ◌||◌, List, nat_le, if◌then◌else◌}
use Rattle.std.proofs.Common.{refl, ap, sym, ◌∙◌, arith}
use Rattle.std.proofs.Math.Nat.{mod-eq_of_lt}
use Rattle.std.proofs.lemmas.Bool.Decides.{nat_tests}
use lib.Pointwise.{bytes_decides}
use borrow.Author.Tests.{eqb-true}
use Rattle.ax_values.specs.declared.cell.Cell.{Cell}
use Rattle.ax_laws.proofs.Tests.{both, and-true, either, or-left, or-right, or-false, or-swap, not-true}
use Rattle.ax_segments.specs.Segments.{Segment, matches, is_upper, half_mask, lower_half, upper_half, max_mask}
use Rattle.ax_tokens.specs.Plain.{Plain, has, settles, includes, same_plain}
use Rattle.ax_tokens.specs.Tokens.{Token, plain, merged, replay, half, covers, covers_here, replays, replays_here, meets, advanced, ever_covered, joins, joined, caught_up, collapsed, is_collapsed, masks_fit, IsMet}
use Rattle.ax_tokens.proofs.Gaps.{has-union, has-advanced, included-at}
use Rattle.ax_tokens.proofs.Bits.{matches-lower, matches-upper}

-- ---- an advance

pub covers-advanced : (cells : List Cell) (b : ℕ) (t : Token) (mask h i : ℕ) → covers (advanced cells b t) mask h i ≡ (covers t mask h i || settles cells b i)
covers-advanced cells b (plain p) mask h i = has-advanced cells b p i
covers-advanced cells b (merged l u) mask h i =
    elim (is_upper mask h) as (λ c. covers_here (if c then half (advanced cells b u) (half_mask mask) h else half (advanced cells b l) (half_mask mask) h) i ≡ (covers_here (if c then half u (half_mask mask) h else half l (half_mask mask) h) i || settles cells b i))
    [ true ↦ covers-advanced cells b u (half_mask mask) h i | false ↦ covers-advanced cells b l (half_mask mask) h i ]
covers-advanced cells b (replay r c) mask h i = has-advanced cells b c i

pub replays-advanced : (cells : List Cell) (b : ℕ) (t : Token) (mask h i : ℕ) → replays (advanced cells b t) mask h i ≡ replays t mask h i
replays-advanced cells b (plain p) mask h i = refl
replays-advanced cells b (merged l u) mask h i =
    elim (is_upper mask h) as (λ c. replays_here (if c then half (advanced cells b u) (half_mask mask) h else half (advanced cells b l) (half_mask mask) h) i ≡ replays_here (if c then half u (half_mask mask) h else half l (half_mask mask) h) i)
    [ true ↦ replays-advanced cells b u (half_mask mask) h i | false ↦ replays-advanced cells b l (half_mask mask) h i ]
replays-advanced cells b (replay r c) mask h i = refl

-- ---- collapsing

same_plain-is : (p q : Plain) → same_plain p q ≡ true → p ≡ q
same_plain-is p q e =
    let k = both _ _ e in
    let nexts : p.next ≡ q.next = eqb-true p.next q.next k.0 in
    let gaps : p.gaps ≡ q.gaps = (bytes_decides p.gaps q.gaps).0 k.1 in
    λ k. record { next = nexts k; gaps = gaps k }

-- what is joined is equal, and has no halves of its own
half-joins : (l u : Token) → joins l u ≡ true → (mask h : ℕ) → half l mask h ≡ half (merged l u) mask h
half-joins (plain p) (plain q) e mask h = elim (is_upper mask h) as (λ c. plain p ≡ (if c then plain q else plain p)) [ true ↦ ap plain (same_plain-is p q e) | false ↦ refl ]
half-joins (plain p) (merged a b) e mask h = absurd (cc)
half-joins (plain p) (replay r c) e mask h = absurd (cc)
half-joins (merged a b) u e mask h = absurd (cc)
half-joins (replay r c) (plain q) e mask h = absurd (cc)
half-joins (replay r c) (merged a b) e mask h = absurd (cc)
half-joins (replay r c) (replay s d) e mask h =
    let k = both (same_plain r s) (same_plain c d) e in
    let same : replay r c ≡ replay s d = λ j. replay (same_plain-is r s k.0 j) (same_plain-is c d k.1 j) in
    elim (is_upper mask h) as (λ c'. replay r c ≡ (if c' then replay s d else replay r c)) [ true ↦ same | false ↦ refl ]

half-joined : (l u : Token) (mask h : ℕ) → half (joined l u) mask h ≡ half (merged l u) mask h
half-joined l u mask h = at (joins l u) refl
  where
    at : (b : Bool) → joins l u ≡ b → half (if b then l else merged l u) mask h ≡ half (merged l u) mask h
    at true e = half-joins l u e mask h
    at false e = refl

covers-caught_up : (r c : Plain) (mask h i : ℕ) → covers (caught_up r c) mask h i ≡ has c i
covers-caught_up r c mask h i = elim (includes c r) as (λ b. covers (if b then plain c else replay r c) mask h i ≡ has c i) [ true ↦ refl | false ↦ refl ]

pub covers-collapsed : (t : Token) (mask h i : ℕ) → covers (collapsed t) mask h i ≡ covers t mask h i
covers-collapsed (plain p) mask h i = refl
covers-collapsed (merged l u) mask h i =
    ap (λ t. covers_here t i) (half-joined (collapsed l) (collapsed u) mask h)
    ∙ elim (is_upper mask h) as (λ b. covers_here (if b then half (collapsed u) (half_mask mask) h else half (collapsed l) (half_mask mask) h) i ≡ covers_here (if b then half u (half_mask mask) h else half l (half_mask mask) h) i)
    [ true ↦ covers-collapsed u (half_mask mask) h i | false ↦ covers-collapsed l (half_mask mask) h i ]
covers-collapsed (replay r c) mask h i = covers-caught_up r c mask h i

meets_here : Token → ℕ → Bool
meets_here t i = covers_here t i || replays_here t i

or-included : (a b : Bool) → (b ≡ true → a ≡ true) → (a || false) ≡ (a || b)
or-included true b f = refl
or-included false true f = f refl
or-included false false f = refl

meets-caught_up : (r c : Plain) (mask h i : ℕ) → meets (caught_up r c) mask h i ≡ (has c i || has r i)
meets-caught_up r c mask h i = at (includes c r) refl
  where
    at : (b : Bool) → includes c r ≡ b → meets (if b then plain c else replay r c) mask h i ≡ (has c i || has r i)
    at true e = or-included (has c i) (has r i) (included-at c r i e)
    at false e = refl

pub meets-collapsed : (t : Token) (mask h i : ℕ) → meets (collapsed t) mask h i ≡ meets t mask h i
unfolding meets_here
meets-collapsed (plain p) mask h i = refl
meets-collapsed (merged l u) mask h i =
    ap (λ t. meets_here t i) (half-joined (collapsed l) (collapsed u) mask h)
    ∙ elim (is_upper mask h) as (λ b. meets_here (if b then half (collapsed u) (half_mask mask) h else half (collapsed l) (half_mask mask) h) i ≡ meets_here (if b then half u (half_mask mask) h else half l (half_mask mask) h) i)
    [ true ↦ meets-collapsed u (half_mask mask) h i | false ↦ meets-collapsed l (half_mask mask) h i ]
meets-collapsed (replay r c) mask h i = meets-caught_up r c mask h i

is_collapsed-joined : (l u : Token) → is_collapsed l ≡ true → is_collapsed u ≡ true → is_collapsed (joined l u) ≡ true
is_collapsed-joined l u a b = at (joins l u) refl
  where
    at : (c : Bool) → joins l u ≡ c → is_collapsed (if c then l else merged l u) ≡ true
    at true e = a
    at false e = and-true (is_collapsed l && is_collapsed u) (not (joins l u)) (and-true (is_collapsed l) (is_collapsed u) a b) (ap not e)

pub is_collapsed-collapsed : (t : Token) → is_collapsed (collapsed t) ≡ true
is_collapsed-collapsed (plain p) = refl
is_collapsed-collapsed (merged l u) = is_collapsed-joined (collapsed l) (collapsed u) (is_collapsed-collapsed l) (is_collapsed-collapsed u)
is_collapsed-collapsed (replay r c) = at (includes c r) refl
  where
    at : (b : Bool) → includes c r ≡ b → is_collapsed (if b then plain c else replay r c) ≡ true
    at true e = refl
    at false e = ap not e

-- what is collapsed stays as it is
pub collapsed-is : (t : Token) → is_collapsed t ≡ true → collapsed t ≡ t
collapsed-is (plain p) h = refl
collapsed-is (merged l u) h =
    let outer = both (is_collapsed l && is_collapsed u) (not (joins l u)) h in
    let inner = both (is_collapsed l) (is_collapsed u) outer.0 in
    (λ k. joined (collapsed-is l inner.0 k) (collapsed-is u inner.1 k)) ∙ ap (λ b. if b then l else merged l u) (not-true (joins l u) outer.1)
collapsed-is (replay r c) h = ap (λ b. if b then plain c else replay r c) (not-true (includes c r) h)

-- ---- what the hashes of a segment have met

fits-le : (mask : ℕ) → nat_le mask max_mask ≡ true → mask ≤ 65535
fits-le mask h = grind (arith, nat_tests)

fits-low : (t : Token) (mask : ℕ) → masks_fit mask t ≡ true → mask ≤ 65535
fits-low (plain p) mask h = fits-le mask h
fits-low (merged l u) mask h =
    let lower : half_mask mask ≤ 65535 = fits-low l (half_mask mask) (both (masks_fit (half_mask mask) l) (masks_fit (half_mask mask) u) h).0 in
    omega arith
fits-low (replay r c) mask h = fits-le mask h

-- the hash that is the id itself
own : (t : Token) (s : Segment) (i : ℕ) → s.id ≤ s.mask → s.mask ≤ 65535 → meets t s.mask s.id i ≡ true → IsMet t s i
own t s i low fits h =
    let e : s.id % (s.mask + 1) ≡ s.id = mod-eq_of_lt (omega arith) in
    record {
      hash = s.id;
      small = omega arith;
      matching = ap (λ n. n == s.id) e ∙ grind (arith, nat_tests);
      met = h;
    }

meets-lower : (l u : Token) (mask h i : ℕ) → is_upper mask h ≡ false → meets (merged l u) mask h i ≡ meets l (half_mask mask) h i
unfolding meets_here
meets-lower l u mask h i e = ap (λ b. meets_here (if b then half u (half_mask mask) h else half l (half_mask mask) h) i) e

meets-upper : (l u : Token) (mask h i : ℕ) → is_upper mask h ≡ true → meets (merged l u) mask h i ≡ meets u (half_mask mask) h i
unfolding meets_here
meets-upper l u mask h i e = ap (λ b. meets_here (if b then half u (half_mask mask) h else half l (half_mask mask) h) i) e

from_lower : (l u : Token) (s : Segment) (i : ℕ) → s.id ≤ s.mask → IsMet l (lower_half s) i → IsMet (merged l u) s i
from_lower l u s i low m =
    let k = both (matches s m.hash) (not (is_upper s.mask m.hash)) (sym (matches-lower s m.hash low) ∙ m.matching) in
    record { hash = m.hash; small = m.small; matching = k.0; met = meets-lower l u s.mask m.hash i (not-true (is_upper s.mask m.hash) k.1) ∙ m.met }

from_upper : (l u : Token) (s : Segment) (i : ℕ) → s.id ≤ s.mask → IsMet u (upper_half s) i → IsMet (merged l u) s i
from_upper l u s i low m =
    let k = both (matches s m.hash) (is_upper s.mask m.hash) (sym (matches-upper s m.hash low) ∙ m.matching) in
    record { hash = m.hash; small = m.small; matching = k.0; met = meets-upper l u s.mask m.hash i k.1 ∙ m.met }

pub to_met : (t : Token) (s : Segment) (i : ℕ) → s.id ≤ s.mask → masks_fit s.mask t ≡ true → has (ever_covered t) i ≡ true → IsMet t s i
to_met (plain p) s i low fits h = own (plain p) s i low (fits-le s.mask fits) (or-left (has p i) false h)
to_met (merged l u) s i low fits h =
    let f = both (masks_fit (half_mask s.mask) l) (masks_fit (half_mask s.mask) u) fits in
    either (has (ever_covered l) i) (has (ever_covered u) i) (sym (has-union (ever_covered l) (ever_covered u) i) ∙ h)
    (λ k. from_lower l u s i low (to_met l (lower_half s) i (omega arith) f.0 k))
    (λ k. from_upper l u s i low (to_met u (upper_half s) i (omega arith) f.1 k))
to_met (replay r c) s i low fits h =
    own (replay r c) s i low (fits-le s.mask fits) (or-swap (has c i) (has r i) ∙ (sym (has-union r c i) ∙ h))

pub met_ever : (t : Token) (s : Segment) (i h : ℕ) → s.id ≤ s.mask → matches s h ≡ true → meets t s.mask h i ≡ true → has (ever_covered t) i ≡ true
met_ever (plain p) s i h low m k = sym (or-false (has p i)) ∙ k
met_ever (merged l u) s i h low m k =
    has-union (ever_covered l) (ever_covered u) i
    ∙ at (is_upper s.mask h) refl
    (λ e. or-left (has (ever_covered l) i) (has (ever_covered u) i) (met_ever l (lower_half s) i h (omega arith) (matches-lower s h low ∙ and-true (matches s h) (not (is_upper s.mask h)) m (ap not e)) (sym (meets-lower l u s.mask h i e) ∙ k)))
    (λ e. or-right (has (ever_covered l) i) (has (ever_covered u) i) (met_ever u (upper_half s) i h (omega arith) (matches-upper s h low ∙ and-true (matches s h) (is_upper s.mask h) m e) (sym (meets-upper l u s.mask h i e) ∙ k)))
  where
    at : (b : Bool) → is_upper s.mask h ≡ b → (is_upper s.mask h ≡ false → (has (ever_covered l) i || has (ever_covered u) i) ≡ true) → (is_upper s.mask h ≡ true → (has (ever_covered l) i || has (ever_covered u) i) ≡ true) →
        (has (ever_covered l) i || has (ever_covered u) i) ≡ true
    at true e f g = g e
    at false e f g = f e
met_ever (replay r c) s i h low m k = has-union r c i ∙ (or-swap (has r i) (has c i) ∙ k)
