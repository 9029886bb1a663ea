-- The halves of a segment, and the segment that two halves are of.
use Rattle.std.proofs.Common.{◌≡◌, ℕ, zero, suc, ◌+◌, ◌*◌, ◌-◌, ◌/◌, ◌%◌, ◌<◌, ◌≤◌, ◌==◌, nat_lt, Bool, true, false, ◌&&◌, ◌||◌, min, Some, None, if◌then◌else◌, refl, sym, ap, ◌∙◌, subst, arith}
use Rattle.std.proofs.Math.Nat.{mod-lt}
use Rattle.std.proofs.lemmas.Bool.Decides.{nat_tests}
use Rattle.std.proofs.lemmas.Nat.{div-add-mod', mod-mul-add}
use borrow.Author.Tests.{eqb-true, ltb-true, ltb-false, eqb-false, lt-ltb, le-ltb}
use Rattle.ax_laws.proofs.Tests.{both, and-swap, or-swap}
use Rattle.ax_segments.specs.Segments.{Segment, IsSegment, AreHalves, matches, lower_half, upper_half, flipped, partner, same_segment, max_mask}
use Rattle.ax_segments.proofs.Powers.{even, halved, doubled, room}

regroup : (h m q r p b : ℕ) → q * (m + 1) + r ≡ h → p * 2 + b ≡ q → h ≡ p * (2 * m + 1 + 1) + (b * (m + 1) + r)
regroup h m q r p b e f = let g = ap (λ n. n * (m + 1)) f in omega (arith, e, g)

within : (m r b : ℕ) → r < m + 1 → b < 2 → b * (m + 1) + r < 2 * m + 1 + 1
within m r zero low one = omega arith
within m r (suc zero) low one = omega arith
within m r (suc (suc b)) low one = absurd (omega arith)

-- the remainder by a doubled divisor has one bit more
pub mod-double : (h m : ℕ) → h % (2 * m + 1 + 1) ≡ h / (m + 1) % 2 * (m + 1) + h % (m + 1)
mod-double h m =
    let q = h / (m + 1) in
    let r = h % (m + 1) in
    let is = regroup h m q r (q / 2) (q % 2) (div-add-mod' h (m + 1)) (div-add-mod' q 2) in
    ap (λ n. n % (2 * m + 1 + 1)) is ∙ mod-mul-add (q / 2) (2 * m + 1 + 1) (q % 2 * (m + 1) + r) (within m r (q % 2) (mod-lt h (omega arith)) (mod-lt q (omega arith)))

-- a hash whose low bits are r and whose next bit is b
halves-at : (m id r b : ℕ) → id ≤ m → r < m + 1 → b < 2 →
    (((b * (m + 1) + r == id) || (b * (m + 1) + r == id + (m + 1))) ≡ (r == id)) × (((b * (m + 1) + r == id) && (b * (m + 1) + r == id + (m + 1))) ≡ false)
halves-at m id r zero i low one = (grind (arith, nat_tests), grind (arith, nat_tests))
halves-at m id r (suc zero) i low one = (grind (arith, nat_tests), grind (arith, nat_tests))
halves-at m id r (suc (suc b)) i low one = absurd (omega arith)

at-hash : (s : Segment) → s.id ≤ s.mask → (h : ℕ) → ((matches (lower_half s) h || matches (upper_half s) h) ≡ matches s h) × ((matches (lower_half s) h && matches (upper_half s) h) ≡ false)
at-hash s i h =
    let r = h % (s.mask + 1) in
    let b = h / (s.mask + 1) % 2 in
    let k = halves-at s.mask s.id r b i (mod-lt h (omega arith)) (mod-lt (h / (s.mask + 1)) (omega arith)) in
    let e = mod-double h s.mask in (
      ap (λ n. (n == s.id) || (n == s.id + (s.mask + 1))) e ∙ k.0,
      ap (λ n. (n == s.id) && (n == s.id + (s.mask + 1))) e ∙ k.1,
    )

pub are_halves : (s : Segment) → s.id ≤ s.mask → AreHalves s (lower_half s) (upper_half s)
are_halves s i = record { each = λ h. (at-hash s i h).0; once = λ h. (at-hash s i h).1 }

swapped : (s t u : Segment) → AreHalves s t u → AreHalves s u t
swapped s t u a = record {
  each = λ h. or-swap (matches u h) (matches t h) ∙ a.each h;
  once = λ h. and-swap (matches u h) (matches t h) ∙ a.once h;
}

pub is_lower : (s : Segment) → IsSegment s → (s.mask ≡ max_mask → ⊥) → IsSegment (lower_half s)
is_lower s is below = record { power = doubled s.mask is.power; mask = room s.mask is.power (let m = is.mask in omega arith); id = (let i = is.id in omega arith) }

pub is_upper : (s : Segment) → IsSegment s → (s.mask ≡ max_mask → ⊥) → IsSegment (upper_half s)
is_upper s is below = record { power = doubled s.mask is.power; mask = room s.mask is.power (let m = is.mask in omega arith); id = (let i = is.id in omega arith) }

-- ---- partners

with_id : Segment → ℕ → Segment
with_id s n = record { id = n; mask = s.mask }

pub flipped-low : (s : Segment) → s.id < (s.mask + 1) / 2 → flipped s ≡ s.id + (s.mask + 1) / 2
flipped-low s low = ap (λ b. if b then s.id + (s.mask + 1) / 2 else s.id - (s.mask + 1) / 2) (lt-ltb s.id ((s.mask + 1) / 2) low)

pub flipped-high : (s : Segment) → (s.mask + 1) / 2 ≤ s.id → flipped s ≡ s.id - (s.mask + 1) / 2
flipped-high s high = ap (λ b. if b then s.id + (s.mask + 1) / 2 else s.id - (s.mask + 1) / 2) (le-ltb s.id ((s.mask + 1) / 2) high)

twice : (s : Segment) → IsSegment s → 0 < s.mask → (b : Bool) → nat_lt s.id ((s.mask + 1) / 2) ≡ b → flipped (with_id s (flipped s)) ≡ s.id
unfolding with_id
twice s is low true e =
    let half = even s.mask is.power low in
    let once = flipped-low s (ltb-true s.id ((s.mask + 1) / 2) e) in
    ap (λ n. flipped (with_id s n)) once ∙ flipped-high (with_id s (s.id + (s.mask + 1) / 2)) (omega arith) ∙ omega arith
twice s is low false e =
    let half = even s.mask is.power low in
    let i = is.id in
    let high = ltb-false s.id ((s.mask + 1) / 2) e in
    let once = flipped-high s high in
    ap (λ n. flipped (with_id s n)) once ∙ flipped-low (with_id s (s.id - (s.mask + 1) / 2)) (omega arith) ∙ omega arith

partner-some : (s : Segment) → 0 < s.mask → partner s ≡ Some (with_id s (flipped s))
unfolding with_id
partner-some s low = ap (λ b. if b then None else Some (with_id s (flipped s))) (nonzero (s.mask == 0) refl)
  where
    nonzero : (b : Bool) → (s.mask == 0) ≡ b → b ≡ false
    nonzero true e = absurd (let none = eqb-true s.mask 0 e in omega arith)
    nonzero false e = refl

-- the partner of the partner is the segment
pub partner-partner : (s : Segment) (n : ℕ) → IsSegment s → 0 < s.mask → n ≡ flipped s → partner (record { id = n; mask = s.mask }) ≡ Some s
unfolding with_id
partner-partner s n is low e =
    ap (λ n. partner (with_id s n)) e
    ∙ partner-some (with_id s (flipped s)) low
    ∙ ap (λ n. Some (with_id s n)) (twice s is low (nat_lt s.id ((s.mask + 1) / 2)) refl)

-- ---- the segment that two halves are of

-- the two are the halves of a segment
pub record AreParts (whole s t : Segment) : Type 0 where
  pub is : IsSegment whole
  pub halves : AreHalves whole s t

part_of : ℕ → ℕ → Segment
part_of n m = record { id = n; mask = m }

-- halves by equal numbers
moved : (h w a b k n c d m : ℕ) → w ≡ n → a ≡ c → b ≡ d → k ≡ m → AreHalves (part_of w h) (part_of a k) (part_of b k) → AreHalves (part_of n h) (part_of c m) (part_of d m)
moved h w a b k n c d m e f g l x =
    subst (λ n. AreHalves (part_of n h) (part_of c m) (part_of d m)) e
    (subst (λ c. AreHalves (part_of w h) (part_of c m) (part_of d m)) f
    (subst (λ d. AreHalves (part_of w h) (part_of a m) (part_of d m)) g (subst (λ m. AreHalves (part_of w h) (part_of a m) (part_of b m)) l x)))

parts : (i j m : ℕ) → IsSegment (part_of i m) → 0 < m → j ≡ flipped (part_of i m) → (b : Bool) → nat_lt i ((m + 1) / 2) ≡ b → AreParts (part_of (min i j) (m / 2)) (part_of i m) (part_of j m)
unfolding part_of
parts i j m is low e true g =
    let half = even m is.power low in
    let below = ltb-true i ((m + 1) / 2) g in
    let other : i + (m / 2 + 1) ≡ j = (let f = flipped-low (part_of i m) below in omega arith) in
    let first : i ≡ min i j = omega arith in
    let most = is.mask in
    record {
      is = record { power = halved m is.power low; mask = omega arith; id = omega arith };
      halves = moved (m / 2) i i (i + (m / 2 + 1)) (2 * (m / 2) + 1) (min i j) i j m first refl other (sym half) (are_halves (part_of i (m / 2)) (omega arith));
    }
parts i j m is low e false g =
    let half = even m is.power low in
    let above = ltb-false i ((m + 1) / 2) g in
    let other : j + (m / 2 + 1) ≡ i = (let f = flipped-high (part_of i m) above in omega arith) in
    let first : j ≡ min i j = omega arith in
    let most = is.mask in
    let within = is.id in
    let halves = swapped (part_of j (m / 2)) (part_of j (2 * (m / 2) + 1)) (part_of (j + (m / 2 + 1)) (2 * (m / 2) + 1)) (are_halves (part_of j (m / 2)) (omega arith)) in
    record {
      is = record { power = halved m is.power low; mask = omega arith; id = omega arith };
      halves = moved (m / 2) j (j + (m / 2 + 1)) j (2 * (m / 2) + 1) (min i j) i j m first other refl (sym half) halves;
    }

-- a segment and its partner are halves of one
pub are_parts : (s p t : Segment) (n m : ℕ) → IsSegment s → partner s ≡ Some p → same_segment p t ≡ true → n ≡ min s.id t.id → m ≡ s.mask / 2 → AreParts (record { id = n; mask = m }) s t
unfolding part_of with_id
are_parts s p t n m is e f k l = subst (λ n. AreParts (part_of n m) s t) (sym k) (subst (λ m. AreParts (part_of (min s.id t.id) m) s t) (sym l) (at (s.mask == 0) refl))
  where
    at : (b : Bool) → (s.mask == 0) ≡ b → AreParts (part_of (min s.id t.id) (s.mask / 2)) s t
    at true g = let none : None ≡ Some p = sym (ap (λ b. if b then None else Some (with_id s (flipped s))) g) ∙ e in absurd (cc)
    at false g =
        let low : 0 < s.mask = omega (arith, eqb-false s.mask 0 g) in
        let is_p : with_id s (flipped s) ≡ p = (let h : Some (with_id s (flipped s)) ≡ Some p = sym (partner-some s low) ∙ e in cc) in
        let same = both (p.id == t.id) (p.mask == t.mask) f in
        let id : t.id ≡ flipped s = sym (ap (λ (x : Segment). x.id) is_p ∙ eqb-true p.id t.id same.0) in
        let mask : s.mask ≡ t.mask = ap (λ (x : Segment). x.mask) is_p ∙ eqb-true p.mask t.mask same.1 in
        subst (λ m. AreParts (part_of (min s.id t.id) (s.mask / 2)) s (part_of t.id m)) mask (parts s.id t.id s.mask is low id (nat_lt s.id ((s.mask + 1) / 2)) refl)
