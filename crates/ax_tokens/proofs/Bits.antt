-- The half that serves a hash, by the bits of the hash above the mask.
use Rattle.std.specs.Prelude.{◌≡◌, ℕ, zero, suc, ◌+◌, ◌*◌, ◌/◌, ◌%◌, ◌<◌, ◌≤◌, ◌==◌, not, ◌&&◌, if◌then◌else◌}
use Rattle.std.proofs.Common.{refl, ap, sym, ◌∙◌, arith}
use Rattle.std.proofs.Math.Nat.{mod-lt, div-div-eq-div-mul}
use Rattle.std.proofs.lemmas.Bool.Decides.{nat_tests}
use Rattle.ax_segments.specs.Segments.{Segment, matches, is_upper, half_mask, lower_half, upper_half}
use Rattle.ax_segments.proofs.Halves.{mod-double}
use Rattle.ax_tokens.specs.Tokens.{Token, plain, merged, replay, half}

-- the half that serves a hash whose bits above the mask are these
abbrev pub half_by : Token → ℕ → Token
half_by (plain p) bits = plain p
half_by (merged l u) bits = if bits % 2 == 1 then half_by u (bits / 2) else half_by l (bits / 2)
half_by (replay r c) bits = replay r c

div-double : (h m : ℕ) → h / (half_mask m + 1) ≡ h / (m + 1) / 2
div-double h m =
    let e : half_mask m + 1 ≡ (m + 1) * 2 = omega arith in
    ap (λ n. h / n) e ∙ sym (div-div-eq-div-mul h (m + 1) 2)

pub half-by : (t : Token) (mask h : ℕ) → half t mask h ≡ half_by t (h / (mask + 1))
half-by (plain p) mask h = refl
half-by (merged l u) mask h =
    ap (λ t. if is_upper mask h then t else half l (half_mask mask) h) (half-by u (half_mask mask) h ∙ ap (half_by u) (div-double h mask))
    ∙ ap (λ t. if is_upper mask h then half_by u (h / (mask + 1) / 2) else t) (half-by l (half_mask mask) h ∙ ap (half_by l) (div-double h mask))
half-by (replay r c) mask h = refl

-- ---- which half of a segment matches

-- what the next bit b and the low bits r of a hash say of the halves of a segment
bits-lower : (m id r b : ℕ) → id ≤ m → r < m + 1 → b < 2 → (b * (m + 1) + r == id) ≡ ((r == id) && (b == 0))
bits-lower m id r zero i low one = grind (arith, nat_tests)
bits-lower m id r (suc zero) i low one = grind (arith, nat_tests)
bits-lower m id r (suc (suc b)) i low one = absurd (omega arith)

bits-upper : (m id r b : ℕ) → id ≤ m → r < m + 1 → b < 2 → (b * (m + 1) + r == id + (m + 1)) ≡ ((r == id) && (b == 1))
bits-upper m id r zero i low one = grind (arith, nat_tests)
bits-upper m id r (suc zero) i low one = grind (arith, nat_tests)
bits-upper m id r (suc (suc b)) i low one = absurd (omega arith)

zero-or-one : (b : ℕ) → b < 2 → (b == 0) ≡ not (b == 1)
zero-or-one zero h = refl
zero-or-one (suc zero) h = refl
zero-or-one (suc (suc b)) h = absurd (omega arith)

pub matches-lower : (s : Segment) (h : ℕ) → s.id ≤ s.mask → matches (lower_half s) h ≡ (matches s h && not (is_upper s.mask h))
matches-lower s h i =
    ap (λ n. n == s.id) (mod-double h s.mask)
    ∙ bits-lower s.mask s.id (h % (s.mask + 1)) (h / (s.mask + 1) % 2) i (mod-lt h (omega arith)) (mod-lt (h / (s.mask + 1)) (omega arith))
    ∙ ap (λ b. matches s h && b) (zero-or-one (h / (s.mask + 1) % 2) (mod-lt (h / (s.mask + 1)) (omega arith)))

pub matches-upper : (s : Segment) (h : ℕ) → s.id ≤ s.mask → matches (upper_half s) h ≡ (matches s h && is_upper s.mask h)
matches-upper s h i =
    ap (λ n. n == s.id + (s.mask + 1)) (mod-double h s.mask)
    ∙ bits-upper s.mask s.id (h % (s.mask + 1)) (h / (s.mask + 1) % 2) i (mod-lt h (omega arith)) (mod-lt (h / (s.mask + 1)) (omega arith))
