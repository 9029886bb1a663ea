-- Powers of two, and the masks below them.
use Rattle.std.proofs.Common.{◌≡◌, ℕ, zero, suc, ◌+◌, ◌*◌, ◌-◌, ◌/◌, ◌%◌, ◌^◌, ◌<◌, ◌≤◌, nat_lt, Bool, true, false, IsTrue, refl, sym, ap, subst, ◌∙◌, arith, lit<}
use Rattle.std.specs.Int.{is_power_of_two}
use Rattle.std.proofs.Math.Nat.{pow-suc, pow-le-pow_right}
use Rattle.std.proofs.lemmas.Nat.{pow_pos, and_mask}
use borrow.Author.Tests.{eqb-true, eq-eqb, ltb-true, ltb-false}
use Rattle.std.specs.Int.Bits.{bit_and}
use lib.Count.{ones, ones_in}

no_ones : (d n : ℕ) → n ≤ d → ones_in d n ≡ 0 → n ≡ 0
unfolding ones_in
no_ones zero n h e = omega arith
no_ones (suc d) n h e = let half : n / 2 ≡ 0 = no_ones d (n / 2) (omega arith) (omega arith) in omega arith

none_in : (d : ℕ) → ones_in d 0 ≡ 0
unfolding ones_in
none_in zero = refl
none_in (suc d) = ap (λ n. 0 + n) (none_in d)

-- an exponent
pub record IsPower (n : ℕ) : Type 0 where
  pub exponent : ℕ
  pub is : n ≡ 2 ^ exponent

double : (k : ℕ) → 2 ^ suc k ≡ 2 * 2 ^ k
double k = omega (arith, pow-suc 2 k)

power_in : (d n : ℕ) → n ≤ d → ones_in d n ≡ 1 → IsPower n
unfolding ones_in
power_in zero n h e = absurd (omega arith)
power_in (suc d) n h e = at (n % 2) refl (power_in d (n / 2) (omega arith))
  where
    at : (r : ℕ) → n % 2 ≡ r → (ones_in d (n / 2) ≡ 1 → IsPower (n / 2)) → IsPower n
    at zero q again = let half = again (omega arith) in record { exponent = suc half.exponent; is = omega (arith, double half.exponent, half.is) }
    at (suc r) q again = let none : n / 2 ≡ 0 = no_ones d (n / 2) (omega arith) (omega arith) in record { exponent = 0; is = omega arith }

ones_at : (k d : ℕ) → 2 ^ k ≤ d → ones_in d (2 ^ k) ≡ 1
unfolding ones_in
ones_at k zero h = absurd (omega (arith, pow_pos k))
ones_at zero (suc d) h = ap (λ n. 1 + n) (none_in d)
ones_at (suc k) (suc d) h =
    let half : 2 ^ suc k / 2 ≡ 2 ^ k = omega (arith, double k) in
    let even : 2 ^ suc k % 2 ≡ 0 = omega (arith, double k) in
    ap (λ n. 2 ^ suc k % 2 + ones_in d n) half ∙ ap (λ n. n + ones_in d (2 ^ k)) even ∙ ap (λ n. 0 + n) (ones_at k d (omega (arith, double k, pow_pos k)))

pub power : (n : ℕ) → IsTrue (is_power_of_two n) → IsPower n
unfolding ones
power n h = power_in n n (omega arith) (eqb-true (ones n) 1 h)

pub is_power : (k : ℕ) → IsTrue (is_power_of_two (2 ^ k))
unfolding ones
is_power k = eq-eqb (ones (2 ^ k)) 1 (ones_at k (2 ^ k) (omega arith))

-- a mask of 2 ^ (j + 1) - 1 has a bit that the mask of half of it lacks
pub even : (m : ℕ) → IsTrue (is_power_of_two (m + 1)) → 0 < m → m ≡ 2 * (m / 2) + 1
even m h low = at p.exponent p.is
  where
    p : IsPower (m + 1)
    p = power (m + 1) h

    at : (k : ℕ) → m + 1 ≡ 2 ^ k → m ≡ 2 * (m / 2) + 1
    at zero e = absurd (omega arith)
    at (suc k) e = omega (arith, double k)

pub halved : (m : ℕ) → IsTrue (is_power_of_two (m + 1)) → 0 < m → IsTrue (is_power_of_two (m / 2 + 1))
halved m h low = at p.exponent p.is
  where
    p : IsPower (m + 1)
    p = power (m + 1) h

    at : (k : ℕ) → m + 1 ≡ 2 ^ k → IsTrue (is_power_of_two (m / 2 + 1))
    at zero e = absurd (omega arith)
    at (suc k) e = let half : 2 ^ k ≡ m / 2 + 1 = omega (arith, double k) in subst (λ n. IsTrue (is_power_of_two n)) half (is_power k)

pub doubled : (m : ℕ) → IsTrue (is_power_of_two (m + 1)) → IsTrue (is_power_of_two (2 * m + 1 + 1))
doubled m h =
    let p = power (m + 1) h in
    let both : 2 ^ suc p.exponent ≡ 2 * m + 1 + 1 = omega (arith, double p.exponent, p.is) in
    subst (λ n. IsTrue (is_power_of_two n)) both (is_power (suc p.exponent))

-- below the last mask, twice a mask and one is a mask still
pub room : (m : ℕ) → IsTrue (is_power_of_two (m + 1)) → m < 65535 → 2 * m + 1 ≤ 65535
room m h low = at (nat_lt p.exponent 16) refl
  where
    p : IsPower (m + 1)
    p = power (m + 1) h

    at : (b : Bool) → nat_lt p.exponent 16 ≡ b → 2 * m + 1 ≤ 65535
    at true e =
        let below : suc p.exponent ≤ 16 = omega (arith, ltb-true p.exponent 16 e) in
        let most : 2 ^ suc p.exponent ≤ 65536 = pow-le-pow_right (lit< tt) below in
        omega (arith, most, double p.exponent, p.is)
    at false e =
        let above : 16 ≤ p.exponent = ltb-false p.exponent 16 e in
        let least : 65536 ≤ 2 ^ p.exponent = pow-le-pow_right (lit< tt) above in
        absurd (omega (arith, least, p.is))

-- the bits of a mask are the remainder
pub masked : (h m : ℕ) → IsTrue (is_power_of_two (m + 1)) → bit_and h m ≡ h % (m + 1)
masked h m e =
    let p = power (m + 1) e in
    let is : m ≡ 2 ^ p.exponent - 1 = omega (arith, p.is) in
    ap (bit_and h) is ∙ and_mask h p.exponent ∙ ap (λ n. h % n) (sym p.is)
