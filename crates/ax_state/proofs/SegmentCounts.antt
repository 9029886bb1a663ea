-- The counts of segments that a processor may start with.
use Rattle.std.proofs.Common.{◌≡◌, ℕ, ◌≤◌, ◌==◌, ◌||◌, Bool, true, false, IsTrue, refl, subst, arith}
use Rattle.std.specs.Int.{is_power_of_two}
use Rattle.std.proofs.lemmas.Bool.Decides.{nat_tests}
use lib.Count.{ones}
use Rattle.ax_sheet.specs.Declarations.{is_segment_count}

is_one : (n k : ℕ) (rest : Bool) (P : ℕ → Type 0) → ((k == n) || rest) ≡ true → P k → (rest ≡ true → P n) → P n
is_one n k rest P h p more = at (k == n) refl h
  where
    at : (b : Bool) → (k == n) ≡ b → (b || rest) ≡ true → P n
    at true e h = let same : k ≡ n = grind (arith, nat_tests, e) in subst P same p
    at false e h = more h

record IsCount (n : ℕ) : Type 0 where
  power : IsTrue (is_power_of_two n)
  few : n ≤ 16

counted : (n : ℕ) → IsTrue (is_segment_count n) → IsCount n
unfolding ones
counted n h =
    is_one n 1 _ IsCount h (record { power = refl; few = omega arith }) (λ h.
    is_one n 2 _ IsCount h (record { power = refl; few = omega arith }) (λ h.
    is_one n 4 _ IsCount h (record { power = refl; few = omega arith }) (λ h.
    is_one n 8 _ IsCount h (record { power = refl; few = omega arith }) (λ h.
    is_one n 16 _ IsCount h (record { power = refl; few = omega arith }) (λ h. absurd (cc))))))

pub power_of_count : (n : ℕ) → IsTrue (is_segment_count n) → IsTrue (is_power_of_two n)
power_of_count n h = (counted n h).power

pub few_of_count : (n : ℕ) → IsTrue (is_segment_count n) → n ≤ 16
few_of_count n h = (counted n h).few

pub ruleset segment_counts = (power_of_count, few_of_count)
