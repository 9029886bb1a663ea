-- Distinct names and their numbers.
use Rattle.std.proofs.Common.{◌≡◌, ℕ, zero, suc, ◌<◌, ◌==◌, Bool, true, false, not, List, [], ◌∷◌, length, refl, sym, ap, ◌∙◌, subst, arith, if◌then◌else◌}
use Rattle.std.specs.List.{list_any}
use Rattle.std.proofs.lemmas.Bool.Decides.{nat_tests}
use Rattle.std.proofs.lemmas.Slice.Eq.{bytes_eq-Decides}
use Rattle.ax_values.specs.Grammar.{Name}
use Rattle.ax_values.specs.Words.{same_name}
use Rattle.ax_laws.proofs.Tests.{both, not-true, or-left, or-right, same-bool, apart}
use Rattle.ax_sheet.specs.Declarations.{names_differ}
use Rattle.ax_state.specs.Setting.{name_at}
use Rattle.ax_script.specs.Judging.{actor_place}

same-itself : (n : Name) → same_name n n ≡ true
same-itself n = (bytes_eq-Decides n n).1 refl

same-turned : (a b : Name) → same_name a b ≡ true → same_name b a ≡ true
same-turned a b e = (bytes_eq-Decides b a).1 (sym ((bytes_eq-Decides a b).0 e))

same-either : (a b : Name) → same_name a b ≡ same_name b a
same-either a b = same-bool (same_name a b) (same_name b a) (same-turned a b) (same-turned b a)

-- a name that stands at a number is among them
among : (n : Name) (names : List Name) (k : ℕ) → k < length names → same_name n (name_at names k) ≡ true → list_any (λ b. same_name n b) names ≡ true
among n [] k lt e = absurd (omega (arith, lt))
among n (a ∷ names) zero lt e = or-left (same_name n a) (list_any (λ b. same_name n b) names) e
among n (a ∷ names) (suc k) lt e = or-right (same_name n a) (list_any (λ b. same_name n b) names) (among n names k (omega (arith, lt)) e)

suc-same : (p k : ℕ) → (suc p == suc k) ≡ (p == k)
suc-same p k = same-bool (suc p == suc k) (p == k) (λ e. grind (arith, nat_tests, e)) (λ e. grind (arith, nat_tests, e))

-- among distinct names the number of a name is k exactly where it is the name of that number
pub place-is : (names : List Name) (k : ℕ) (x : Name) → names_differ names ≡ true → k < length names → (actor_place names x == k) ≡ same_name x (name_at names k)
place-is [] k x d lt = absurd (omega (arith, lt))
place-is (n ∷ names) zero x d lt = at (same_name n x) (same-either n x)
  where
    at : (b : Bool) → b ≡ same_name x n → ((if b then 0 else suc (actor_place names x)) == 0) ≡ same_name x n
    at true e = e
    at false e = let no : (suc (actor_place names x) == 0) ≡ false = grind (arith, nat_tests) in no ∙ e
place-is (n ∷ names) (suc k) x d lt = at (same_name n x) refl (place-is names k x parts.1 (omega (arith, lt)))
  where
    parts : (not (list_any (λ b. same_name n b) names) ≡ true) × (names_differ names ≡ true)
    parts = both (not (list_any (λ b. same_name n b) names)) (names_differ names) d

    here : same_name n x ≡ true → same_name x (name_at names k) ≡ true → ⊥
    here e f =
        let is : n ≡ x = (bytes_eq-Decides n x).0 e in
        let twice : same_name n (name_at names k) ≡ true = subst (λ (y : Name). same_name y (name_at names k) ≡ true) (sym is) f in
        apart (list_any (λ b. same_name n b) names) (among n names k (omega (arith, lt)) twice) (not-true (list_any (λ b. same_name n b) names) parts.0)

    none : (b : Bool) → same_name x (name_at names k) ≡ b → same_name n x ≡ true → same_name x (name_at names k) ≡ false
    none true e f = absurd (here f e)
    none false e f = e

    at : (b : Bool) → same_name n x ≡ b → (actor_place names x == k) ≡ same_name x (name_at names k) → ((if b then 0 else suc (actor_place names x)) == suc k) ≡ same_name x (name_at names k)
    at true e ih = let no : (0 == suc k) ≡ false = grind (arith, nat_tests) in no ∙ sym (none (same_name x (name_at names k)) refl e)
    at false e ih = suc-same (actor_place names x) k ∙ ih

-- the number of the name that stands at a number
pub place-of : (names : List Name) (k : ℕ) → names_differ names ≡ true → k < length names → actor_place names (name_at names k) ≡ k
place-of names k d lt =
    let there : (actor_place names (name_at names k) == k) ≡ true = place-is names k (name_at names k) d lt ∙ same-itself (name_at names k) in
    grind (arith, nat_tests, there)

-- two numbers have the same name exactly where they are equal
pub names-same : (names : List Name) (k j : ℕ) → names_differ names ≡ true → k < length names → j < length names → same_name (name_at names k) (name_at names j) ≡ (k == j)
names-same names k j d lk lj = sym (place-is names j (name_at names k) d lj) ∙ ap (λ n. n == j) (place-of names k d lk)
