-- Declarations and actors, where one comes to them.
use Rattle.std.proofs.Common.{◌≡◌, suc, ◌<◌, nat_lt, Bool, true, false, not, ◌||◌, List, [], ◌∷◌, ◌++◌, length, map, if◌then◌else◌, refl, ap, ◌∙◌, arith}
use Rattle.std.specs.List.{list_all, list_any}
use Rattle.std.proofs.lemmas.Bool.Decides.{nat_tests}
use Rattle.std.proofs.lemmas.List.Folds.{list_any-append}
use Rattle.ax_values.specs.Grammar.{Name}
use Rattle.ax_values.specs.Words.{same_name, place_where}
use Rattle.ax_laws.proofs.Tests.{both, and-true, not-true}
use Rattle.ax_sheet.specs.Declarations.{names_differ}

pub no-either : (a b : Bool) → (a || b) ≡ false → (a ≡ false) × (b ≡ false)
no-either true b h = cc
no-either false b h = (refl, h)

-- a name that is not among them
pub differ-one : (names : List Name) (a : Name) → names_differ names ≡ true → list_any (λ b. same_name b a) names ≡ false → names_differ (names ++ a ∷ []) ≡ true
differ-one [] a h k = refl
differ-one (b ∷ names) a h k =
    let p = both (not (list_any (λ c. same_name b c) names)) (names_differ names) h in
    let q = no-either (same_name b a) (list_any (λ c. same_name c a) names) k in
    let none : list_any (λ c. same_name b c) (names ++ a ∷ []) ≡ false =
    list_any-append (λ c. same_name b c) names (a ∷ []) ∙ (ap (λ t. t || (same_name b a || false)) (not-true (list_any (λ c. same_name b c) names) p.0) ∙ ap (λ t. t || false) q.0)
    in and-true (not (list_any (λ c. same_name b c) (names ++ a ∷ []))) (names_differ (names ++ a ∷ [])) (ap not none) (differ-one names a p.1 q.1)

-- a test of names, by what they name
pub any-map : {A : Type 0} (name : A → Name) (a : Name) (xs : List A) → list_any (λ b. same_name b a) (map name xs) ≡ list_any (λ x. same_name (name x) a) xs
any-map name a [] = refl
any-map name a (x ∷ xs) = ap (λ t. same_name (name x) a || t) (any-map name a xs)

-- the place of an actor that is declared
pub place-within : (actors : List Name) (a : Name) → list_any (λ b. same_name b a) actors ≡ true → place_where (λ b. same_name b a) actors < length actors
place-within [] a h = cc
place-within (b ∷ actors) a h = at (same_name b a) h (place-within actors a)
  where
    at : (t : Bool) → (t || list_any (λ b. same_name b a) actors) ≡ true → (list_any (λ b. same_name b a) actors ≡ true → place_where (λ b. same_name b a) actors < length actors) →
        (if t then 0 else suc (place_where (λ b. same_name b a) actors)) < suc (length actors)
    at true e ih = omega arith
    at false e ih = let lt : place_where (λ b. same_name b a) actors < length actors = ih e in omega (arith, lt)

pub places-within : (actors names : List Name) → list_all (λ a. list_any (λ b. same_name b a) actors) names ≡ true →
    list_all (λ k. nat_lt k (length actors)) (map (λ a. place_where (λ b. same_name b a) actors) names) ≡ true
places-within actors [] h = refl
places-within actors (a ∷ names) h =
    let p = both (list_any (λ b. same_name b a) actors) (list_all (λ a. list_any (λ b. same_name b a) actors) names) h in
    let lt = place-within actors a p.0 in
    and-true (nat_lt (place_where (λ b. same_name b a) actors) (length actors)) (list_all (λ k. nat_lt k (length actors)) (map (λ a. place_where (λ b. same_name b a) actors) names))
    (grind (arith, nat_tests, lt)) (places-within actors names p.1)
