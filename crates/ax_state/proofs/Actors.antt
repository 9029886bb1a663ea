-- No two actors have one name.
use Rattle.std.proofs.Common.{◌≡◌, ℕ, zero, suc, ◌<◌, ◌||◌, true, not, List, [], ◌∷◌, length, Some, slice_get, refl, sym, ap, ◌∙◌, arith}
use Rattle.std.specs.List.{list_any}
use Rattle.std.proofs.lemmas.Slice.Eq.{bytes_eq-Decides}
use Rattle.ax_values.specs.Grammar.{Name}
use Rattle.ax_values.specs.Words.{same_name}
use Rattle.ax_laws.proofs.Tests.{both, or-right}
use Rattle.ax_sheet.specs.Declarations.{names_differ}
use Rattle.ax_state.specs.Setting.{name_at}

has-name : (names : List Name) (a : Name) (j : ℕ) → slice_get names j ≡ Some a → list_any (λ c. same_name a c) names ≡ true
has-name [] a j e = absurd (cc)
has-name (c ∷ names) a zero e = let is : c ≡ a = cc in ap (λ d. d || list_any (λ c. same_name a c) names) ((bytes_eq-Decides a c).1 (sym is))
has-name (c ∷ names) a (suc j) e = or-right (same_name a c) (list_any (λ c. same_name a c) names) (has-name names a j e)

-- a name that stands again later is not the first of names that differ
not-again : (c : Name) (names : List Name) (j : ℕ) (a : Name) → names_differ (c ∷ names) ≡ true → c ≡ a → slice_get names j ≡ Some a → ⊥
not-again c names j a d is f =
    let has : list_any (λ x. same_name c x) names ≡ true = ap (λ n. list_any (λ x. same_name n x) names) is ∙ has-name names a j f in
    let no : not (list_any (λ x. same_name c x) names) ≡ true = (both (not (list_any (λ x. same_name c x) names)) (names_differ names) d).0 in
    let never : not true ≡ true = ap not (sym has) ∙ no in cc

name-once : (names : List Name) (i j : ℕ) (a : Name) → names_differ names ≡ true → slice_get names i ≡ Some a → slice_get names j ≡ Some a → i ≡ j
name-once [] i j a d e f = absurd (cc)
name-once (c ∷ names) zero zero a d e f = refl
name-once (c ∷ names) zero (suc j) a d e f = absurd (not-again c names j a d (cc) f)
name-once (c ∷ names) (suc i) zero a d e f = absurd (not-again c names i a d (cc) e)
name-once (c ∷ names) (suc i) (suc j) a d e f = ap suc (name-once names i j a (both (not (list_any (λ x. same_name c x) names)) (names_differ names) d).1 e f)

get-name : (names : List Name) (i : ℕ) → i < length names → slice_get names i ≡ Some (name_at names i)
get-name [] i lt = absurd (omega arith)
get-name (a ∷ names) zero lt = refl
get-name (a ∷ names) (suc i) lt = get-name names i (omega arith)

pub same-actor : (names : List Name) (i j : ℕ) → names_differ names ≡ true → i < length names → j < length names → name_at names i ≡ name_at names j → i ≡ j
same-actor names i j d lt_i lt_j same = name-once names i j (name_at names j) d (get-name names i lt_i ∙ ap Some same) (get-name names j lt_j)
