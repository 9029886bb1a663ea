-- What holds of each element with its number, and how many pass a test.
use Rattle.std.specs.Prelude.{ℕ, suc, ◌+◌, Bool, true, false, List, [], ◌∷◌, Option, Some, None}

-- each element, numbered from n on
abbrev pub AllFrom : {A : Type 0} → (ℕ → A → Type 0) → ℕ → List A → Type 0
AllFrom P n [] = Unit {0}
AllFrom P n (x ∷ xs) = P n x × AllFrom P (suc n) xs

abbrev pub one : Bool → ℕ
one true = 1
one false = 0

-- how many pass
abbrev pub count : {A : Type 0} → (A → Bool) → List A → ℕ
count t [] = 0
count t (x ∷ xs) = one (t x) + count t xs

abbrev pub option_or : {A : Type 0} → A → Option A → A
option_or d None = d
option_or d (Some x) = x
