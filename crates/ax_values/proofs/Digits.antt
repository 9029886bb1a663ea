-- The value of digits does not fall as digits come.
use Rattle.std.proofs.Common.{ℕ, ◌^◌, ◌≤◌, ◌<◌, ◌≡◌, List, [], ◌∷◌, fold, arith, nat_lt, sym, ap, ◌∙◌, Some, None, true, false, Bool}
use Rattle.std.proofs.lemmas.Bool.Decides.{nat_tests}
use Rattle.ax_values.specs.Grammar.{when}
use Rattle.ax_values.specs.Grammar.{digit_step}

pub grows : (cs : List ℕ) (n : ℕ) → n ≤ fold digit_step n cs
grows [] n = omega arith
grows (c ∷ cs) n = omega (arith, grows cs (digit_step n c))

none_past : (b : Bool) (m : ℕ) → b ≡ false → None ≡ when b m
none_past b m e = ap (λ b. when b m) (sym e)

some_within : (b : Bool) (n m : ℕ) → b ≡ true → n ≡ m → Some n ≡ when b m
some_within b n m e f = ap Some f ∙ ap (λ b. when b m) (sym e)

-- from a value past the top, none comes
pub past : (cs : List ℕ) (n m : ℕ) → fold digit_step n cs ≡ m → 2 ^ 64 ≤ n → None ≡ when (nat_lt m (2 ^ 64)) m
past cs n m e h = none_past _ m (grind (arith, nat_tests, grows cs n))

pub within : (n m : ℕ) → n ≡ m → n < 2 ^ 64 → Some n ≡ when (nat_lt m (2 ^ 64)) m
within n m e h = some_within _ n m (grind (arith, nat_tests)) e
