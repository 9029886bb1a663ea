-- The choice of a sequence, one after another.
use Rattle.std.proofs.Common.{◌≡◌, ℕ, Bool, true, false, Option, Some, None, refl, sym, ap, ◌∙◌, nat_lt, arith}
use Rattle.std.specs.Prelude.{if◌then◌else◌}
use Rattle.std.proofs.lemmas.Bool.Decides.{nat_tests}
use Rattle.ax_letters.specs.Letters.{Sequence, first_touched, older, older_of, later_older}

-- the oldest of one before and of those that come
abbrev pub oldest_after : Option Sequence → Option Sequence → Option Sequence
oldest_after None o = o
oldest_after (Some s) o = Some (older s o)

touched : Sequence → ℕ
touched s = first_touched s.letters

older-by : (s t u : Sequence) (p q r : Bool) → nat_lt (first_touched t.letters) (first_touched s.letters) ≡ p → nat_lt (first_touched u.letters) (first_touched t.letters) ≡ q
    → nat_lt (first_touched u.letters) (first_touched s.letters) ≡ r → older_of s (if q then u else t) ≡ older_of (if p then t else s) u
older-by s t u true true r hp hq hr =
    let lower : r ≡ true = grind (arith, nat_tests) in
    ap (λ b. if b then u else s) (hr ∙ lower) ∙ sym (ap (λ b. if b then u else t) hq)
older-by s t u true false r hp hq hr = ap (λ b. if b then t else s) hp ∙ sym (ap (λ b. if b then u else t) hq)
older-by s t u false true r hp hq hr = refl
older-by s t u false false r hp hq hr =
    let higher : r ≡ false = grind (arith, nat_tests) in
    ap (λ b. if b then t else s) hp ∙ sym (ap (λ b. if b then u else s) (hr ∙ higher))

pub older_of-older_of : (s t u : Sequence) → older_of s (older_of t u) ≡ older_of (older_of s t) u
older_of-older_of s t u = older-by s t u _ _ _ refl refl refl

-- the next one is taken in
pub oldest-next : (o : Option Sequence) (s : Sequence) (rest : Option Sequence) → oldest_after o (Some (older s rest)) ≡ oldest_after (Some (later_older o s)) rest
oldest-next None s rest = refl
oldest-next (Some t) s None = refl
oldest-next (Some t) s (Some u) = ap Some (older_of-older_of t s u)
