-- Numbers and ints: what is written is read again, and what is read is written so.
use Rattle.std.proofs.Common.{◌≡◌, ℕ, zero, suc, ◌+◌, ◌*◌, ◌-◌, ◌^◌, ◌<◌, ◌≤◌, ◌==◌, Bool, true, false, ◌&&◌, ◌||◌, List, [], ◌∷◌, length, get_or, fold, Option, Some, None, option_map, option_and_then, IfSome, ℤ, pos, negsuc, nat_le, nat_lt, refl, sym, ap, subst, ◌∙◌, arith}
use lib.Signed.{mag}
use Rattle.std.specs.List.{list_all}
use Rattle.std.specs.Fmt.{decimal, signed_decimal}
use Rattle.std.proofs.lemmas.Bool.Decides.{nat_tests}
use Rattle.std.proofs.lemmas.Fmt.{decimal_nonempty, first_decimal, decimal_digit, digits_decimal, digits_value-decimal, decimal-digits_value}
use Rattle.std.proofs.lemmas.Str.Parse.{IsNumeralModel, IsDigitsTest, FoldsDigits, numerals_by_fold}
use Rattle.ax_values.specs.Grammar.{Line, when, is_digit, is_numeral, digit_step, digits_value, number_to, negated, int_in, int_by}
use Rattle.ax_laws.proofs.Tests.{both, and-true}
use Rattle.ax_values.proofs.Options.{when-some, then-some, map-some}

tests : IsDigitsTest (λ ds. list_all is_digit ds ≡ true)
tests = record {
  empty = refl;
  parts = λ c cs h. (let p = both (is_digit c) (list_all is_digit cs) h in grind (arith, nat_tests), (both (is_digit c) (list_all is_digit cs) h).1);
  more = λ c cs r h. grind (arith, nat_tests);
}

folds : FoldsDigits (fold digit_step)
folds = record {
  empty = λ n. refl;
  more = λ n c cs r. let e : digit_step n c ≡ n * 10 + (c - 48) = omega arith in ap (λ m. fold digit_step m cs) e;
}

own : IsNumeralModel (λ ds. list_all is_digit ds ≡ true) digits_value
own = numerals_by_fold _ tests (fold digit_step) folds

-- a numeral is digits, one at least, and no `0` leads others
record IsNumeral (ds : List ℕ) : Type 0 where
  digits : list_all is_digit ds ≡ true
  filled : 0 < length ds
  leads : get_or ds 0 0 ≡ 48 → length ds ≡ 1

from_numeral : (ds : List ℕ) → is_numeral ds ≡ true → IsNumeral ds
from_numeral [] h = cc
from_numeral (c ∷ []) h = record { digits = ap (λ b. b && true) h; filled = omega arith; leads = λ _. refl }
from_numeral (c ∷ d ∷ cs) h =
    let p : (nat_lt 48 c ≡ true) × (list_all is_digit (c ∷ d ∷ cs) ≡ true) = both (nat_lt 48 c) (list_all is_digit (c ∷ d ∷ cs)) h in
    record { digits = p.1; filled = omega arith; leads = λ e. grind (arith, nat_tests, p.0) }

to_numeral : (ds : List ℕ) → IsNumeral ds → is_numeral ds ≡ true
to_numeral [] h = absurd (omega (arith, h.filled))
to_numeral (c ∷ []) h = (both (is_digit c) true h.digits).0
to_numeral (c ∷ d ∷ cs) h =
    let first : is_digit c ≡ true = (both (is_digit c) (list_all is_digit (d ∷ cs)) h.digits).0 in
    let apart : c ≡ 48 → ⊥ = λ e. omega (arith, h.leads e) in
    let above : nat_lt 48 c ≡ true = grind (arith, nat_tests) in
    ap (λ b. b && list_all is_digit (c ∷ d ∷ cs)) above ∙ h.digits

leads_alone : (n : ℕ) → n < 2 ^ 64 → get_or (decimal n) 0 0 ≡ 48 → length (decimal n) ≡ 1
leads_alone zero h e = ap length (decimal_digit 0 (omega arith))
leads_alone (suc n) h e = absurd (omega (arith, first_decimal (suc n) (omega arith) h))

is_numeral-decimal : (n : ℕ) → n < 2 ^ 64 → is_numeral (decimal n) ≡ true
is_numeral-decimal n h =
    to_numeral (decimal n) (record { digits = digits_decimal own n h; filled = decimal_nonempty n h; leads = leads_alone n h })

pub number_to-decimal : (top n : ℕ) → n ≤ top → n < 2 ^ 64 → number_to top (decimal n) ≡ Some n
number_to-decimal top n h small =
    let value : digits_value (decimal n) ≡ n = digits_value-decimal own n small in
    let fits : nat_le n top ≡ true = grind (arith, nat_tests) in
    ap (λ v. when (is_numeral (decimal n) && nat_le v top) v) value
    ∙ ap (λ b. when (b && nat_le n top) n) (is_numeral-decimal n small)
    ∙ ap (λ b. when b n) fits

-- what is read as a number is written so, and is at most the top
pub record IsWritten (top n : ℕ) (w : Line) : Type 0 where
  pub text : decimal n ≡ w
  pub fits : n ≤ top

pub from_number_to : (top : ℕ) (w : Line) (n : ℕ) → top < 2 ^ 64 → number_to top w ≡ Some n → IsWritten top n w
from_number_to top w n high h =
    let p = when-some (is_numeral w && nat_le (digits_value w) top) (digits_value w) n h in
    let q = both (is_numeral w) (nat_le (digits_value w) top) p.0 in
    let f = from_numeral w q.0 in
    let low : digits_value w ≤ top = grind (arith, nat_tests, q.1) in
    record {
      text = ap decimal (sym p.1) ∙ decimal-digits_value own w f.digits f.filled f.leads (omega arith);
      fits = omega (arith, p.1);
    }

-- the digits of a number of 64 bits
pub written-digits : (w : Line) (r : Option ℕ) → is_numeral w ≡ true → r ≡ when (nat_lt (digits_value w) (2 ^ 64)) (digits_value w) → IfSome r (λ n. decimal n ≡ w)
written-digits w None h e = tt
written-digits w (Some n) h e =
    let p = when-some (nat_lt (digits_value w) (2 ^ 64)) (digits_value w) n (sym e) in
    let f = from_numeral w h in
    let low : digits_value w < 2 ^ 64 = grind (arith, nat_tests, p.0) in
    ap decimal (sym p.1) ∙ decimal-digits_value own w f.digits f.filled f.leads low

-- ---- ints

plain : (ds : Line) (n : ℕ) → is_numeral ds ≡ true → number_to (2 ^ 63 - 1) ds ≡ Some n → int_in ds ≡ Some (pos n)
plain [] n p h = cc
plain (c ∷ cs) n p h =
    let digit = (both (is_digit c) (list_all is_digit cs) (from_numeral (c ∷ cs) p).digits).0 in
    let apart : (c == 45) ≡ false = grind (arith, nat_tests, digit) in
    ap (λ b. int_by b c cs) apart ∙ ap (option_map pos) h

pub int_in-signed_decimal : (z : ℤ) → mag z < 2 ^ 63 → int_in (signed_decimal z) ≡ Some z
int_in-signed_decimal (pos n) h =
    plain (decimal n) n (is_numeral-decimal n (omega arith)) (number_to-decimal (2 ^ 63 - 1) n (omega arith) (omega arith))
int_in-signed_decimal (negsuc n) h =
    ap (option_and_then negated) (number_to-decimal (2 ^ 63) (suc n) (omega arith) (omega arith))

-- what is read as an int is written so, and has 64 bits
pub record IsWrittenInt (z : ℤ) (w : Line) : Type 0 where
  pub text : signed_decimal z ≡ w
  pub fits : mag z < 2 ^ 63

from_negated : (n : ℕ) (z : ℤ) (w : Line) → negated n ≡ Some z → IsWritten (2 ^ 63) n w → IsWrittenInt z (45 ∷ w)
from_negated zero z w h k = cc
from_negated (suc n) z w h k =
    let e : negsuc n ≡ z = cc in
    subst (λ z. IsWrittenInt z (45 ∷ w)) e (record { text = ap (λ ds. 45 ∷ ds) k.text; fits = omega (arith, k.fits) })

from_int_by : (b : Bool) (c : ℕ) (cs : Line) (z : ℤ) → (c == 45) ≡ b → int_by b c cs ≡ Some z → IsWrittenInt z (c ∷ cs)
from_int_by true c cs z e h =
    let p = then-some (number_to (2 ^ 63) cs) negated z h in
    let minus : 45 ≡ c = grind (arith, nat_tests) in
    subst (λ c. IsWrittenInt z (c ∷ cs)) minus (from_negated p.from z cs p.gives (from_number_to (2 ^ 63) cs p.from (omega arith) p.held))
from_int_by false c cs z e h =
    let p = map-some (number_to (2 ^ 63 - 1) (c ∷ cs)) pos z h in
    let k = from_number_to (2 ^ 63 - 1) (c ∷ cs) p.from (omega arith) p.held in
    subst (λ z. IsWrittenInt z (c ∷ cs)) p.gives (record { text = k.text; fits = omega (arith, k.fits) })

pub from_int : (w : Line) (z : ℤ) → int_in w ≡ Some z → IsWrittenInt z w
from_int [] z h = cc
from_int (c ∷ cs) z h = from_int_by (c == 45) c cs z refl h

-- ---- bytes

pub digits-decimal : (n : ℕ) → n < 2 ^ 64 → list_all is_digit (decimal n) ≡ true
digits-decimal n h = digits_decimal own n h

pub digits-number_to : (top : ℕ) (w : Line) (n : ℕ) → number_to top w ≡ Some n → list_all is_digit w ≡ true
digits-number_to top w n h =
    let p = when-some (is_numeral w && nat_le (digits_value w) top) (digits_value w) n h in
    (from_numeral w (both (is_numeral w) (nat_le (digits_value w) top) p.0).0).digits

abbrev pub is_int_byte : ℕ → Bool
is_int_byte c = is_digit c || (c == 45)

digits_int : (w : Line) → list_all is_digit w ≡ true → list_all is_int_byte w ≡ true
digits_int [] h = refl
digits_int (c ∷ cs) h =
    let p = both (is_digit c) (list_all is_digit cs) h in
    and-true (is_int_byte c) (list_all is_int_byte cs) (ap (λ b. b || (c == 45)) p.0) (digits_int cs p.1)

bytes_by : (b : Bool) (c : ℕ) (cs : Line) (z : ℤ) → (c == 45) ≡ b → int_by b c cs ≡ Some z → list_all is_int_byte (c ∷ cs) ≡ true
bytes_by true c cs z e h =
    let p = then-some (number_to (2 ^ 63) cs) negated z h in
    let minus : is_int_byte c ≡ true = grind (arith, nat_tests) in
    and-true (is_int_byte c) (list_all is_int_byte cs) minus (digits_int cs (digits-number_to (2 ^ 63) cs p.from p.held))
bytes_by false c cs z e h =
    let p = map-some (number_to (2 ^ 63 - 1) (c ∷ cs)) pos z h in
    digits_int (c ∷ cs) (digits-number_to (2 ^ 63 - 1) (c ∷ cs) p.from p.held)

pub bytes-int_in : (w : Line) (z : ℤ) → int_in w ≡ Some z → list_all is_int_byte w ≡ true
bytes-int_in [] z h = cc
bytes-int_in (c ∷ cs) z h = bytes_by (c == 45) c cs z refl h
