-- What an item gives for a source is the content of a text.
use Rattle.std.proofs.Common.{◌≡◌, ℕ, ◌^◌, ◌<◌, ◌≤◌, Bool, true, ◌&&◌, List, [], ◌∷◌, length, refl, ap, ◌∙◌, arith}
use Rattle.std.specs.Prelude.{ℤ, nat_le}
use Rattle.std.specs.List.{list_all}
use Rattle.std.specs.Fmt.{signed_decimal}
use Rattle.std.proofs.lemmas.Bool.Decides.{nat_tests}
use lib.Signed.{mag}
use Rattle.ax_laws.proofs.Tests.{both, and-true}
use Rattle.ax_values.specs.Grammar.{Line, is_letter_or_digit, is_name_byte, is_name, is_text_byte, is_content}
use Rattle.ax_values.proofs.Numbers.{is_int_byte, bytes-int_in, int_in-signed_decimal}
use Rattle.ax_values.proofs.Values.{bytes-name}

-- a test that follows from another, of all parts of a list
all-follow : {A : Type 0} (p q : A → Bool) → ((x : A) → p x ≡ true → q x ≡ true) → (xs : List A) → list_all p xs ≡ true → list_all q xs ≡ true
all-follow p q follow [] h = refl
all-follow p q follow (x ∷ xs) h =
    let k = both (p x) (list_all p xs) h in and-true (q x) (list_all q xs) (follow x k.0) (all-follow p q follow xs k.1)

name-byte : (c : ℕ) → is_name_byte c ≡ true → is_text_byte c ≡ true
name-byte c h = grind (arith, nat_tests, h)

int-byte : (c : ℕ) → is_int_byte c ≡ true → is_text_byte c ≡ true
int-byte c h = grind (arith, nat_tests, h)

short-name : (n : Line) → is_name n ≡ true → nat_le (length n) 64 ≡ true
short-name [] h = refl
short-name (c ∷ cs) h =
    let p = both (is_letter_or_digit c) (list_all is_name_byte cs && nat_le (length cs) 63) h in
    let q = both (list_all is_name_byte cs) (nat_le (length cs) 63) p.1 in
    grind (arith, nat_tests, q.1)

content-name : (n : Line) → is_name n ≡ true → is_content n ≡ true
content-name n h = and-true (list_all is_text_byte n) (nat_le (length n) 64) (all-follow is_name_byte is_text_byte name-byte n (bytes-name n h)) (short-name n h)

-- what is read of a name
pub content-of : (text n : Line) → text ≡ n → is_name n ≡ true → is_content text ≡ true
content-of text n e h = ap is_content e ∙ content-name n h

short : (n : ℕ) → n ≤ 40 → nat_le n 64 ≡ true
short n h = grind (arith, nat_tests)

pub content-int : (z : ℤ) → mag z < 2 ^ 63 → length (signed_decimal z) ≤ 40 → is_content (signed_decimal z) ≡ true
content-int z fits le =
    let text = signed_decimal z in
    and-true (list_all is_text_byte text) (nat_le (length text) 64)
    (all-follow is_int_byte is_text_byte int-byte text (bytes-int_in text z (int_in-signed_decimal z fits)))
    (short (length text) le)
