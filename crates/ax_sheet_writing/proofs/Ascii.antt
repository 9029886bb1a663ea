-- Bytes below 128 are UTF-8: so are names and texts.
use Rattle.std.proofs.Common.{◌≡◌, ◌<◌, ℕ, zero, suc, Bool, true, [], ◌∷◌, nat_lt, slice_index, IsUtf8, refl, arith}
use Rattle.std.proofs.lemmas.Bool.Decides.{nat_tests}
use Rattle.std.specs.List.{list_all}
use Rattle.std.proofs.lemmas.Str.{IsUtf8-from_ascii}
use Rattle.ax_values.specs.Grammar.{Line, is_letter_or_digit, is_name_byte, is_name, is_text_byte, is_content}
use Rattle.ax_laws.proofs.Tests.{both, and-true}

abbrev pub is_ascii : ℕ → Bool
is_ascii b = nat_lt b 128

below : (bs : Line) → list_all is_ascii bs ≡ true → (i : ℕ) → slice_index bs i < 128
below [] h i = omega arith
below (b ∷ bs) h zero = let p = both (is_ascii b) _ h in grind (arith, nat_tests, p)
below (b ∷ bs) h (suc i) = let p = both (is_ascii b) _ h in below bs p.1 i

all_ascii : (test : ℕ → Bool) → ((b : ℕ) → test b ≡ true → is_ascii b ≡ true) → (bs : Line) → list_all test bs ≡ true → list_all is_ascii bs ≡ true
all_ascii test low [] h = refl
all_ascii test low (b ∷ bs) h = let p = both (test b) _ h in and-true (is_ascii b) _ (low b p.0) (all_ascii test low bs p.1)

name_byte : (b : ℕ) → is_name_byte b ≡ true → is_ascii b ≡ true
name_byte b h = grind (arith, nat_tests, h)

text_byte : (b : ℕ) → is_text_byte b ≡ true → is_ascii b ≡ true
text_byte b h = grind (arith, nat_tests, h)

name_first : (b : ℕ) → is_letter_or_digit b ≡ true → is_ascii b ≡ true
name_first b h = grind (arith, nat_tests, h)

pub utf8 : (bs : Line) → list_all is_ascii bs ≡ true → IsUtf8 bs
utf8 bs h = IsUtf8-from_ascii bs (below bs h)

pub name_utf8 : (name : Line) → is_name name ≡ true → IsUtf8 name
name_utf8 [] h = cc
name_utf8 (b ∷ bs) h =
    let p = both (is_letter_or_digit b) _ h in
    let q = both (list_all is_name_byte bs) _ p.1 in
    utf8 (b ∷ bs) (and-true (is_ascii b) _ (name_first b p.0) (all_ascii is_name_byte name_byte bs q.0))

pub content_utf8 : (content : Line) → is_content content ≡ true → IsUtf8 content
content_utf8 bs h = let p = both (list_all is_text_byte bs) _ h in utf8 bs (all_ascii is_text_byte text_byte bs p.0)
