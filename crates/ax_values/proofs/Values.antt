-- Texts, values and fields: what is written is read again, and what is read is written so.
use Rattle.std.proofs.Common.{◌≡◌, ℕ, ◌^◌, ◌<◌, ◌==◌, nat_le, Bool, true, false, ◌&&◌, ◌||◌, [], ◌∷◌, ◌++◌, length, Option, Some, option_map, option_and_then, refl, sym, ap, subst, ◌∙◌, arith}
use lib.Signed.{mag}
use Rattle.std.specs.List.{list_all}
use Rattle.std.specs.Fmt.{signed_decimal}
use Rattle.std.proofs.lemmas.Bool.Decides.{nat_tests}
use Rattle.ax_values.specs.Grammar.{Line, Cut, when, cut_at, between, is_letter_or_digit, is_name_byte, is_name, name_in, is_content, text_in, int_in, ◌>>=◌}
use Rattle.ax_values.specs.Words.{quoted, value_text, field_text}
use Rattle.ax_values.specs.Readers.{value_by, begins_with, value_in, field_in}
use Rattle.ax_values.specs.declared.value.Value.{Value}
use Rattle.ax_values.specs.declared.value.Field.{Field}
use Rattle.ax_laws.proofs.Tests.{both, and-true}
use Rattle.ax_values.proofs.Options.{when-true, when-some, then-some, map-some}
use Rattle.ax_values.proofs.Numbers.{int_in-signed_decimal, from_int, is_int_byte, bytes-int_in}
use Rattle.ax_values.proofs.Cuts.{lacks, lacks-all, cut_at-append, from_cut, between-append, from_between}

-- ---- texts

content_in : Line → Option Line
content_in t = when (is_content t) t

pub text_in-quoted : (t : Line) → is_content t ≡ true → text_in (quoted t) ≡ Some t
unfolding content_in
text_in-quoted t h = ap (option_and_then content_in) (between-append 34 t 34) ∙ when-true (is_content t) t h

pub record IsWrittenText (t : Line) (w : Line) : Type 0 where
  pub text : quoted t ≡ w
  pub content : is_content t ≡ true

pub from_text : (w t : Line) → text_in w ≡ Some t → IsWrittenText t w
unfolding content_in
from_text w t h =
    let p = then-some (between 34 34 w) content_in t h in
    let q = when-some (is_content p.from) p.from t p.gives in
    subst (λ t. IsWrittenText t w) q.1 (record { text = from_between 34 34 w p.from p.held; content = q.0 })

-- ---- values

-- a value that keeps the grammar
abbrev pub IsInGrammar : Value → Type 0
IsInGrammar (Value.Int z) = mag z < 2 ^ 63
IsInGrammar (Value.Text t) = is_content t ≡ true

unquoted : (w : Line) → list_all is_int_byte w ≡ true → begins_with 34 w ≡ false
unquoted [] h = refl
unquoted (c ∷ cs) h =
    let p = both (is_int_byte c) (list_all is_int_byte cs) h in
    grind (arith, nat_tests, p.0)

pub value_in-value_text : (v : Value) → IsInGrammar v → value_in (value_text v) ≡ Some v
value_in-value_text (Value.Int z) h =
    let e = int_in-signed_decimal z h in
    ap (λ b. value_by b (signed_decimal z)) (unquoted (signed_decimal z) (bytes-int_in (signed_decimal z) z e)) ∙ ap (option_map Value.Int) e
value_in-value_text (Value.Text t) h = ap (option_map Value.Text) (text_in-quoted t h)

pub record IsWrittenValue (v : Value) (w : Line) : Type 0 where
  pub text : value_text v ≡ w
  pub grammar : IsInGrammar v

from_value_by : (b : Bool) (w : Line) (v : Value) → value_by b w ≡ Some v → IsWrittenValue v w
from_value_by true w v h =
    let p = map-some (text_in w) Value.Text v h in
    let k = from_text w p.from p.held in
    subst (λ v. IsWrittenValue v w) p.gives (record { text = k.text; grammar = k.content })
from_value_by false w v h =
    let p = map-some (int_in w) Value.Int v h in
    let k = from_int w p.from p.held in
    subst (λ v. IsWrittenValue v w) p.gives (record { text = k.text; grammar = k.fits })

pub from_value : (w : Line) (v : Value) → value_in w ≡ Some v → IsWrittenValue v w
from_value w v h = from_value_by (begins_with 34 w) w v h

-- ---- names

pub is_name-name_in : (n w : Line) → name_in w ≡ Some n → (is_name n ≡ true) × (n ≡ w)
is_name-name_in n w h =
    let p = when-some (is_name w) w n h in
    (ap is_name (sym p.1) ∙ p.0, sym p.1)

letter_byte : (c : ℕ) → is_letter_or_digit c ≡ true → is_name_byte c ≡ true
letter_byte c h = ap (λ b. b || ((c == 95) || (c == 45))) h

pub bytes-name : (n : Line) → is_name n ≡ true → list_all is_name_byte n ≡ true
bytes-name [] h = cc
bytes-name (c ∷ cs) h =
    let p = both (is_letter_or_digit c) (list_all is_name_byte cs && nat_le (length cs) 63) h in
    let q = both (list_all is_name_byte cs) (nat_le (length cs) 63) p.1 in
    and-true (is_name_byte c) (list_all is_name_byte cs) (letter_byte c p.0) q.0

pub lacks-name : (sep : ℕ) (n : Line) → is_name_byte sep ≡ false → is_name n ≡ true → lacks sep n ≡ true
lacks-name sep n f h = lacks-all is_name_byte sep n f (bytes-name n h)

-- ---- fields

given : Line → Value → Option Field
given name value = Some (record { name = name; value = value })

after_cut : Cut → Option Field
after_cut t = name_in t.before >>= (λ name. value_in t.after >>= given name)

pub field_in-field_text : (f : Field) → name_in f.name ≡ Some f.name → value_in (value_text f.value) ≡ Some f.value → field_in (field_text f) ≡ Some f
unfolding after_cut given
field_in-field_text f n v =
    ap (option_and_then after_cut) (cut_at-append f.name 61 (value_text f.value) (lacks-name 61 f.name refl (is_name-name_in f.name f.name n).0))
    ∙ ap (λ o. o >>= (λ name. value_in (value_text f.value) >>= given name)) n
    ∙ ap (λ o. o >>= given f.name) v

pub record IsWrittenField (f : Field) (w : Line) : Type 0 where
  pub text : field_text f ≡ w
  pub name : is_name f.name ≡ true
  pub grammar : IsInGrammar f.value

pub from_field : (w : Line) (f : Field) → field_in w ≡ Some f → IsWrittenField f w
unfolding after_cut given
from_field w f h =
    let p = then-some (cut_at 61 w) after_cut f h in
    let q = then-some (name_in p.from.before) (λ name. value_in p.from.after >>= given name) f p.gives in
    let r = then-some (value_in p.from.after) (given q.from) f q.gives in
    let n = is_name-name_in q.from p.from.before q.held in
    let v = from_value p.from.after r.from r.held in
    let is_field : record { name = q.from; value = r.from } ≡ f = cc in
    subst (λ f. IsWrittenField f w) is_field (record {
      text = ap (λ name. name ++ 61 ∷ value_text r.from) n.1 ∙ ap (λ t. p.from.before ++ 61 ∷ t) v.text ∙ (from_cut 61 w p.from p.held).whole;
      name = n.0;
      grammar = v.grammar;
    })
