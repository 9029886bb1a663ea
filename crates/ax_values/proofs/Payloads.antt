-- Payloads: what is written is read again, and what is read is written so.
use Rattle.std.proofs.Common.{◌≡◌, true, false, List, [], ◌∷◌, ◌++◌, nat_le, length, Option, Some, refl, sym, ap, ◌∙◌, append_assoc}
use Rattle.std.specs.List.{list_all}
use Rattle.ax_values.specs.Grammar.{Line, when, each_in, line_words, is_text_byte, is_content, ◌>>=◌}
use Rattle.ax_values.specs.Words.{Payload, field_below, rises, words, spaced, quoted, value_text, field_text, payload_words}
use Rattle.ax_values.specs.Readers.{field_in, payload_in, payload_of}
use Rattle.ax_values.specs.declared.value.Value.{Value}
use Rattle.ax_values.specs.declared.value.Field.{Field}
use Rattle.ax_laws.proofs.Tests.{both}
use Rattle.ax_values.proofs.Options.{when-true, when-some, then-some}
use Rattle.ax_values.proofs.Numbers.{int_in-signed_decimal, is_int_byte, bytes-int_in}
use Rattle.ax_values.proofs.Cuts.{lacks-all}
use Rattle.ax_values.proofs.Values.{IsInGrammar, lacks-name, from_field}
use Rattle.ax_values.proofs.Lists.{map-each_in, all-each_in}
use Rattle.ax_values.proofs.Lines.{stays, stays-outside, stays-inside, stays-plain, line_words-words, words-line_words}

-- ---- a field is one word

stays-quoted : (t : Line) → is_content t ≡ true → stays false (quoted t) ≡ true
stays-quoted t h = stays-inside t (34 ∷ []) (lacks-all is_text_byte 34 t refl (both (list_all is_text_byte t) (nat_le (length t) 64) h).0)

stays-value : (v : Value) → IsInGrammar v → stays false (value_text v) ≡ true
stays-value (Value.Int z) h =
    let w = value_text (Value.Int z) in
    let bytes = bytes-int_in w z (int_in-signed_decimal z h) in
    stays-plain w (lacks-all is_int_byte 32 w refl bytes) (lacks-all is_int_byte 34 w refl bytes)
stays-value (Value.Text t) h = stays-quoted t h

pub stays-field_in : (w : Line) (f : Field) → field_in w ≡ Some f → stays false w ≡ true
stays-field_in w f h =
    let k = from_field w f h in
    ap (stays false) (sym k.text)
    ∙ stays-outside f.name (61 ∷ value_text f.value) (lacks-name 32 f.name refl k.name) (lacks-name 34 f.name refl k.name)
    ∙ stays-value f.value k.grammar

-- ---- payloads

rising : List Field → Option Payload
rising fs = when (rises field_below fs) fs

filled : (n v s : Line) → payload_of ((n ++ 61 ∷ v) ++ s) ≡ payload_in (line_words ((n ++ 61 ∷ v) ++ s))
filled [] v s = refl
filled (c ∷ n) v s = refl

pub payload_in-payload_words : (p : Payload) → each_in field_in (payload_words p) ≡ Some p → rises field_below p ≡ true → payload_in (payload_words p) ≡ Some p
unfolding rising
payload_in-payload_words p h r = ap (λ o. o >>= rising) h ∙ when-true (rises field_below p) p r

pub line_words-payload_words : (f : Field) (fs : List Field) → each_in field_in (payload_words (f ∷ fs)) ≡ Some (f ∷ fs) → line_words (words (payload_words (f ∷ fs))) ≡ payload_words (f ∷ fs)
line_words-payload_words f fs h =
    line_words-words (payload_words fs) (field_text f) (all-each_in field_in (stays false) stays-field_in (payload_words (f ∷ fs)) (f ∷ fs) h)

pub payload_of-words : (p : Payload) → each_in field_in (payload_words p) ≡ Some p → rises field_below p ≡ true → payload_of (words (payload_words p)) ≡ Some p
payload_of-words [] h r = refl
payload_of-words (f ∷ fs) h r =
    filled f.name (value_text f.value) (spaced (payload_words fs))
    ∙ ap payload_in (line_words-payload_words f fs h)
    ∙ payload_in-payload_words (f ∷ fs) h r

field-back : (w : Line) (f : Field) → field_in w ≡ Some f → field_text f ≡ w
field-back w f h = (from_field w f h).text

pub from_fields : (ws : List Line) (fs : List Field) → each_in field_in ws ≡ Some fs → payload_words fs ≡ ws
from_fields = map-each_in field_in field_text field-back

pub from_payload_in : (ws : List Line) (p : Payload) → payload_in ws ≡ Some p → payload_words p ≡ ws
unfolding rising
from_payload_in ws p h =
    let k = then-some (each_in field_in ws) rising p h in
    let r = when-some (rises field_below k.from) k.from p k.gives in
    ap payload_words (sym r.1) ∙ from_fields ws k.from k.held

pub from_payload_of : (w : Line) (p : Payload) → payload_of w ≡ Some p → words (payload_words p) ≡ w
from_payload_of [] p h =
    let none : p ≡ [] = cc in
    ap (λ p. words (payload_words p)) none
from_payload_of (c ∷ cs) p h = ap words (from_payload_in (line_words (c ∷ cs)) p h) ∙ words-line_words (c ∷ cs)

-- what is written, with one field more
pub spaced-next : (out : Line) (f : Field) (fs : List Field) → ((out ++ 32 ∷ []) ++ field_text f) ++ spaced (payload_words fs) ≡ out ++ spaced (payload_words (f ∷ fs))
spaced-next out f fs = simp append_assoc
