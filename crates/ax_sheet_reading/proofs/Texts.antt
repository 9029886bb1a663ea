-- The JSON value that a text is.
use Rattle.std.proofs.Common.{◌≡◌, Bool, true, false, IsUtf8, Some, None, refl, sym, ap, ◌∙◌}
use Rattle.std.specs.Str.{is_utf8}
use Rattle.std.proofs.lemmas.Str.{IsUtf8-from_is_utf8, is_utf8-from_IsUtf8}
use Rattle.serde_json.specs.Data.{Data}
use Rattle.serde_json.specs.Read.{read}
use Rattle.ax_values.specs.Grammar.{Line, ◌>>=◌, when}
use Rattle.ax_sheet_rules.specs.Shape.{json_in}

pub json_read : (text : Line) (d : Data) → IsUtf8 text → read text ≡ Some d → Some d ≡ json_in text
unfolding json_in
json_read text d u e = sym (ap (λ b. when b text >>= read) (is_utf8-from_IsUtf8 text u) ∙ e)

refused_by : (text : Line) (b : Bool) → is_utf8 text ≡ b → (IsUtf8 text → read text ≡ None) → None ≡ (when b text >>= read)
refused_by text true u h = sym (h (IsUtf8-from_is_utf8 text u))
refused_by text false u h = refl

pub json_refused : (text : Line) → (IsUtf8 text → read text ≡ None) → None ≡ json_in text
unfolding json_in
json_refused text h = refused_by text (is_utf8 text) refl h
