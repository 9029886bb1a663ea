-- Texts whose bytes are below 128.
use Rattle.std.specs.Prelude.{◌≡◌, true}
use Rattle.std.proofs.Common.{ap}
use Rattle.std.proofs.lemmas.Str.{is_utf8-from_IsUtf8}
use Rattle.std.specs.List.{list_all}
use Rattle.serde_json.specs.Read.{read}
use Rattle.ax_values.specs.Grammar.{Line, ◌>>=◌, when}
use Rattle.ax_sheet_rules.specs.Shape.{sheet_of, json_in, sheet_in}
use Rattle.ax_sheet_writing.proofs.Ascii.{is_ascii, utf8}

pub ascii_sheet : (text : Line) → list_all is_ascii text ≡ true → sheet_in text ≡ (read text >>= sheet_of)
unfolding sheet_in json_in
ascii_sheet text h = ap (λ b. when b text >>= read >>= sheet_of) (is_utf8-from_IsUtf8 text (utf8 text h))
