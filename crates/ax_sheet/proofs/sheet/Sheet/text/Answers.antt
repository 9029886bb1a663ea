use Rattle.std.proofs.Common.{subst, sym, ap, ◌∙◌}
use Rattle.std.proofs.lemmas.Str.{IsUtf8-string_bytes}
use Rattle.std.specs.Prelude.{◌≡◌, Some, string_bytes}
use Rattle.serde_json.specs.View.{view}
use Rattle.serde_json.specs.Written.{has_float, compact_text}
use Rattle.ax_sheet_rules.specs.Shape.{sheet_in, IsSheet}
use Rattle.ax_sheet_writing.specs.Text.{sheet_data, sheet_text}
use Rattle.ax_sheet.proofs.AgainSheet.{text_again}
use Rattle.ax_sheet.proofs.Floats.{sheet_whole}
use Rattle.ax_sheet.proofs.sheet.Sheet.text.Goals as goal

pub returns : goal.returns
unfolding sheet_text
returns c =
    let same = c.in_ok-value.ensures.value ∙ ap sheet_data c.self.view_is in
    let whole = c.in_ok-to_string.ensures.text (ap has_float same ∙ sheet_whole c.args.self.now) in
    let bytes = c.of.ensures ∙ ap (λ v. v.items) c.into_bytes.ensures.value in
    record {
      value = bytes ∙ whole ∙ ap compact_text same;
      again = subst (λ text. sheet_in text ≡ Some c.args.self.now) (sym bytes) (text_again c.args.self.now (view c.in_ok-value.value) (string_bytes c.in_ok-to_string.field-0) (subst IsSheet c.self.view_is c.self.invariant) (IsUtf8-string_bytes c.in_ok-to_string.field-0) same c.in_ok-to_string.ensures.reads_back);
    }
