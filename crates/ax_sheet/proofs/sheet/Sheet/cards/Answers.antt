use Rattle.std.proofs.Common.{◌≡◌, Some, ap, ◌∙◌}
use Rattle.ax_sheet.specs.Cards.{cards}
use Rattle.ax_sheet_rules.specs.Shape.{sheet_in}
use Rattle.ax_sheet.proofs.CardsText.{cards_are_read}
use Rattle.ax_sheet.proofs.sheet.Sheet.cards.Goals as goal

pub unreachable-requires : goal.unreachable-requires
unreachable-requires c =
    let none = c.in-Err-Refused.ensures.refused c.in-Err-Refused.field-0-is in
    let some : sheet_in c.as_slice.result.now ≡ Some cards = ap sheet_in c.as_slice.ensures ∙ cards_are_read in
    cc

pub returns-in-Ok : goal.returns-in-Ok
returns-in-Ok c =
    let one = c.in-Ok.ensures.ok in
    let some : sheet_in c.as_slice.result.now ≡ Some cards = ap sheet_in c.as_slice.ensures ∙ cards_are_read in
    record { value = cc }
