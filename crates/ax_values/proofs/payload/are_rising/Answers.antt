use Rattle.std.proofs.Common.{rules}
use Rattle.std.proofs.lemmas.List.Sorted.{answers_always}
use Rattle.ax_values.specs.Words.{field_below}
use Rattle.ax_values.proofs.Lists.{sorted-rises}
use Rattle.ax_values.proofs.payload.are_rising.Goals as goal

pub returns : goal.returns
returns c = sorted-rises field_below c.args.fields.now c.is_sorted_by.result (c.is_sorted_by.ensures.cases field_below (answers_always _ _ _ (λ f a r g called. search rules)))
