use Rattle.std.proofs.Common.{rules}
use Rattle.std.proofs.lemmas.List.Sorted.{answers_always}
use Rattle.ax_values.specs.Words.{mark_below}
use Rattle.ax_values.proofs.Lists.{sorted-rises}
use Rattle.ax_values.proofs.seen.are_rising.Goals as goal

pub returns : goal.returns
returns c = sorted-rises mark_below c.args.marks.now c.is_sorted_by.result (c.is_sorted_by.ensures.cases mark_below (answers_always _ _ _ (λ f a r g called. search rules)))
