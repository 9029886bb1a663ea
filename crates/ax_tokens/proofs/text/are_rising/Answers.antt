use Rattle.std.proofs.Common.{rules}
use Rattle.std.specs.Prelude.{nat_lt}
use Rattle.std.proofs.lemmas.List.Sorted.{answers_always}
use Rattle.ax_values.proofs.Lists.{sorted-rises}
use Rattle.ax_tokens.proofs.text.are_rising.Goals as goal

pub returns : goal.returns
returns c = sorted-rises nat_lt c.args.gaps.now c.is_sorted_by.result (c.is_sorted_by.ensures.cases nat_lt (answers_always _ _ _ (λ f a r g called. search rules)))
