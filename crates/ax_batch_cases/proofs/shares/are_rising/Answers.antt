use Rattle.std.proofs.Common.{rules}
use Rattle.std.proofs.lemmas.List.Sorted.{answers_always}
use Rattle.ax_values.proofs.Lists.{sorted-rises}
use Rattle.ax_basis.specs.Basis.{member_below}
use Rattle.ax_batch_cases.proofs.shares.are_rising.Goals as goal

pub returns : goal.returns
returns c = sorted-rises member_below c.args.members.now c.is_sorted_by.result (c.is_sorted_by.ensures.cases member_below (answers_always _ _ _ (λ m n r g called. search rules)))
