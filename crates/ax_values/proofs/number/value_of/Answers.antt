use Rattle.std.proofs.Common.{fold, sym, ap, ◌∙◌, arith}
use Rattle.std.proofs.lemmas.Grind.{common_steps}
use Rattle.std.proofs.Math.ListN.{drop_of_length-le}
use Rattle.ax_values.specs.Grammar.{digit_step}
use Rattle.ax_values.proofs.Digits.{past, within}
use Rattle.ax_values.proofs.number.value_of.Goals as goal

pub returns-in-None : goal.returns-in-None
returns-in-None c = grind (arith, common_steps, past)

pub returns : goal.returns
returns c = within _ _ (sym (ap (fold digit_step c.loop-byte.value) (drop_of_length-le c.args.text.now (grind (arith, common_steps)))) ∙ c.loop-byte.invariant.same) c.loop-byte.invariant.bound
