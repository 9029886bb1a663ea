use Rattle.std.proofs.Common.{◌∙◌}
use Rattle.std.proofs.lemmas.Result.{IfOk-weaker}
use Rattle.ax_tokens.proofs.Gaps.{union-swap, sets-of}
use Rattle.ax_tokens.proofs.plain.Plain.union.Goals as goal

pub returns-then-next-clause-value : goal.returns-then-next-clause-value
returns-then-next-clause-value c = IfOk-weaker c.with_shorter.result _ _ (λ b e. e ∙ union-swap c.args.other.now c.args.self.now) c.with_shorter.ensures.value

pub returns-then-next-clause-sets : goal.returns-then-next-clause-sets
returns-then-next-clause-sets c = IfOk-weaker c.with_shorter.result _ _ (λ b e. sets-of c.args.self.now c.args.other.now b (e ∙ union-swap c.args.other.now c.args.self.now)) c.with_shorter.ensures.value

pub returns-else-next-clause-sets : goal.returns-else-next-clause-sets
returns-else-next-clause-sets c = IfOk-weaker c.with_shorter-else-next.result _ _ (λ b e. sets-of c.args.self.now c.args.other.now b e) c.with_shorter-else-next.ensures.value
