use Rattle.std.proofs.lemmas.Result.{IfOk-weaker}
use Rattle.ax_tokens.proofs.Gaps.{advanced-sets, advanced-canonical}
use Rattle.ax_tokens.proofs.plain.Plain.advance.Goals as goal

pub returns-clause-sets : goal.returns-clause-sets
returns-clause-sets c = IfOk-weaker c.covered_to.result _ _ (λ p e. advanced-sets c.args.cells.now c.args.to c.args.self.now p e) c.covered_to.ensures.value

pub returns-clause-canonical : goal.returns-clause-canonical
returns-clause-canonical c = IfOk-weaker c.covered_to.result _ _ (λ p e. advanced-canonical c.args.cells.now c.args.to c.args.self.now p e) c.covered_to.ensures.value
