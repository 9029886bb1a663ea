use Rattle.ax_values.specs.Grammar.{IsReadBack}
use Rattle.ax_values.proofs.Values.{text_in-quoted}
use Rattle.ax_values.proofs.text.Text.write.Goals as goal

pub returns-clause-again : goal.returns-clause-again
unfolding IsReadBack
returns-clause-again c = text_in-quoted c.args.self.now c.parts.ensures.grammar
