use Rattle.ax_values.specs.Grammar.{IsReadBack}
use Rattle.ax_tokens.specs.Nodes.{token_of}
use Rattle.ax_tokens.proofs.Texts.{again}
use Rattle.ax_tokens.proofs.token.Token.write.Goals as goal

pub returns-clause-again : goal.returns-clause-again
unfolding IsReadBack
returns-clause-again c = again (token_of c.args.self.now) c.requires c.facts.ensures.canonical c.facts.ensures.small
