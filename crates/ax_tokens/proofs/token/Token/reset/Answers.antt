use Rattle.ax_tokens.specs.Nodes.{token_of}
use Rattle.ax_tokens.proofs.Changes.{to_met, met_ever}
use Rattle.ax_tokens.proofs.token.Token.reset.Goals as goal

pub returns-clause-met : goal.returns-clause-met
returns-clause-met c = λ s is fits index. (to_met (token_of c.args.self.now) s index is.id fits, λ m. met_ever (token_of c.args.self.now) s index m.hash is.id m.matching m.met)
