use Rattle.std.proofs.Common.{◌∙◌, ap}
use Rattle.ax_tokens.specs.Tokens.{covers, replays}
use Rattle.ax_tokens.specs.Nodes.{token_of}
use Rattle.ax_tokens.proofs.Changes.{covers-advanced, replays-advanced}
use Rattle.ax_tokens.proofs.token.Token.advance.Goals as goal

pub returns-clause-sets : goal.returns-clause-sets
returns-clause-sets c = λ mask hash index. ap (λ t. covers t mask hash index) c.in_ok-later.ensures ∙ covers-advanced c.args.cells.now c.args.to (token_of c.args.self.now) mask hash index

pub returns-clause-replayed : goal.returns-clause-replayed
returns-clause-replayed c = λ mask hash index. ap (λ t. replays t mask hash index) c.in_ok-later.ensures ∙ replays-advanced c.args.cells.now c.args.to (token_of c.args.self.now) mask hash index
