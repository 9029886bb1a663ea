use Rattle.std.proofs.Common.{◌∙◌, ap}
use Rattle.ax_tokens.specs.Tokens.{covers, meets, is_collapsed}
use Rattle.ax_tokens.specs.Nodes.{token_of}
use Rattle.ax_tokens.proofs.Changes.{covers-collapsed, meets-collapsed, is_collapsed-collapsed, collapsed-is}
use Rattle.ax_tokens.proofs.token.Token.collapse.Goals as goal

pub returns-clause-covered : goal.returns-clause-covered
returns-clause-covered c = λ mask hash index. ap (λ t. covers t mask hash index) c.in_ok-less.ensures ∙ covers-collapsed (token_of c.args.self) mask hash index

pub returns-clause-met : goal.returns-clause-met
returns-clause-met c = λ mask hash index. ap (λ t. meets t mask hash index) c.in_ok-less.ensures ∙ meets-collapsed (token_of c.args.self) mask hash index

pub returns-clause-collapsed : goal.returns-clause-collapsed
returns-clause-collapsed c = ap is_collapsed c.in_ok-less.ensures ∙ is_collapsed-collapsed (token_of c.args.self)

pub returns-clause-again : goal.returns-clause-again
returns-clause-again c = collapsed-is (token_of c.in_ok-less.less) (ap is_collapsed c.in_ok-less.ensures ∙ is_collapsed-collapsed (token_of c.args.self))
