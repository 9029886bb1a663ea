use Rattle.ax_tokens.specs.Nodes.{token_of}
use Rattle.ax_tokens.proofs.Texts.{from_all, all-deep}
use Rattle.ax_tokens.proofs.token.Token.read.Goals as goal

pub returns-in-Some-default-empty-clause-written : goal.returns-in-Some-default-empty-clause-written
returns-in-Some-default-empty-clause-written c =
    from_all c.args.text.now (token_of c.in-Some-default-empty.token) c.in-Some-default-empty.field-0-1.now (rw c.in-Some-default-empty.is at c.in_ok-token.ensures) c.in-Some-default-empty.len_below

pub returns-in-Some-default-empty-clause-deep : goal.returns-in-Some-default-empty-clause-deep
returns-in-Some-default-empty-clause-deep c =
    all-deep c.args.text.now (token_of c.in-Some-default-empty.token) c.in-Some-default-empty.field-0-1.now (rw c.in-Some-default-empty.is at c.in_ok-token.ensures)
