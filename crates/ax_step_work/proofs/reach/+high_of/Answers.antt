use Rattle.std.proofs.Common.{◌∙◌, ap, sym}
use Rattle.ax_tokens.specs.Nodes.{token_of}
use Rattle.ax_step_work.specs.Reach.{some_has}
use Rattle.ax_step_work.proofs.Reached.{last-is}
use Rattle.ax_step_work.proofs.reach.+high_of.Goals as goal

pub returns-in-Plain-clause-last : goal.returns-in-Plain-clause-last
returns-in-Plain-clause-last t c = λ index is. ap (λ t. some_has (token_of t) index) c.in-Plain.is ∙ last-is c.in-Plain.part index c.next.ensures.canonical (sym c.next.ensures.value ∙ is)

pub returns-in-Replay-clause-last : goal.returns-in-Replay-clause-last
returns-in-Replay-clause-last t c = λ index is. ap (λ t. some_has (token_of t) index) c.in-Replay.is ∙ last-is c.in-Replay.current index c.next-in-Replay.ensures.canonical (sym c.next-in-Replay.ensures.value ∙ is)
