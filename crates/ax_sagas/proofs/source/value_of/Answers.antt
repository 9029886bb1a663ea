use Rattle.ax_sagas.proofs.TextLaws.{content-of}
use Rattle.ax_sagas.proofs.source.value_of.Goals as goal

pub returns-in-Aggregate-clause-content : goal.returns-in-Aggregate-clause-content
returns-in-Aggregate-clause-content c = content-of _ _ c.parts.ensures.value c.parts.ensures.grammar
