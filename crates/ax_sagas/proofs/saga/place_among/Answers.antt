use Rattle.std.proofs.Common.{rules, of_calls}
use Rattle.std.proofs.lemmas.Fn.{always_returns_same}
use Rattle.ax_values.specs.Words.{item_cmp}
use Rattle.ax_sagas.proofs.saga.place_among.Goals as goal

pub returns-clause-place : goal.returns-clause-place
returns-clause-place c =
    c.binary_search_by.ensures.position (λ saga. item_cmp saga.name c.args.name.now) (always_returns_same _ _ _ (λ a r f k. search (rules, of_calls)))
