use Rattle.std.proofs.Common.{rules, of_calls}
use Rattle.std.proofs.lemmas.Fn.{always_returns_same}
use Rattle.ax_values.specs.Words.{field_cmp}
use Rattle.ax_values.proofs.value.Field.place_among.Goals as goal

pub returns-clause-place : goal.returns-clause-place
returns-clause-place c =
    c.binary_search_by.ensures.position (λ other. field_cmp other c.args.self.now) (always_returns_same _ _ _ (λ a r f k. search (rules, of_calls)))
