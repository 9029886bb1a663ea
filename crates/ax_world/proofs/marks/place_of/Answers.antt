use Rattle.std.proofs.Common.{rules, of_calls}
use Rattle.std.proofs.lemmas.Fn.{always_returns_same}
use Rattle.ax_values.specs.Words.{item_cmp}
use Rattle.ax_world.proofs.marks.place_of.Goals as goal

pub returns-clause-place : goal.returns-clause-place
returns-clause-place c =
    c.binary_search_by.ensures.position (λ mark. item_cmp mark c.args.item.now) (always_returns_same _ _ _ (λ a r f k. search (rules, of_calls)))
