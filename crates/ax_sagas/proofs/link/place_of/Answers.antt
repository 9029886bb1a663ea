use Rattle.std.proofs.Common.{rules, of_calls}
use Rattle.std.proofs.lemmas.Fn.{always_returns_same}
use Rattle.ax_sagas.specs.Links.{link_of, link_cmp}
use Rattle.ax_sagas.proofs.link.place_of.Goals as goal

pub returns-clause-place : goal.returns-clause-place
returns-clause-place c =
    c.binary_search_by.ensures.position (λ link. link_cmp link (link_of c.args.key.now c.args.value.now)) (always_returns_same _ _ _ (λ a r f k. search (rules, of_calls)))
