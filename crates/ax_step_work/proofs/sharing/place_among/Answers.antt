use Rattle.std.proofs.Common.{rules, of_calls}
use Rattle.std.proofs.lemmas.Fn.{always_returns_same}
use Rattle.ax_values.specs.Words.{name_cmp}
use Rattle.ax_step_work.proofs.SharePlaces.{place-made}
use Rattle.ax_step_work.proofs.sharing.place_among.Goals as goal

pub returns : goal.returns
returns c =
    place-made c.args.aggregate.now c.args.shares.now c.binary_search_by.result c.requires c.binary_search_by.ensures.bound
    (c.binary_search_by.ensures.position (λ s. name_cmp s.sequence c.args.aggregate.now) (always_returns_same _ _ _ (λ a r f k. search (rules, of_calls))))
