use Rattle.std.proofs.Common.{rules, of_calls}
use Rattle.std.proofs.lemmas.Fn.{always_returns_same}
use Rattle.ax_values.specs.Words.{name_cmp}
use Rattle.ax_letters.proofs.Changed.{place-made}
use Rattle.ax_letters.proofs.places.place_of.Goals as goal

pub returns : goal.returns
returns c =
    place-made c.args.name.now c.args.sequences.now c.binary_search_by.result c.requires c.binary_search_by.ensures.bound
    (c.binary_search_by.ensures.position (λ k. name_cmp k.sequence.name c.args.name.now) (always_returns_same _ _ _ (λ a r f k. search (rules, of_calls))))
