use Rattle.std.proofs.Common.{rules, of_calls}
use Rattle.std.proofs.lemmas.Fn.{always_returns_same}
use Rattle.ax_laws.proofs.Tests.{apart}
use Rattle.ax_values.specs.Words.{name_cmp}
use Rattle.ax_basis.specs.Basis.{is_member}
use Rattle.ax_basis.proofs.Placed.{place-found, none-found, named}
use Rattle.ax_basis.proofs.handling.place_of.Goals as goal

pub unreachable-requires : goal.unreachable-requires
unreachable-requires c =
    apart (is_member c.args.members.now c.args.aggregate.now) c.requires.there
    (none-found c.args.aggregate.now c.args.members.now c.in-Err.field-0 c.requires.rising c.in-Err.ensures.bound
    (c.in-Err.ensures.position (λ m. name_cmp m.aggregate c.args.aggregate.now) (always_returns_same _ _ _ (λ a r f k. search (rules, of_calls)))))

pub returns-clause-value : goal.returns-clause-value
returns-clause-value c =
    place-found c.args.aggregate.now c.args.members.now c.in-Ok.place (named c.args.aggregate.now) c.requires.rising c.in-Ok.ensures.bound
    (c.in-Ok.ensures.position (λ m. name_cmp m.aggregate c.args.aggregate.now) (always_returns_same _ _ _ (λ a r f k. search (rules, of_calls))) (named c.args.aggregate.now))
