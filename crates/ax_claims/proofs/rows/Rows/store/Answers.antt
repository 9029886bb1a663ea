use Rattle.std.proofs.Common.{◌≡◌, ◌∙◌, ◌<◌, ◌==◌, false, true, Some, Ok, Err, slice_set, sym, ap, subst, arith}
use Rattle.std.proofs.lemmas.Bool.Decides.{nat_tests}
use Rattle.ax_tokens.specs.Nodes.{token_of}
use Rattle.ax_claims.specs.Rows.{TokenRow, place_at}
use Rattle.ax_claims.specs.Changes.{stored, IsChange}
use Rattle.ax_claims.specs.contracts.row.TokenRow.{the_view}
use Rattle.ax_claims.specs.declared.refused.Refused.{Refused}
use Rattle.ax_claims.proofs.Answered.{within, row-kept, store-refused, store-done}
use Rattle.ax_claims.proofs.rows.Rows.store.Goals as goal

pub index-requires : goal.index-requires
index-requires c = subst (λ n. c.in-Some.place < n) c.deref.ensures.len (within c.args.segment c.deref.result.now c.in-Some.place c.in-Some.ensures.value)

pub returns-then-found-held : goal.returns-then-found-held
returns-then-found-held c =
    let differ : (c.behind-self.inside.fence == c.args.held) ≡ false = grind (arith, nat_tests, c.if-found-held.true) in
    subst (λ rows. IsChange (stored c.args.segment c.args.held (token_of c.args.token) c.args.now rows) c.args.token rows rows (Err (Refused.Stale c.args.held (Some c.behind-self.inside.fence), c.args.token))) c.self.view_is
    (store-refused c.args.segment c.args.held (token_of c.args.token) c.args.token c.args.now c.self.inside.rows.items c.in-Some.place (the_view c.behind-self.inside)
    (c.in-Some.ensures.value ∙ ap (place_at c.args.segment) c.deref.ensures.value) (rw c.behind-self.view_is c.index.ensures) differ)

pub index_mut-row-requires : goal.index_mut-row-requires
index_mut-row-requires c = subst (λ n. c.in-Some.place < n) c.deref.ensures.len (within c.args.segment c.deref.result.now c.in-Some.place c.in-Some.ensures.value)

pub invariant_of-self : goal.invariant_of-self
invariant_of-self c =
    row-kept c.args.segment c.self.inside.rows.items c.in-Some.place c.index_mut-row.result.now _ c.self.invariant
    (c.in-Some.ensures.value ∙ ap (place_at c.args.segment) c.deref.ensures.value) c.index_mut-row.ensures.value (ap (λ r. r.segment) c.row.view_is)

pub returns : goal.returns
returns c =
    let same : (c.behind-self.inside.fence == c.args.held) ≡ true = grind (arith, nat_tests, c.if-found-held.false) in
    subst (λ rows. IsChange (stored c.args.segment c.args.held (token_of c.args.token) c.args.now rows) c.args.token rows (slice_set c.self.inside.rows.items c.in-Some.place (record (the_view c.row.inside) { token = token_of c.args.token; since = c.args.now })) (Ok tt)) c.self.view_is
    (subst (λ (r : TokenRow). IsChange (stored c.args.segment c.args.held (token_of c.args.token) c.args.now c.self.inside.rows.items) c.args.token c.self.inside.rows.items (slice_set c.self.inside.rows.items c.in-Some.place (record r { token = token_of c.args.token; since = c.args.now })) (Ok tt)) (sym c.row.view_is)
    (store-done c.args.segment c.args.held (token_of c.args.token) c.args.token c.args.now c.self.inside.rows.items c.in-Some.place (the_view c.behind-self.inside) c.index_mut-row.result.now c.self.invariant
    (c.in-Some.ensures.value ∙ ap (place_at c.args.segment) c.deref.ensures.value) (rw c.behind-self.view_is c.index.ensures) c.index_mut-row.ensures.value same))
