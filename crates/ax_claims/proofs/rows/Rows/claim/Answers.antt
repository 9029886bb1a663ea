use Rattle.std.proofs.Common.{◌∙◌, ◌<◌, Some, Ok, Err, slice_set, sym, ap, subst}
use Rattle.ax_claims.specs.Rows.{place_at}
use Rattle.ax_claims.specs.Changes.{claimed, owned, IsChange}
use Rattle.ax_claims.specs.contracts.row.TokenRow.{the_view}
use Rattle.ax_claims.specs.declared.refused.Refused.{Refused}
use Rattle.ax_claims.proofs.Answered.{within, row-kept, claim-refused, claim-granted}
use Rattle.ax_claims.proofs.rows.Rows.claim.Goals as goal

pub index-requires : goal.index-requires
index-requires c = subst (λ n. c.in-Some.place < n) c.deref.ensures.len (within c.args.segment c.deref.result.now c.in-Some.place c.in-Some.ensures.value)

pub returns-then-is_claimed : goal.returns-then-is_claimed
returns-then-is_claimed c =
    subst (λ rows. IsChange (claimed c.args.segment c.args.owner c.args.now c.args.fence rows) c.args.owner rows rows (Err (Refused.Claimed c.in-Some.place, c.args.owner))) c.self.view_is
    (claim-refused c.args.segment c.args.owner c.args.now c.args.fence c.self.inside.rows.items c.in-Some.place c.index.result.now
    (c.in-Some.ensures.value ∙ ap (place_at c.args.segment) c.deref.ensures.value) c.index.ensures (sym c.is_claimed.ensures ∙ c.if-is_claimed.true))

pub index_mut-row-requires : goal.index_mut-row-requires
index_mut-row-requires c = subst (λ n. c.in-Some.place < n) c.deref.ensures.len (within c.args.segment c.deref.result.now c.in-Some.place c.in-Some.ensures.value)

pub invariant_of-self : goal.invariant_of-self
invariant_of-self c =
    row-kept c.args.segment c.self.inside.rows.items c.in-Some.place c.index_mut-row.result.now _ c.self.invariant
    (c.in-Some.ensures.value ∙ ap (place_at c.args.segment) c.deref.ensures.value) c.index_mut-row.ensures.value (ap (λ r. r.segment) c.row.view_is)

pub returns : goal.returns
returns c =
    subst (λ rows. IsChange (claimed c.args.segment c.args.owner c.args.now c.args.fence rows) c.args.owner rows (slice_set c.self.inside.rows.items c.in-Some.place (owned (the_view c.row.inside) (Some c.args.owner) c.args.now c.args.fence)) (Ok tt)) c.self.view_is
    (subst (λ r. IsChange (claimed c.args.segment c.args.owner c.args.now c.args.fence c.self.inside.rows.items) c.args.owner c.self.inside.rows.items (slice_set c.self.inside.rows.items c.in-Some.place (owned r (Some c.args.owner) c.args.now c.args.fence)) (Ok tt)) (sym c.row.view_is)
    (claim-granted c.args.segment c.args.owner c.args.now c.args.fence c.self.inside.rows.items c.in-Some.place c.index.result.now c.index_mut-row.result.now c.self.invariant
    (c.in-Some.ensures.value ∙ ap (place_at c.args.segment) c.deref.ensures.value) c.index.ensures c.index_mut-row.ensures.value (sym c.is_claimed.ensures ∙ c.if-is_claimed.false)))
