use Rattle.std.proofs.Common.{◌∙◌, ◌<◌, Ok, slice_set, refl, sym, ap, subst}
use Rattle.ax_claims.specs.Rows.{TokenRow, place_at, row_at}
use Rattle.ax_claims.specs.Changes.{extended, owned, held_check, IsChanged}
use Rattle.ax_claims.specs.contracts.row.TokenRow.{the_view}
use Rattle.ax_claims.proofs.Answered.{within, row-kept}
use Rattle.ax_claims.proofs.HeldRows.{put-done}
use Rattle.ax_claims.proofs.rows.Rows.extend.Goals as goal

pub index_mut-requires : goal.index_mut-requires
index_mut-requires c = subst (λ n. c.in_ok-place.place < n) c.deref.ensures.len (within c.args.segment c.deref.result.now c.in_ok-place.place (sym c.in_ok-place.ensures.place))

pub invariant_of-self : goal.invariant_of-self
invariant_of-self c =
    row-kept c.args.segment c.self.inside.rows.items c.in_ok-place.place c.index_mut.result.now _ c.self.invariant
    (sym c.in_ok-place.ensures.place ∙ ap (place_at c.args.segment) c.deref.ensures.value) c.index_mut.ensures.value (ap (λ r. r.segment) c.behind-self.view_is)

pub returns : goal.returns
returns c =
    let next : TokenRow → TokenRow = (λ r. owned r r.owner c.args.now r.fence) in
    subst (λ rows. IsChanged (extended c.args.segment c.args.held c.args.now rows) rows (slice_set c.self.inside.rows.items c.in_ok-place.place (next (the_view c.behind-self.inside))) (Ok tt)) c.self.view_is
    (subst (λ r. IsChanged (extended c.args.segment c.args.held c.args.now c.self.inside.rows.items) c.self.inside.rows.items (slice_set c.self.inside.rows.items c.in_ok-place.place (next r)) (Ok tt)) (sym c.behind-self.view_is)
    (put-done c.args.segment c.args.held c.self.inside.rows.items next c.in_ok-place.place c.index_mut.result.now c.self.invariant
    (sym c.in_ok-place.ensures.place ∙ ap (place_at c.args.segment) c.deref.ensures.value) (ap (λ rows. held_check c.args.held (row_at c.args.segment rows)) (sym c.deref.ensures.value) ∙ c.in_ok-place.ensures.held) c.index_mut.ensures.value refl))
