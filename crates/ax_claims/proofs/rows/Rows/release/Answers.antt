use Rattle.std.proofs.Common.{◌∙◌, ◌<◌, None, Ok, slice_set, refl, sym, ap, subst}
use Rattle.ax_claims.specs.Rows.{TokenRow, place_at, row_at}
use Rattle.ax_claims.specs.Changes.{released, owned, held_check, IsChanged}
use Rattle.ax_claims.specs.contracts.row.TokenRow.{the_view}
use Rattle.ax_claims.proofs.Answered.{within, row-kept}
use Rattle.ax_claims.proofs.HeldRows.{put-done}
use Rattle.ax_claims.proofs.rows.Rows.release.Goals as goal

pub index_mut-row-requires : goal.index_mut-row-requires
index_mut-row-requires c = subst (λ n. c.in_ok-place.place < n) c.deref.ensures.len (within c.args.segment c.deref.result.now c.in_ok-place.place (sym c.in_ok-place.ensures.place))

pub invariant_of-self : goal.invariant_of-self
invariant_of-self c =
    row-kept c.args.segment c.self.inside.rows.items c.in_ok-place.place c.index_mut-row.result.now _ c.self.invariant
    (sym c.in_ok-place.ensures.place ∙ ap (place_at c.args.segment) c.deref.ensures.value) c.index_mut-row.ensures.value (ap (λ r. r.segment) c.row.view_is)

pub returns : goal.returns
returns c =
    let next : TokenRow → TokenRow = (λ r. owned r None 0 c.args.fence) in
    subst (λ rows. IsChanged (released c.args.segment c.args.held c.args.fence rows) rows (slice_set c.self.inside.rows.items c.in_ok-place.place (next (the_view c.row.inside))) (Ok tt)) c.self.view_is
    (subst (λ r. IsChanged (released c.args.segment c.args.held c.args.fence c.self.inside.rows.items) c.self.inside.rows.items (slice_set c.self.inside.rows.items c.in_ok-place.place (next r)) (Ok tt)) (sym c.row.view_is)
    (put-done c.args.segment c.args.held c.self.inside.rows.items next c.in_ok-place.place c.index_mut-row.result.now c.self.invariant
    (sym c.in_ok-place.ensures.place ∙ ap (place_at c.args.segment) c.deref.ensures.value) (ap (λ rows. held_check c.args.held (row_at c.args.segment rows)) (sym c.deref.ensures.value) ∙ c.in_ok-place.ensures.held) c.index_mut-row.ensures.value refl))
