use Rattle.std.proofs.Common.{◌≡◌, ◌∙◌, ◌<◌, ◌==◌, true, false, Ok, Err, IfSome, IfNone, refl, sym, ap, subst}
use Rattle.ax_segments.specs.Segments.{max_mask}
use Rattle.ax_claims.specs.Rows.{AreRows, place_at, row_at}
use Rattle.ax_claims.specs.Changes.{split, lower_row, upper_row, held_check, IsChangedUnlessMemory}
use Rattle.ax_claims.specs.declared.refused.Refused.{Refused}
use Rattle.ax_claims.specs.declared.refused.ClaimFault.{ClaimFault}
use Rattle.ax_claims.proofs.Answered.{within}
use Rattle.ax_claims.proofs.HeldRows.{split-refused, split-kept, split-done}
use Rattle.ax_claims.proofs.rows.Rows.split.Goals as goal

pub index-requires : goal.index-requires
index-requires c = subst (λ n. c.in_ok-place.place < n) c.deref.ensures.len (within c.args.segment c.deref.result.now c.in_ok-place.place (sym c.in_ok-place.ensures.place))

pub returns-in_default : goal.returns-in_default
returns-in_default c =
    let full : (c.index.result.now.segment.mask == max_mask) ≡ true = subst (λ o. IfNone o ((c.index.result.now.segment.mask == max_mask) ≡ true)) c.in_default.is c.in_ok-halves.ensures.none in
    subst (λ rows. IsChangedUnlessMemory (split c.args.segment c.args.held c.args.fence rows) rows rows (Err (ClaimFault.Refused Refused.MaskFull))) c.self.view_is
    (subst (λ x. IsChangedUnlessMemory x c.self.inside.rows.items c.self.inside.rows.items (Err (ClaimFault.Refused Refused.MaskFull))) (sym (split-refused c.args.segment c.args.held c.args.fence c.in_ok-place.place c.self.inside.rows.items c.index.result.now c.self.invariant (sym c.in_ok-place.ensures.place ∙ ap (place_at c.args.segment) c.deref.ensures.value) (ap (λ rows. held_check c.args.held (row_at c.args.segment rows)) (sym c.deref.ensures.value) ∙ c.in_ok-place.ensures.held) c.index.ensures full)) (refl, refl))

pub put_halves-requires : goal.put_halves-requires
put_halves-requires c = within c.args.segment c.self.inside.rows.items c.in_ok-place.place (sym c.in_ok-place.ensures.place ∙ ap (place_at c.args.segment) c.deref.ensures.value)

pub invariant_of-self-2 : goal.invariant_of-self-2
invariant_of-self-2 c =
    subst AreRows (sym c.in_ok-put_halves.ensures.ok) (split-kept c.args.segment c.args.held c.args.fence c.in_ok-place.place c.self.inside.rows.items c.index.result.now c.self.invariant (sym c.in_ok-place.ensures.place ∙ ap (place_at c.args.segment) c.deref.ensures.value) (ap (λ rows. held_check c.args.held (row_at c.args.segment rows)) (sym c.deref.ensures.value) ∙ c.in_ok-place.ensures.held) c.index.ensures c.in-Some.halves.lower c.in-Some.halves.upper
    (subst (λ o. IfSome o (λ _. (c.index.result.now.segment.mask == max_mask) ≡ false)) c.in-Some.is c.in_ok-halves.ensures.some)
    (subst (λ o. IfSome o (λ halves. halves.lower ≡ lower_row c.index.result.now c.args.fence)) c.in-Some.is c.in_ok-halves.ensures.lower)
    (subst (λ o. IfSome o (λ halves. halves.upper ≡ upper_row c.index.result.now c.args.fence)) c.in-Some.is c.in_ok-halves.ensures.upper))

pub returns : goal.returns
returns c =
    subst (λ rows. IsChangedUnlessMemory (split c.args.segment c.args.held c.args.fence rows) rows c.put_halves.new.rows.items (Ok tt)) c.self.view_is
    (subst (λ x. IsChangedUnlessMemory x c.self.inside.rows.items c.put_halves.new.rows.items (Ok tt)) (sym (split-done c.args.segment c.args.held c.args.fence c.in_ok-place.place c.self.inside.rows.items c.index.result.now c.self.invariant (sym c.in_ok-place.ensures.place ∙ ap (place_at c.args.segment) c.deref.ensures.value) (ap (λ rows. held_check c.args.held (row_at c.args.segment rows)) (sym c.deref.ensures.value) ∙ c.in_ok-place.ensures.held) c.index.ensures c.in-Some.halves.lower c.in-Some.halves.upper
    (subst (λ o. IfSome o (λ _. (c.index.result.now.segment.mask == max_mask) ≡ false)) c.in-Some.is c.in_ok-halves.ensures.some)
    (subst (λ o. IfSome o (λ halves. halves.lower ≡ lower_row c.index.result.now c.args.fence)) c.in-Some.is c.in_ok-halves.ensures.lower)
    (subst (λ o. IfSome o (λ halves. halves.upper ≡ upper_row c.index.result.now c.args.fence)) c.in-Some.is c.in_ok-halves.ensures.upper))) c.in_ok-put_halves.ensures.ok)
