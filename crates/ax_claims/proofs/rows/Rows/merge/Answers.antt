use Rattle.std.proofs.Common.{◌≡◌, ◌∙◌, ◌<◌, false, length, Ok, Err, slice_set, refl, sym, ap, subst, arith}
use Rattle.std.specs.Prelude.{remove}
use Rattle.ax_tokens.specs.Nodes.{token_of}
use Rattle.ax_claims.specs.Rows.{AreRows, place_at, row_at}
use Rattle.ax_claims.specs.Changes.{merge, is_claimed, held_check, IsChangedUnlessMemory}
use Rattle.ax_claims.specs.declared.refused.Refused.{Refused}
use Rattle.ax_claims.specs.declared.refused.ClaimFault.{ClaimFault}
use Rattle.ax_claims.proofs.Answered.{within, same-read}
use Rattle.ax_claims.proofs.HeldRows.{small-place, partner-at, row-there, merge-claimed, merge-low, merge-low-is, merge-high, merge-high-is, places-differ, whole-is, strict}
use Rattle.ax_claims.proofs.rows.Rows.merge.Goals as goal

pub index-requires : goal.index-requires
index-requires c = subst (λ n. c.in-Some.partner.place < n) c.deref-2.ensures.len (subst (λ rows. c.in-Some.partner.place < length rows) (sym c.deref-2.ensures.value) (let x = partner-at c.args.segment c.deref-2.result.now c.self.inside.rows.items c.in-Some.partner.place c.in-Some.partner.whole c.deref-2.ensures.value c.in-Some.ensures.some c.in-Some.ensures.place c.in-Some.ensures.whole in within x.other c.self.inside.rows.items c.in-Some.partner.place x.place))

pub overflow_cast-place : goal.overflow_cast-place
overflow_cast-place c = record { fits = small-place c.self.inside.rows.items c.in-Some.partner.place c.self.invariant (let x = partner-at c.args.segment c.deref-2.result.now c.self.inside.rows.items c.in-Some.partner.place c.in-Some.partner.whole c.deref-2.ensures.value c.in-Some.ensures.some c.in-Some.ensures.place c.in-Some.ensures.whole in within x.other c.self.inside.rows.items c.in-Some.partner.place x.place) }

pub returns-then-is_claimed : goal.returns-then-is_claimed
returns-then-is_claimed c =
    let x = partner-at c.args.segment c.deref-2.result.now c.self.inside.rows.items c.in-Some.partner.place c.in-Some.partner.whole c.deref-2.ensures.value c.in-Some.ensures.some c.in-Some.ensures.place c.in-Some.ensures.whole in
    let own = (sym c.in_ok-place.ensures.place ∙ ap (place_at c.args.segment) c.deref.ensures.value) in
    subst (λ rows. IsChangedUnlessMemory (merge c.args.segment c.args.held c.args.actor.now c.args.now c.args.fence rows) rows rows (Err (ClaimFault.Refused (Refused.Claimed c.in-Some.partner.place)))) c.self.view_is
    (subst (λ y. IsChangedUnlessMemory y c.self.inside.rows.items c.self.inside.rows.items (Err (ClaimFault.Refused (Refused.Claimed c.in-Some.partner.place))))
    (sym (merge-claimed c.args.segment x.other c.args.held c.args.actor.now c.args.now c.args.fence c.in_ok-place.place c.in-Some.partner.place c.self.inside.rows.items _ c.index.result.now c.self.invariant own (ap (λ rows. held_check c.args.held (row_at c.args.segment rows)) (sym c.deref.ensures.value) ∙ c.in_ok-place.ensures.held)
    (row-there c.args.segment c.self.inside.rows.items c.in_ok-place.place own) x.is x.place c.index.ensures (sym c.is_claimed.ensures ∙ c.if-is_claimed.true))) (refl, refl))

pub index-requires-2 : goal.index-requires-2
index-requires-2 c = subst (λ n. c.in_ok-place.place < n) c.deref.ensures.len (within c.args.segment c.deref.result.now c.in_ok-place.place (sym c.in_ok-place.ensures.place))

pub index-requires-3 : goal.index-requires-3
index-requires-3 c = subst (λ n. c.in-Some.partner.place < n) c.deref-2.ensures.len (subst (λ rows. c.in-Some.partner.place < length rows) (sym c.deref-2.ensures.value) (let x = partner-at c.args.segment c.deref-2.result.now c.self.inside.rows.items c.in-Some.partner.place c.in-Some.partner.whole c.deref-2.ensures.value c.in-Some.ensures.some c.in-Some.ensures.place c.in-Some.ensures.whole in within x.other c.self.inside.rows.items c.in-Some.partner.place x.place))

pub put_whole-requires-clause-high : goal.put_whole-requires-clause-high
put_whole-requires-clause-high c = let x = partner-at c.args.segment c.deref-2.result.now c.self.inside.rows.items c.in-Some.partner.place c.in-Some.partner.whole c.deref-2.ensures.value c.in-Some.ensures.some c.in-Some.ensures.place c.in-Some.ensures.whole in within x.other c.self.inside.rows.items c.in-Some.partner.place x.place

pub invariant_of-self : goal.invariant_of-self
invariant_of-self c =
    let x = partner-at c.args.segment c.deref-2.result.now c.self.inside.rows.items c.in-Some.partner.place c.in-Some.partner.whole c.deref-2.ensures.value c.in-Some.ensures.some c.in-Some.ensures.place c.in-Some.ensures.whole in
    let lt : c.in_ok-place.place < c.in-Some.partner.place = omega (arith, c.if-place-other.true) in
    subst AreRows (sym (c.put_whole.ensures ∙ ap (slice_set (remove c.self.inside.rows.items c.in-Some.partner.place) c.in_ok-place.place) (whole-is c.args.segment x.other c.args.held c.args.actor.now c.args.now c.args.fence c.in_ok-place.place c.in-Some.partner.place c.self.inside.rows.items c.index-2.result.now c.index-3.result.now c.self.invariant (sym c.in_ok-place.ensures.place ∙ ap (place_at c.args.segment) c.deref.ensures.value) (ap (λ rows. held_check c.args.held (row_at c.args.segment rows)) (sym c.deref.ensures.value) ∙ c.in_ok-place.ensures.held) c.index-2.ensures x.is x.place c.index-3.ensures c.in-Some.partner.whole (token_of c.in_ok-token.token) c.free-whole.result x.of_both c.in_ok-token.ensures c.free-whole.ensures))) (merge-low c.args.segment x.other c.args.held c.args.actor.now c.args.now c.args.fence c.in_ok-place.place c.in-Some.partner.place c.self.inside.rows.items c.index-2.result.now c.index-3.result.now c.self.invariant (sym c.in_ok-place.ensures.place ∙ ap (place_at c.args.segment) c.deref.ensures.value) (ap (λ rows. held_check c.args.held (row_at c.args.segment rows)) (sym c.deref.ensures.value) ∙ c.in_ok-place.ensures.held) c.index-2.ensures x.is x.place c.index-3.ensures lt)

pub put_whole-requires-else-place-other-clause-low : goal.put_whole-requires-else-place-other-clause-low
put_whole-requires-else-place-other-clause-low c =
    let x = partner-at c.args.segment c.deref-2.result.now c.self.inside.rows.items c.in-Some.partner.place c.in-Some.partner.whole c.deref-2.ensures.value c.in-Some.ensures.some c.in-Some.ensures.place c.in-Some.ensures.whole in
    let lt : c.in-Some.partner.place < c.in_ok-place.place = strict c.in_ok-place.place c.in-Some.partner.place (omega (arith, c.if-place-other.false)) (places-differ c.args.segment x.other c.args.held c.args.actor.now c.args.now c.args.fence c.in_ok-place.place c.in-Some.partner.place c.self.inside.rows.items c.index-2.result.now c.index-3.result.now c.self.invariant (sym c.in_ok-place.ensures.place ∙ ap (place_at c.args.segment) c.deref.ensures.value) (ap (λ rows. held_check c.args.held (row_at c.args.segment rows)) (sym c.deref.ensures.value) ∙ c.in_ok-place.ensures.held) c.index-2.ensures x.is x.place c.index-3.ensures) in
    lt

pub put_whole-requires-else-place-other-clause-high : goal.put_whole-requires-else-place-other-clause-high
put_whole-requires-else-place-other-clause-high c = within c.args.segment c.self.inside.rows.items c.in_ok-place.place (sym c.in_ok-place.ensures.place ∙ ap (place_at c.args.segment) c.deref.ensures.value)

pub invariant_of-self-else-place-other : goal.invariant_of-self-else-place-other
invariant_of-self-else-place-other c =
    let x = partner-at c.args.segment c.deref-2.result.now c.self.inside.rows.items c.in-Some.partner.place c.in-Some.partner.whole c.deref-2.ensures.value c.in-Some.ensures.some c.in-Some.ensures.place c.in-Some.ensures.whole in
    let lt : c.in-Some.partner.place < c.in_ok-place.place = strict c.in_ok-place.place c.in-Some.partner.place (omega (arith, c.if-place-other.false)) (places-differ c.args.segment x.other c.args.held c.args.actor.now c.args.now c.args.fence c.in_ok-place.place c.in-Some.partner.place c.self.inside.rows.items c.index-2.result.now c.index-3.result.now c.self.invariant (sym c.in_ok-place.ensures.place ∙ ap (place_at c.args.segment) c.deref.ensures.value) (ap (λ rows. held_check c.args.held (row_at c.args.segment rows)) (sym c.deref.ensures.value) ∙ c.in_ok-place.ensures.held) c.index-2.ensures x.is x.place c.index-3.ensures) in
    subst AreRows (sym (c.put_whole-else-place-other.ensures ∙ ap (slice_set (remove c.self.inside.rows.items c.in_ok-place.place) c.in-Some.partner.place) (whole-is c.args.segment x.other c.args.held c.args.actor.now c.args.now c.args.fence c.in_ok-place.place c.in-Some.partner.place c.self.inside.rows.items c.index-2.result.now c.index-3.result.now c.self.invariant (sym c.in_ok-place.ensures.place ∙ ap (place_at c.args.segment) c.deref.ensures.value) (ap (λ rows. held_check c.args.held (row_at c.args.segment rows)) (sym c.deref.ensures.value) ∙ c.in_ok-place.ensures.held) c.index-2.ensures x.is x.place c.index-3.ensures c.in-Some.partner.whole (token_of c.in_ok-token.token) c.free-whole.result x.of_both c.in_ok-token.ensures c.free-whole.ensures))) (merge-high c.args.segment x.other c.args.held c.args.actor.now c.args.now c.args.fence c.in_ok-place.place c.in-Some.partner.place c.self.inside.rows.items c.index-2.result.now c.index-3.result.now c.self.invariant (sym c.in_ok-place.ensures.place ∙ ap (place_at c.args.segment) c.deref.ensures.value) (ap (λ rows. held_check c.args.held (row_at c.args.segment rows)) (sym c.deref.ensures.value) ∙ c.in_ok-place.ensures.held) c.index-2.ensures x.is x.place c.index-3.ensures lt)

pub returns-then-place-other : goal.returns-then-place-other
returns-then-place-other c =
    let x = partner-at c.args.segment c.deref-2.result.now c.self.inside.rows.items c.in-Some.partner.place c.in-Some.partner.whole c.deref-2.ensures.value c.in-Some.ensures.some c.in-Some.ensures.place c.in-Some.ensures.whole in
    let lt : c.in_ok-place.place < c.in-Some.partner.place = omega (arith, c.if-place-other.true) in
    let free : is_claimed c.args.actor.now c.args.now c.index-3.result.now ≡ false = subst (λ r. is_claimed c.args.actor.now c.args.now r ≡ false) (same-read x.other c.self.inside.rows.items c.in-Some.partner.place c.index.result.now c.index-3.result.now x.place c.index.ensures c.index-3.ensures) (sym c.is_claimed.ensures ∙ c.if-is_claimed.false) in
    subst (λ rows. IsChangedUnlessMemory (merge c.args.segment c.args.held c.args.actor.now c.args.now c.args.fence rows) rows c.put_whole.new.rows.items (Ok tt)) c.self.view_is
    (subst (λ y. IsChangedUnlessMemory y c.self.inside.rows.items c.put_whole.new.rows.items (Ok tt)) (sym (merge-low-is c.args.segment x.other c.args.held c.args.actor.now c.args.now c.args.fence c.in_ok-place.place c.in-Some.partner.place c.self.inside.rows.items c.index-2.result.now c.index-3.result.now c.self.invariant (sym c.in_ok-place.ensures.place ∙ ap (place_at c.args.segment) c.deref.ensures.value) (ap (λ rows. held_check c.args.held (row_at c.args.segment rows)) (sym c.deref.ensures.value) ∙ c.in_ok-place.ensures.held) c.index-2.ensures x.is x.place c.index-3.ensures lt free))
    (c.put_whole.ensures ∙ ap (slice_set (remove c.self.inside.rows.items c.in-Some.partner.place) c.in_ok-place.place) (whole-is c.args.segment x.other c.args.held c.args.actor.now c.args.now c.args.fence c.in_ok-place.place c.in-Some.partner.place c.self.inside.rows.items c.index-2.result.now c.index-3.result.now c.self.invariant (sym c.in_ok-place.ensures.place ∙ ap (place_at c.args.segment) c.deref.ensures.value) (ap (λ rows. held_check c.args.held (row_at c.args.segment rows)) (sym c.deref.ensures.value) ∙ c.in_ok-place.ensures.held) c.index-2.ensures x.is x.place c.index-3.ensures c.in-Some.partner.whole (token_of c.in_ok-token.token) c.free-whole.result x.of_both c.in_ok-token.ensures c.free-whole.ensures)))

pub returns-else-place-other : goal.returns-else-place-other
returns-else-place-other c =
    let x = partner-at c.args.segment c.deref-2.result.now c.self.inside.rows.items c.in-Some.partner.place c.in-Some.partner.whole c.deref-2.ensures.value c.in-Some.ensures.some c.in-Some.ensures.place c.in-Some.ensures.whole in
    let lt : c.in-Some.partner.place < c.in_ok-place.place = strict c.in_ok-place.place c.in-Some.partner.place (omega (arith, c.if-place-other.false)) (places-differ c.args.segment x.other c.args.held c.args.actor.now c.args.now c.args.fence c.in_ok-place.place c.in-Some.partner.place c.self.inside.rows.items c.index-2.result.now c.index-3.result.now c.self.invariant (sym c.in_ok-place.ensures.place ∙ ap (place_at c.args.segment) c.deref.ensures.value) (ap (λ rows. held_check c.args.held (row_at c.args.segment rows)) (sym c.deref.ensures.value) ∙ c.in_ok-place.ensures.held) c.index-2.ensures x.is x.place c.index-3.ensures) in
    let free : is_claimed c.args.actor.now c.args.now c.index-3.result.now ≡ false = subst (λ r. is_claimed c.args.actor.now c.args.now r ≡ false) (same-read x.other c.self.inside.rows.items c.in-Some.partner.place c.index.result.now c.index-3.result.now x.place c.index.ensures c.index-3.ensures) (sym c.is_claimed.ensures ∙ c.if-is_claimed.false) in
    subst (λ rows. IsChangedUnlessMemory (merge c.args.segment c.args.held c.args.actor.now c.args.now c.args.fence rows) rows c.put_whole-else-place-other.new.rows.items (Ok tt)) c.self.view_is
    (subst (λ y. IsChangedUnlessMemory y c.self.inside.rows.items c.put_whole-else-place-other.new.rows.items (Ok tt)) (sym (merge-high-is c.args.segment x.other c.args.held c.args.actor.now c.args.now c.args.fence c.in_ok-place.place c.in-Some.partner.place c.self.inside.rows.items c.index-2.result.now c.index-3.result.now c.self.invariant (sym c.in_ok-place.ensures.place ∙ ap (place_at c.args.segment) c.deref.ensures.value) (ap (λ rows. held_check c.args.held (row_at c.args.segment rows)) (sym c.deref.ensures.value) ∙ c.in_ok-place.ensures.held) c.index-2.ensures x.is x.place c.index-3.ensures lt free))
    (c.put_whole-else-place-other.ensures ∙ ap (slice_set (remove c.self.inside.rows.items c.in_ok-place.place) c.in-Some.partner.place) (whole-is c.args.segment x.other c.args.held c.args.actor.now c.args.now c.args.fence c.in_ok-place.place c.in-Some.partner.place c.self.inside.rows.items c.index-2.result.now c.index-3.result.now c.self.invariant (sym c.in_ok-place.ensures.place ∙ ap (place_at c.args.segment) c.deref.ensures.value) (ap (λ rows. held_check c.args.held (row_at c.args.segment rows)) (sym c.deref.ensures.value) ∙ c.in_ok-place.ensures.held) c.index-2.ensures x.is x.place c.index-3.ensures c.in-Some.partner.whole (token_of c.in_ok-token.token) c.free-whole.result x.of_both c.in_ok-token.ensures c.free-whole.ensures)))
