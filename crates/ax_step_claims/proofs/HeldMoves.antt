-- Extensions, releases, splits and merges as moves.
use Rattle.std.proofs.Common.{◌≡◌, ℕ, suc, ◌+◌, ◌/◌, ◌<◌, ◌==◌, Bool, true, false, not, min, List, [], ◌∷◌, length, Option, Some, None, Result, Ok, Err, if◌then◌else◌, refl, sym, ap, ◌∙◌, subst, arith}
use Rattle.std.specs.Prelude.{slice_get}
use Rattle.ax_values.specs.Grammar.{Name}
use Rattle.ax_values.specs.Words.{place_where}
use Rattle.ax_segments.specs.Segments.{Segment, same_segment, max_mask, partner, lower_half, upper_half}
use Rattle.ax_claims.specs.Rows.{TokenRow, row_at, put_row}
use Rattle.ax_claims.specs.Changes.{is_claimed, is_expired, owned, extended as extended_rows, released as released_rows, split as split_change, merge as merge_change, merged_with as merged_rows, split_rows, merge_rows, partner_row, IsChanged, IsChangedUnlessMemory}
use Rattle.ax_claims.specs.declared.refused.Refused.{Refused}
use Rattle.ax_claims.specs.declared.refused.ClaimFault.{ClaimFault}
use Rattle.ax_state.specs.State.{State, Desk, desk_at, processor_state_at, actor_name, with_desk, with_fence, with_rows}
use Rattle.ax_state.specs.Portions.{portions}
use Rattle.ax_state.specs.WellFormed.{IsProcessorState}
use Rattle.ax_state.specs.Answer.{Answer, answer}
use Rattle.ax_state.proofs.RowPuts.{found-row, portions-put}
use Rattle.ax_state.proofs.Frames.{place-there, place-at}
use Rattle.ax_state.proofs.Splits.{CoverSame, split-covers, is-merge}
use Rattle.ax_world.specs.Holding.{held_fence}
use Rattle.ax_world.specs.WorldTables.{WorldTables, DeskTables, desk_of, state_of, rows_at}
use Rattle.ax_world.specs.Fits.{IsWorld}
use Rattle.ax_world.specs.Moves.{IsMove}
use Rattle.ax_world.proofs.StepMoves.{unmoved}
use Rattle.ax_step_claims.specs.Claiming.{HasOwner, NamesOwned, claimed_reply, found_reply, refused_reply, let_go, extended, extend_at, released, release_at, halved, split_row, split_at, joined, merged_with, merge_at}
use Rattle.ax_step_claims.proofs.HeldKept.{kept-extended, kept-released}
use Rattle.ax_step_claims.proofs.HalvesKept.{kept-halved, kept-joined}
use Rattle.ax_step_claims.proofs.HeldSteps.{IsNoStep, IsRowStep, refused-of, made-of, fault-of, done-of, refused-step, row-step}
use Rattle.ax_step_claims.proofs.Moves.{same-covers, rows-place, rows-move, fenced-move, desk-move, desk-read}
use Rattle.ax_step_claims.proofs.Answered.{find-place, claimed-owner}
use Rattle.ax_world.specs.declared.edit.Edit.{Edit}
use Rattle.ax_journal.specs.declared.reply.Reply.{Reply}

-- the move of a change that is refused, with the reply of the rows as they stand
pub record IsRefusal (w : WorldTables) (rows : List TokenRow) (refused : Refused) (a : Answer) : Type 0 where
  pub named : NamesOwned rows refused
  pub move : IsMove w a (record { edits = []; reply = refused_reply rows refused; report = [] })

module _ (w : WorldTables) (actor p : ℕ) (s : Segment) (h : IsWorld w) (old new : List TokenRow) (held : Option ℕ) (old_is : old ≡ rows_at w p) (held_is : held ≡ held_fence p s (desk_at (state_of w) actor).held) where
  abbrev m : State
  m = state_of w

  abbrev rows : List TokenRow
  rows = (processor_state_at m p).rows

  abbrev holds : Option ℕ
  holds = held_fence p s (desk_at m actor).held

  rows-are : old ≡ rows
  rows-are = old_is ∙ sym (rows-place w p)

  refusal-move : (refused : Refused) (a : Answer) → new ≡ old → IsNoStep m rows refused a → IsRefusal w new refused a
  refusal-move refused a same k =
      let there : rows ≡ new = sym rows-are ∙ sym same in
      record {
        named = subst (λ rs. NamesOwned rs refused) there k.named;
        move = subst (λ x. IsMove w x (record { edits = []; reply = refused_reply new refused; report = [] })) (ap (λ rs. answer m (refused_reply rs refused)) (sym there) ∙ sym k.is) (unmoved w (refused_reply new refused) h);
      }

  place-of : (r : TokenRow) → row_at s rows ≡ Some r → IsProcessorState m.setting m.cells p (processor_state_at m p)
  place-of r found = place-at m p (place-there m p s r found) h.state

  put-covers : (r n : TokenRow) → row_at s rows ≡ Some r → n.segment ≡ r.segment → n.token ≡ r.token → CoverSame (portions rows) (portions (put_row n rows))
  put-covers r n found seg token = same-covers (portions rows) (portions (put_row n rows)) (portions-put s rows r n (place-of r found).parts found seg token)

  -- ---- extend

  module _ (now : ℕ) (clock : now ≡ w.clock) where
    extend-now : (x : Result (List TokenRow) Refused) → extended_rows s held now old ≡ x → extended_rows s holds w.clock rows ≡ x
    extend-now x e = (λ i. extended_rows s (sym held_is i) (sym clock i) (sym rows-are i)) ∙ e

    pub extend-refused : (refused : Refused) → IsChanged (extended_rows s held now old) old new (Err refused) → IsRefusal w new refused (extend_at m actor p s)
    extend-refused refused k =
        let e = refused-of (extended_rows s held now old) old new refused k in
        refusal-move refused (extend_at m actor p s) e.1
        (refused-step m actor p s (λ r. Ok (put_row (owned r r.owner w.clock r.fence) rows)) (extended m p) refused (λ r found f. absurd (cc)) (extend-now (Err refused) e.0))

    pub extend-made : (u : Unit {0}) → p < length w.processor_tables → IsChanged (extended_rows s held now old) old new (Ok u) → IsMove w (extend_at m actor p s) (record { edits = Edit.SetRows p new ∷ []; reply = Reply.Now now; report = [] })
    extend-made u lt k =
        let step = row-step m actor p s (λ r. Ok (put_row (owned r r.owner w.clock r.fence) rows)) (extended m p) new (extend-now (Ok new) (made-of (extended_rows s held now old) old new u k)) in
        let is : put_row (owned step.row step.row.owner w.clock step.row.fence) rows ≡ new = (let c = step.changed in cc) in
        subst (λ x. IsMove w x (record { edits = Edit.SetRows p new ∷ []; reply = Reply.Now now; report = [] })) (sym step.is)
        (rows-move w p new (extended m p step.row) (Reply.Now now) h lt
        (subst (λ xs. CoverSame (portions rows) (portions xs)) is (put-covers step.row (owned step.row step.row.owner w.clock step.row.fence) step.found refl refl))
        (kept-extended m actor p s step.row h.state step.found step.fence) (ap Reply.Now clock) refl (ap (λ xs. with_rows p xs m) is))

  -- ---- release

  module _ (fence : ℕ) (next : fence ≡ w.fence + 1) where
    succ : fence ≡ suc w.fence
    succ = omega (arith, next)

    release-now : (x : Result (List TokenRow) Refused) → released_rows s held fence old ≡ x → released_rows s holds (suc w.fence) rows ≡ x
    release-now x e = (λ i. released_rows s (sym held_is i) (sym succ i) (sym rows-are i)) ∙ e

    pub release-refused : (refused : Refused) → IsChanged (released_rows s held fence old) old new (Err refused) → IsRefusal w new refused (release_at m actor p s)
    release-refused refused k =
        let e = refused-of (released_rows s held fence old) old new refused k in
        refusal-move refused (release_at m actor p s) e.1
        (refused-step m actor p s (λ r. Ok (put_row (owned r None 0 (suc w.fence)) rows)) (released m actor p s) refused (λ r found f. absurd (cc)) (release-now (Err refused) e.0))

    abbrev left : DeskTables → DeskTables
    left was = record was { held = let_go p s was.held }

    pub release-made : (u : Unit {0}) (was : DeskTables) → p < length w.processor_tables → actor < length w.desks → slice_get w.desks actor ≡ Some (desk_of was) → slice_get w.bases actor ≡ Some was.batch → IsChanged (released_rows s held fence old) old new (Ok u)
        → IsMove w (release_at m actor p s) (record { edits = Edit.SetRows p new ∷ Edit.Fence fence ∷ Edit.SetDesk actor (left was) ∷ []; reply = Reply.Done; report = [] })
    release-made u was lt there desk batch k =
        let step = row-step m actor p s (λ r. Ok (put_row (owned r None 0 (suc w.fence)) rows)) (released m actor p s) new (release-now (Ok new) (made-of (released_rows s held fence old) old new u k)) in
        let is : put_row (owned step.row None 0 (suc w.fence)) rows ≡ new = (let c = step.changed in cc) in
        subst (λ x. IsMove w x (record { edits = Edit.SetRows p new ∷ Edit.Fence fence ∷ Edit.SetDesk actor (left was) ∷ []; reply = Reply.Done; report = [] })) (sym step.is)
        (desk-move w p new (released m actor p s step.row) Reply.Done h lt
        (subst (λ xs. CoverSame (portions rows) (portions xs)) is (put-covers step.row (owned step.row None 0 (suc w.fence)) step.found refl refl))
        (kept-released m actor p s step.row h.state step.found step.fence) refl refl fence actor (left was) there batch
        (λ i. with_fence (sym succ i) (with_desk actor (let_go_of (desk-read w actor was desk i)) (with_rows p (is i) m))))
      where
        let_go_of : Desk → Desk
        let_go_of d = record d { held = let_go p s d.held }

    -- ---- split

    abbrev cut : TokenRow → Result (List TokenRow) Refused
    cut r = if s.mask == max_mask then Err Refused.MaskFull else Ok (split_rows r (suc w.fence) rows)

    split-now : (x : Result (List TokenRow) Refused) → split_change s held fence old ≡ x → split_change s holds (suc w.fence) rows ≡ x
    split-now x e = (λ i. split_change s (sym held_is i) (sym succ i) (sym rows-are i)) ∙ e

    cut-refused : (r : TokenRow) (refused : Refused) (b : Bool) → (if b then Err Refused.MaskFull else Ok (split_rows r (suc w.fence) rows)) ≡ Err refused → IsNoStep m rows refused (if b then answer m Reply.MaskFull else halved m p s r)
    cut-refused r refused true e = let is : Refused.MaskFull ≡ refused = cc in record { named = subst (NamesOwned rows) is tt; is = ap (λ z. answer m (refused_reply rows z)) is }
    cut-refused r refused false e = absurd (cc)

    pub split-refused : (refused : Refused) → IsChangedUnlessMemory (split_change s held fence old) old new (Err (ClaimFault.Refused refused)) → IsRefusal w new refused (split_at m actor p s)
    split-refused refused k =
        let e = fault-of (split_change s held fence old) old new refused k in
        refusal-move refused (split_at m actor p s) e.1 (refused-step m actor p s cut (split_row m p s) refused (λ r found f. cut-refused r refused (s.mask == max_mask) f) (split-now (Err refused) e.0))

    -- a split that is made: the mask has halves
    record IsCut (r : TokenRow) (b : Bool) : Type 0 where
      more : b ≡ false
      is : split_rows r (suc w.fence) rows ≡ new

    cut-made : (r : TokenRow) (b : Bool) → (if b then Err Refused.MaskFull else Ok (split_rows r (suc w.fence) rows)) ≡ Ok new → IsCut r b
    cut-made r true e = absurd (cc)
    cut-made r false e = record { more = refl; is = cc }

    pub split-more : (u : Unit {0}) → IsChangedUnlessMemory (split_change s held fence old) old new (Ok u) → (s.mask == max_mask) ≡ false
    split-more u k =
        let step = row-step m actor p s cut (split_row m p s) new (split-now (Ok new) (done-of (split_change s held fence old) old new u k)) in
        (cut-made step.row (s.mask == max_mask) step.changed).more

    pub split-made : (u : Unit {0}) → p < length w.processor_tables → IsChangedUnlessMemory (split_change s held fence old) old new (Ok u)
        → IsMove w (split_at m actor p s) (record { edits = Edit.SetRows p new ∷ Edit.Fence (fence + 1) ∷ []; reply = Reply.Halves (lower_half s) (upper_half s); report = [] })
    split-made u lt k =
        let step = row-step m actor p s cut (split_row m p s) new (split-now (Ok new) (done-of (split_change s held fence old) old new u k)) in
        let c = cut-made step.row (s.mask == max_mask) step.changed in
        let place = found-row s rows step.row step.found in
        let more : (step.row.segment.mask == max_mask) ≡ false = ap (λ (t : Segment). t.mask == max_mask) place.2 ∙ c.more in
        let last : suc (suc w.fence) ≡ fence + 1 = omega (arith, next) in
        subst (λ x. IsMove w x (record { edits = Edit.SetRows p new ∷ Edit.Fence (fence + 1) ∷ []; reply = Reply.Halves (lower_half s) (upper_half s); report = [] }))
        (sym (step.is ∙ ap (λ b. if b then answer m Reply.MaskFull else halved m p s step.row) c.more))
        (fenced-move w p new (halved m p s step.row) (Reply.Halves (lower_half s) (upper_half s)) h lt
        (subst (λ xs. CoverSame (portions rows) (portions xs)) c.is (split-covers rows place.0 step.row (suc w.fence) (place-of step.row step.found).parts place.1 more))
        (kept-halved m p s step.row h.state step.found more) refl refl (fence + 1) (λ i. with_fence (last i) (with_rows p (c.is i) m)))

    -- ---- merge

    module _ (now : ℕ) (clock : now ≡ w.clock) (who : Name) (who_is : who ≡ actor_name m actor) where
      abbrev name : Name
      name = actor_name m actor

      abbrev joins : TokenRow → Result (List TokenRow) Refused
      joins r = merged_rows name w.clock (suc w.fence) rows r (partner_row (partner s) rows)

      abbrev joining : TokenRow → Answer
      joining r = merged_with m actor p r (partner_row (partner s) rows)

      merge-now : (x : Result (List TokenRow) Refused) → merge_change s held who now fence old ≡ x → merge_change s holds name w.clock (suc w.fence) rows ≡ x
      merge-now x e = (λ i. merge_change s (sym held_is i) (sym who_is i) (sym clock i) (sym succ i) (sym rows-are i)) ∙ e

      -- the row of the partner, where there is one
      record IsOther (q : TokenRow) : Type 0 where
        segment : Segment
        is : partner s ≡ Some segment
        found : row_at segment rows ≡ Some q

      other-of : (q : TokenRow) → partner_row (partner s) rows ≡ Some q → IsOther q
      other-of q e = at (partner s) refl e
        where
          at : (o : Option Segment) → partner s ≡ o → partner_row o rows ≡ Some q → IsOther q
          at None f e = absurd (cc)
          at (Some t) f e = record { segment = t; is = f; found = e }

      abbrev place-in : TokenRow → ℕ
      place-in q = place_where (λ x. same_segment x.segment q.segment) rows

      joins-refused : (r : TokenRow) (refused : Refused) (o : Option TokenRow) → partner_row (partner s) rows ≡ o → merged_rows name w.clock (suc w.fence) rows r o ≡ Err refused → IsNoStep m rows refused (merged_with m actor p r o)
      joins-refused r refused None f e = let is : Refused.Alone ≡ refused = cc in record { named = subst (NamesOwned rows) is tt; is = ap (λ z. answer m (refused_reply rows z)) is }
      joins-refused r refused (Some q) f e = by (is_claimed name w.clock q) refl e
        where
          by : (b : Bool) → is_claimed name w.clock q ≡ b → (if b then Err (Refused.Claimed (place-in q)) else Ok (merge_rows r q (suc w.fence) rows)) ≡ Err refused → IsNoStep m rows refused (if b then answer m (claimed_reply q q.owner) else joined m p r q)
          by false c e = absurd (cc)
          by true c e =
              let other = other-of q f in
              let own : q.segment ≡ other.segment = (found-row other.segment rows q other.found).2 in
              let there : slice_get rows (place-in q) ≡ Some q = find-place (λ x. same_segment x.segment q.segment) rows q (ap (λ t. row_at t rows) own ∙ other.found) in
              let is : Refused.Claimed (place-in q) ≡ refused = cc in
              record {
                named = subst (NamesOwned rows) is (subst HasOwner (sym there) (claimed-owner name q.owner (not_expired q) c));
                is = ap (λ o. answer m (found_reply o)) (sym there) ∙ ap (λ z. answer m (refused_reply rows z)) is;
              }
            where
              not_expired : TokenRow → Bool
              not_expired q = not (is_expired w.clock q)

      pub merge-refused : (refused : Refused) → IsChangedUnlessMemory (merge_change s held who now fence old) old new (Err (ClaimFault.Refused refused)) → IsRefusal w new refused (merge_at m actor p s)
      merge-refused refused k =
          let e = fault-of (merge_change s held who now fence old) old new refused k in
          refusal-move refused (merge_at m actor p s) e.1 (refused-step m actor p s joins joining refused (λ r found f. joins-refused r refused (partner_row (partner s) rows) refl f) (merge-now (Err refused) e.0))

      -- a merge that is made: the partner has a row
      record IsJoin (r : TokenRow) (o : Option TokenRow) : Type 0 where
        row : TokenRow
        there : o ≡ Some row
        is : merge_rows r row (suc w.fence) rows ≡ new
        answer_is : merged_with m actor p r o ≡ joined m p r row

      joins-made : (r : TokenRow) (o : Option TokenRow) → merged_rows name w.clock (suc w.fence) rows r o ≡ Ok new → IsJoin r o
      joins-made r None e = absurd (cc)
      joins-made r (Some q) e = by (is_claimed name w.clock q) refl e
        where
          by : (b : Bool) → is_claimed name w.clock q ≡ b → (if b then Err (Refused.Claimed (place-in q)) else Ok (merge_rows r q (suc w.fence) rows)) ≡ Ok new → IsJoin r (Some q)
          by true c e = absurd (cc)
          by false c e = record { row = q; there = refl; is = cc; answer_is = ap (λ b. if b then answer m (claimed_reply q q.owner) else joined m p r q) c }

      made-step : (u : Unit {0}) → IsChangedUnlessMemory (merge_change s held who now fence old) old new (Ok u) → IsRowStep s holds rows new joins joining (merge_at m actor p s)
      made-step u k = row-step m actor p s joins joining new (merge-now (Ok new) (done-of (merge_change s held who now fence old) old new u k))

      pub record HasOther : Type 0 where
        pub other : Segment
        pub is : partner s ≡ Some other
        pub move : p < length w.processor_tables → IsMove w (merge_at m actor p s) (record { edits = Edit.SetRows p new ∷ Edit.Fence fence ∷ []; reply = Reply.Merged (record { id = min s.id other.id; mask = s.mask / 2 }); report = [] })

      pub merge-made : (u : Unit {0}) → IsChangedUnlessMemory (merge_change s held who now fence old) old new (Ok u) → HasOther
      merge-made u k =
          let step = made-step u k in
          let j = joins-made step.row (partner_row (partner s) rows) step.changed in
          let o = other-of j.row j.there in
          let mine = found-row s rows step.row step.found in
          let other = found-row o.segment rows j.row o.found in
          let pair : partner step.row.segment ≡ Some j.row.segment = ap partner mine.2 ∙ o.is ∙ ap Some (sym other.2) in
          let whole : record { id = min step.row.segment.id j.row.segment.id; mask = step.row.segment.mask / 2 } ≡ record { id = min s.id o.segment.id; mask = s.mask / 2 } =
          (λ i. record { id = min (mine.2 i).id (other.2 i).id; mask = (mine.2 i).mask / 2 }) in
          record {
            other = o.segment;
            is = o.is;
            move = λ lt. subst (λ x. IsMove w x (record { edits = Edit.SetRows p new ∷ Edit.Fence fence ∷ []; reply = Reply.Merged (record { id = min s.id o.segment.id; mask = s.mask / 2 }); report = [] }))
                (sym (step.is ∙ j.answer_is))
                (fenced-move w p new (joined m p step.row j.row) (Reply.Merged (record { id = min s.id o.segment.id; mask = s.mask / 2 })) h lt
                (subst (λ xs. CoverSame (portions rows) (portions xs)) j.is (is-merge rows mine.0 other.0 step.row j.row (suc w.fence) (place-of step.row step.found).parts mine.1 other.1 pair).covers)
                (kept-joined m p s step.row h.state step.found j.row other.0 other.1 pair) (ap Reply.Merged (sym whole)) refl fence (λ i. with_fence (sym succ i) (with_rows p (j.is i) m)));
          }
