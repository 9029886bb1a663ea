-- What a claim answers: a refusal changes nothing, and a grant leads to the state of the definition.
use Rattle.std.proofs.Common.{◌≡◌, ℕ, suc, ◌+◌, ◌<◌, Bool, true, false, not, ◌&&◌, List, [], ◌∷◌, length, Option, Some, None, Ok, Err, IsTrue, is_some, find, slice_get, if◌then◌else◌, refl, sym, ap, ap₂, ◌∙◌, subst, arith}
use Rattle.ax_values.specs.Grammar.{Name}
use Rattle.ax_values.specs.Words.{place_where}
use Rattle.ax_segments.specs.Segments.{Segment, same_segment}
use Rattle.ax_claims.specs.Rows.{TokenRow, row_at, put_row}
use Rattle.ax_claims.specs.Changes.{is_claimed, is_other, is_expired, owned, claimed_row, claimed as claimed_rows, IsChange}
use Rattle.ax_claims.specs.declared.refused.Refused.{Refused}
use Rattle.ax_state.specs.State.{State, Desk, processor_state_at, actor_name, with_desk, with_fence, with_rows}
use Rattle.ax_state.specs.Portions.{portions}
use Rattle.ax_state.specs.Answer.{answer}
use Rattle.ax_state.proofs.RowPuts.{portions-put}
use Rattle.ax_state.proofs.Frames.{place-there, place-at}
use Rattle.ax_world.specs.WorldTables.{WorldTables, DeskTables, desk_of, state_of, processor_tables_at, rows_at}
use Rattle.ax_world.specs.Fits.{IsWorld}
use Rattle.ax_world.specs.Moves.{IsMove}
use Rattle.ax_world.proofs.StepMoves.{unmoved}
use Rattle.ax_world.proofs.ProcessorStates.{processor_state-place}
use Rattle.ax_world.specs.declared.edit.Edit.{Edit}
use Rattle.ax_journal.specs.declared.reply.Reply.{Reply}
use Rattle.ax_step_claims.specs.Claiming.{claimed, claimed_reply, granted, hold_fence, found_reply, refused_reply, HasOwner, NamesOwned}
use Rattle.ax_step_claims.proofs.ClaimKept.{kept-granted}
use Rattle.ax_step_claims.proofs.Moves.{same-covers, rows-place, desk-move, desk-read}

-- ---- refusals

-- what a refusal of a claim says of the rows
abbrev pub IsRefusal : Segment → Name → ℕ → List TokenRow → Refused → Type 0
IsRefusal s actor now rows Refused.NoSegment = row_at s rows ≡ None
IsRefusal s actor now rows (Refused.Claimed place) = (r : TokenRow) × (slice_get rows place ≡ Some r) × (row_at s rows ≡ Some r) × (is_claimed actor now r ≡ true)
IsRefusal s actor now rows (Refused.Stale held found) = ⊥
IsRefusal s actor now rows Refused.NotHeld = ⊥
IsRefusal s actor now rows Refused.MaskFull = ⊥
IsRefusal s actor now rows Refused.Alone = ⊥

pub find-place : (t : TokenRow → Bool) (rows : List TokenRow) (r : TokenRow) → find t rows ≡ Some r → slice_get rows (place_where t rows) ≡ Some r
find-place t [] r e = absurd (cc)
find-place t (x ∷ xs) r e = at (t x) e (find-place t xs r)
  where
    at : (b : Bool) → (if b then Some x else find t xs) ≡ Some r → (find t xs ≡ Some r → slice_get xs (place_where t xs) ≡ Some r) → slice_get (x ∷ xs) (if b then 0 else suc (place_where t xs)) ≡ Some r
    at true e ih = e
    at false e ih = ih e

pub refusal : (s : Segment) (actor : Name) (now fence : ℕ) (old new : List TokenRow) (e : Refused × Name) → IsChange (claimed_rows s actor now fence old) actor old new (Err e) → (new ≡ old) × IsRefusal s actor now old e.0
refusal s actor now fence old new e h = by (row_at s old) refl h
  where
    by : (o : Option TokenRow) → row_at s old ≡ o → IsChange (claimed_row s actor now fence old o) actor old new (Err e) → (new ≡ old) × IsRefusal s actor now old e.0
    by None k h = (h.2, subst (IsRefusal s actor now old) (sym h.0) k)
    by (Some r) k h = at (is_claimed actor now r) refl h
      where
        place : ℕ
        place = place_where (λ x. same_segment x.segment s) old

        at : (b : Bool) → is_claimed actor now r ≡ b → IsChange (if b then Err (Refused.Claimed place) else Ok (put_row (owned r (Some actor) now fence) old)) actor old new (Err e) → (new ≡ old) × IsRefusal s actor now old e.0
        at true c h = (h.2, subst (IsRefusal s actor now old) (sym h.0) (r, find-place (λ x. same_segment x.segment s) old r k, k, c))
        at false c h = absurd h

pub claimed-owner : (actor : Name) (o : Option Name) (b : Bool) → (is_other actor o && b) ≡ true → IsTrue (is_some o)
claimed-owner actor None b h = absurd (cc)
claimed-owner actor (Some owner) b h = refl

pub names-owned : (s : Segment) (actor : Name) (now : ℕ) (rows : List TokenRow) (refused : Refused) → IsRefusal s actor now rows refused → NamesOwned rows refused
names-owned s actor now rows Refused.NoSegment h = tt
names-owned s actor now rows (Refused.Claimed place) h = subst HasOwner (sym h.1) (claimed-owner actor h.0.owner (not (is_expired now h.0)) h.3)
names-owned s actor now rows (Refused.Stale held found) h = tt
names-owned s actor now rows Refused.NotHeld h = tt
names-owned s actor now rows Refused.MaskFull h = tt
names-owned s actor now rows Refused.Alone h = tt

refused-answer : (m : State) (actor p : ℕ) (s : Segment) (refused : Refused) → IsRefusal s (actor_name m actor) m.clock (processor_state_at m p).rows refused
    → claimed m actor p s (row_at s (processor_state_at m p).rows) ≡ answer m (refused_reply (processor_state_at m p).rows refused)
refused-answer m actor p s Refused.NoSegment h = ap (claimed m actor p s) h
refused-answer m actor p s (Refused.Claimed place) h =
    ap (claimed m actor p s) h.2 ∙ ap (λ b. if b then answer m (claimed_reply h.0 h.0.owner) else granted m actor p s h.0) h.3 ∙ ap (λ o. answer m (found_reply o)) (sym h.1)
refused-answer m actor p s (Refused.Stale held found) h = absurd h
refused-answer m actor p s Refused.NotHeld h = absurd h
refused-answer m actor p s Refused.MaskFull h = absurd h
refused-answer m actor p s Refused.Alone h = absurd h

-- the move of a refusal
pub refused-move : (w : WorldTables) (actor p : ℕ) (s : Segment) (rows : List TokenRow) (refused : Refused) (reply : Reply) → IsWorld w → rows ≡ (processor_tables_at w p).processor_state.rows
    → IsRefusal s (actor_name (state_of w) actor) w.clock rows refused → reply ≡ refused_reply rows refused
    → IsMove w (claimed (state_of w) actor p s (row_at s (processor_state_at (state_of w) p).rows)) (record { edits = []; reply = reply; report = [] })
refused-move w actor p s rows refused reply h is k r =
    let same : rows ≡ (processor_state_at (state_of w) p).rows = is ∙ ap (λ x. x.rows) (sym (processor_state-place w p)) in
    let a : claimed (state_of w) actor p s (row_at s (processor_state_at (state_of w) p).rows) ≡ answer (state_of w) reply = refused-answer (state_of w) actor p s refused (subst (λ rs. IsRefusal s (actor_name (state_of w) actor) w.clock rs refused) same k) ∙ ap (answer (state_of w)) (ap (λ rs. refused_reply rs refused) (sym same) ∙ sym r) in
    subst (λ x. IsMove w x (record { edits = []; reply = reply; report = [] })) (sym a) (unmoved w reply h)

-- ---- grants

-- a claim that is granted: the row that was found is free, and gets the actor and the fence
pub record IsGrant (actor : Name) (now fence : ℕ) (s : Segment) (old new : List TokenRow) : Type 0 where
  pub row : TokenRow
  pub found : row_at s old ≡ Some row
  pub free : is_claimed actor now row ≡ false
  pub rows_are : new ≡ put_row (owned row (Some actor) now fence) old

pub grant : (s : Segment) (actor : Name) (now fence : ℕ) (old new : List TokenRow) (u : Unit {0}) → IsChange (claimed_rows s actor now fence old) actor old new (Ok u) → IsGrant actor now fence s old new
grant s actor now fence old new u h = by (row_at s old) refl h
  where
    by : (o : Option TokenRow) → row_at s old ≡ o → IsChange (claimed_row s actor now fence old o) actor old new (Ok u) → IsGrant actor now fence s old new
    by None k h = absurd h
    by (Some r) k h = at (is_claimed actor now r) refl h
      where
        place : ℕ
        place = place_where (λ x. same_segment x.segment s) old

        at : (b : Bool) → is_claimed actor now r ≡ b → IsChange (if b then Err (Refused.Claimed place) else Ok (put_row (owned r (Some actor) now fence) old)) actor old new (Ok u) → IsGrant actor now fence s old new
        at true c h = absurd h
        at false c h = record { row = r; found = k; free = c; rows_are = h }

module _ (w : WorldTables) (actor p : ℕ) (s : Segment) (row : TokenRow) (h : IsWorld w) (lt : p < length w.processor_tables) (there : actor < length w.desks) (was : DeskTables) (desk : slice_get w.desks actor ≡ Some (desk_of was)) (batch : slice_get w.bases actor ≡ Some was.batch)
    (found : row_at s (processor_state_at (state_of w) p).rows ≡ Some row) where
  abbrev m : State
  m = state_of w

  abbrev after : List TokenRow
  after = put_row (owned row (Some (actor_name m actor)) w.clock (suc w.fence)) (processor_state_at m p).rows

  abbrev holding : DeskTables
  holding = record was { held = hold_fence p s (suc w.fence) was.held }

  granted-move : is_claimed (actor_name m actor) w.clock row ≡ false → IsMove w (claimed m actor p s (row_at s (processor_state_at m p).rows))
      (record { edits = Edit.SetRows p after ∷ Edit.Fence (suc w.fence) ∷ Edit.SetDesk actor holding ∷ []; reply = Reply.Fenced (suc w.fence); report = [] })
  granted-move free =
      let a : claimed m actor p s (row_at s (processor_state_at m p).rows) ≡ granted m actor p s row =
      ap (claimed m actor p s) found ∙ ap (λ b. if b then answer m (claimed_reply row row.owner) else granted m actor p s row) free
      in
      subst (λ x. IsMove w x (record { edits = Edit.SetRows p after ∷ Edit.Fence (suc w.fence) ∷ Edit.SetDesk actor holding ∷ []; reply = Reply.Fenced (suc w.fence); report = [] })) (sym a)
      (desk-move w p after (granted m actor p s row) (Reply.Fenced (suc w.fence)) h lt
      (same-covers (portions (processor_state_at m p).rows) (portions after)
      (portions-put s (processor_state_at m p).rows row (owned row (Some (actor_name m actor)) w.clock (suc w.fence)) (place-at m p (place-there m p s row found) h.state).parts found refl refl))
      (kept-granted m actor p s row found h.state) refl refl (suc w.fence) actor holding there batch
      (ap (λ (d : Desk). with_fence (suc w.fence) (with_desk actor (record d { held = hold_fence p s (suc w.fence) d.held }) (with_rows p after m))) (desk-read w actor was desk)))

pub claim-move : (w : WorldTables) (actor p : ℕ) (s : Segment) (now fence : ℕ) (owner : Name) (old new : List TokenRow) (was : DeskTables) → IsWorld w → p < length w.processor_tables → actor < length w.desks → slice_get w.desks actor ≡ Some (desk_of was) → slice_get w.bases actor ≡ Some was.batch
    → now ≡ w.clock → fence ≡ w.fence + 1 → owner ≡ actor_name (state_of w) actor → old ≡ rows_at w p → IsGrant owner now fence s old new
    → IsMove w (claimed (state_of w) actor p s (row_at s (processor_state_at (state_of w) p).rows))
    (record { edits = Edit.SetRows p new ∷ Edit.Fence fence ∷ Edit.SetDesk actor (record was { held = hold_fence p s fence was.held }) ∷ []; reply = Reply.Fenced fence; report = [] })
claim-move w actor p s now fence owner old new was h lt there desk batch clock next name rows g =
    let succ : fence ≡ suc w.fence = omega (arith, next) in
    let same : old ≡ (processor_state_at (state_of w) p).rows = rows ∙ sym (rows-place w p) in
    rw (g.rows_are, name, clock, same, succ)
    (granted-move w actor p s g.row h lt there was desk batch (ap (row_at s) (sym same) ∙ g.found) (ap₂ (λ n t. is_claimed n t g.row) (sym name) (sym clock) ∙ g.free))
