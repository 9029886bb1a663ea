-- A claim keeps what holds of every state.
use Rattle.std.specs.Prelude.{◌≡◌, ℕ, suc, ◌<◌, ◌≤◌, not, List, [], ◌∷◌, Option, Some, None, slice_get, true, false, if◌then◌else◌}
use Rattle.std.specs.List.{AllByRecursion}
use Rattle.std.proofs.Common.{refl, arith}
use Rattle.ax_values.specs.Grammar.{Name}
use Rattle.ax_segments.specs.Segments.{Segment}
use Rattle.ax_claims.specs.Rows.{TokenRow, row_at, put_row}
use Rattle.ax_claims.specs.Changes.{is_claimed, owned}
use Rattle.ax_state.specs.Setting.{processor_number}
use Rattle.ax_state.specs.State.{State, ProcessorState, desk_at, processor_state_at, actor_name, with_fence, with_rows}
use Rattle.ax_state.specs.Answer.{answer}
use Rattle.ax_state.specs.WellFormed.{IsWellFormed, IsProcessorState, IsFencedProcessor, OwnsRow, OwnsAs}
use Rattle.ax_state.proofs.Lists.{All-map, All-get, All-filter, All-append, AllFrom-set, AllFrom-of}
use Rattle.ax_state.proofs.RowPuts.{found-row, put-all}
use Rattle.ax_state.proofs.Frames.{seat-at, place-there, place-at, place-owned, kept-fresh-row}
use Rattle.ax_state.proofs.Desks.{kept-held}
use Rattle.ax_world.specs.Holding.{is_held_at}
use Rattle.ax_step_claims.specs.Claiming.{claim, claimed, claimed_reply, granted, let_go, hold_fence}

-- the row that is found gets a fresh fence and an owner, and the desk the fence
module _ (m : State) (actor p : ℕ) (s : Segment) (r : TokenRow) (found : row_at s (processor_state_at m p).rows ≡ Some r) (h : IsWellFormed m) where
  abbrev who : Name
  who = actor_name m actor

  abbrev fresh : ℕ
  fresh = suc m.fence

  abbrev row : TokenRow
  row = owned r (Some who) m.clock fresh

  abbrev rows : List TokenRow
  rows = (processor_state_at m p).rows

  abbrev risen : State
  risen = with_fence fresh (with_rows p (put_row row rows) m)

  was : IsProcessorState m.setting m.cells p (processor_state_at m p)
  was = place-at m p (place-there m p s r found) h

  place : (k : ℕ) × (slice_get rows k ≡ Some r) × (r.segment ≡ s)
  place = found-row s rows r found

  kept-risen : IsWellFormed risen
  kept-risen = kept-fresh-row m p s r row found refl (omega arith) h refl (place-owned m.setting m.cells p (processor_state_at m p) place.0 r row was place.1 refl (λ e. absurd (cc)) refl)

  -- no old row has the fresh fence
  none-fresh : (k : ℕ) (x : ProcessorState) → IsFencedProcessor m.fence x → AllByRecursion (OwnsRow who p s fresh k) x.rows
  none-fresh k x fenced = All-map (λ y. (0 < y.fence) × (y.fence ≤ m.fence)) (OwnsRow who p s fresh k) (λ y le (is : y.fence ≡ suc m.fence). let l : y.fence ≤ m.fence = le.1 in absurd (omega arith)) x.rows fenced

  owns-fresh : OwnsAs who risen.processor_states p s fresh
  owns-fresh =
      AllFrom-set (λ k x. AllByRecursion (OwnsRow who p s fresh k) x.rows) 0 m.processor_states p (record (processor_state_at m p) { rows = put_row row rows })
      (AllFrom-of (IsFencedProcessor m.fence) (λ k x. AllByRecursion (OwnsRow who p s fresh k) x.rows) none-fresh 0 m.processor_states h.fences.within)
      (λ k e. put-all rows place.0 r row was.parts place.1 refl (OwnsRow who p s fresh k)
      (none-fresh k (processor_state_at m p) (All-get (IsFencedProcessor m.fence) m.processor_states p (processor_state_at m p) h.fences.within (place-there m p s r found)))
      (λ is. ((let i : k ≡ p = omega arith in i), place.2, refl)))

  pub kept-granted : IsWellFormed (granted m actor p s r).state
  kept-granted = kept-held risen actor (hold_fence p s fresh (desk_at m actor).held)
      (All-append (λ x. (x.fence ≤ fresh) × OwnsAs who risen.processor_states x.processor x.segment x.fence) (let_go p s (desk_at m actor).held) (record { processor = p; segment = s; fence = fresh } ∷ [])
      (All-filter (λ x. (x.fence ≤ fresh) × OwnsAs who risen.processor_states x.processor x.segment x.fence) (λ x. not (is_held_at p s x)) (desk_at m actor).held (seat-at risen actor kept-risen).held)
      ((omega arith, owns-fresh), tt))
      kept-risen

pub kept-claim : (m : State) (actor : ℕ) (name : Name) (s : Segment) → IsWellFormed m → IsWellFormed (claim m actor name s).state
kept-claim m actor name s h = by (row_at s (processor_state_at m (processor_number m.setting.processors name)).rows) refl
  where
    p : ℕ
    p = processor_number m.setting.processors name

    by : (x : Option TokenRow) → row_at s (processor_state_at m p).rows ≡ x → IsWellFormed (claimed m actor p s x).state
    by None f = h
    by (Some r) f = elim (is_claimed (actor_name m actor) m.clock r) as (λ b. IsWellFormed (if b then answer m (claimed_reply r r.owner) else granted m actor p s r).state) [ true ↦ h | false ↦ kept-granted m actor p s r f h ]
