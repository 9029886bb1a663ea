-- An extension and a release keep what holds of every state.
use Rattle.std.proofs.Common.{◌≡◌, ℕ, suc, ◌≤◌, not, List, Some, None, slice_get, refl, sym, ◌∙◌, arith}
use Rattle.std.specs.List.{AllByRecursion}
use Rattle.ax_values.specs.Grammar.{Name}
use Rattle.ax_laws.proofs.Options.{none-some}
use Rattle.ax_segments.specs.Segments.{Segment}
use Rattle.ax_claims.specs.Rows.{TokenRow, row_at, put_row}
use Rattle.ax_claims.specs.Changes.{owned}
use Rattle.ax_state.specs.State.{State, desk_at, processor_state_at, actor_name, with_fence, with_rows}
use Rattle.ax_state.specs.WellFormed.{IsWellFormed, IsProcessorState, OwnsRow, OwnsAs}
use Rattle.ax_state.proofs.Lists.{All-get, All-filter, AllFrom-get}
use Rattle.ax_state.proofs.RowPuts.{found-row}
use Rattle.ax_state.proofs.Frames.{seat-at, place-there, place-at, place-owned, kept-held-row, kept-fresh-row}
use Rattle.ax_state.proofs.Desks.{kept-held}
use Rattle.ax_world.specs.Holding.{is_held_at, held_fence}
use Rattle.ax_world.proofs.HeldFences.{held-owned, kept-on_held_row}
use Rattle.ax_step_claims.specs.Claiming.{let_go, extended, extend_at, released, release_at}

-- a row whose fence the desk holds
module _ (m : State) (actor p : ℕ) (s : Segment) (r : TokenRow) (h : IsWellFormed m) (found : row_at s (processor_state_at m p).rows ≡ Some r) (held : held_fence p s (desk_at m actor).held ≡ Some r.fence) where
  abbrev who : Name
  who = actor_name m actor

  abbrev rows : List TokenRow
  rows = (processor_state_at m p).rows

  there : slice_get m.processor_states p ≡ Some (processor_state_at m p)
  there = place-there m p s r found

  was : IsProcessorState m.setting m.cells p (processor_state_at m p)
  was = place-at m p there h

  place : (k : ℕ) × (slice_get rows k ≡ Some r) × (r.segment ≡ s)
  place = found-row s rows r found

  -- it belongs to the actor
  owner-is : r.owner ≡ Some who
  owner-is =
      let owns = (held-owned m.fence m.processor_states who (desk_at m actor) p s r.fence (seat-at m actor h) held).1 in
      (All-get (OwnsRow who p s r.fence p) rows place.0 r (AllFrom-get (λ k x. AllByRecursion (OwnsRow who p s r.fence k) x.rows) 0 m.processor_states p (processor_state_at m p) owns there p (omega arith)) place.1 refl).2

  pub kept-extended : IsWellFormed (extended m p r).state
  kept-extended = kept-held-row m p s r (owned r r.owner m.clock r.fence) found refl (omega arith) h refl refl
      (place-owned m.setting m.cells p (processor_state_at m p) place.0 r (owned r r.owner m.clock r.fence) was place.1 refl (λ e. absurd (none-some who (sym e ∙ owner-is))) refl)
      (λ k d b at has old seg is. old seg is)

  abbrev free : TokenRow
  free = owned r None 0 (suc m.fence)

  abbrev risen : State
  risen = with_fence (suc m.fence) (with_rows p (put_row free rows) m)

  kept-risen : IsWellFormed risen
  kept-risen = kept-fresh-row m p s r free found refl (omega arith) h refl (place-owned m.setting m.cells p (processor_state_at m p) place.0 r free was place.1 refl (λ e. refl) refl)

  pub kept-released : IsWellFormed (released m actor p s r).state
  kept-released = kept-held risen actor (let_go p s (desk_at m actor).held)
      (All-filter (λ x. (x.fence ≤ suc m.fence) × OwnsAs who risen.processor_states x.processor x.segment x.fence) (λ x. not (is_held_at p s x)) (desk_at m actor).held (seat-at risen actor kept-risen).held)
      kept-risen

pub kept-extend : (m : State) (actor p : ℕ) (s : Segment) → IsWellFormed m → IsWellFormed (extend_at m actor p s).state
kept-extend m actor p s h = kept-on_held_row m actor p s (extended m p) h (λ r. kept-extended m actor p s r h)

pub kept-release : (m : State) (actor p : ℕ) (s : Segment) → IsWellFormed m → IsWellFormed (release_at m actor p s).state
kept-release m actor p s h = kept-on_held_row m actor p s (released m actor p s) h (λ r. kept-released m actor p s r h)
