-- What is known of a fence that a desk holds, and orders on a segment whose fence is held.
use Rattle.std.proofs.Common.{◌≡◌, ℕ, ◌≤◌, ◌==◌, Bool, true, false, List, [], ◌∷◌, find, Option, Some, None, slice_get, if◌then◌else◌, refl, sym, ap, ◌∙◌, subst, arith}
use Rattle.std.specs.Prelude.{option_map}
use Rattle.std.specs.List.{AllByRecursion}
use Rattle.std.proofs.lemmas.Bool.Decides.{nat_tests}
use Rattle.ax_values.specs.Grammar.{Name}
use Rattle.ax_laws.proofs.Tests.{both}
use Rattle.ax_segments.specs.Segments.{Segment, same_segment}
use Rattle.ax_claims.specs.Rows.{TokenRow, row_at}
use Rattle.ax_claims.proofs.RowPlaces.{same-segment}
use Rattle.ax_state.specs.Every.{option_or}
use Rattle.ax_state.specs.State.{State, ProcessorState, Held, Desk, desk_at, processor_state_at, empty_desk}
use Rattle.ax_state.specs.Answer.{Answer}
use Rattle.ax_state.specs.WellFormed.{IsWellFormed, IsDeskOf, OwnsAs}
use Rattle.ax_world.specs.WorldTables.{WorldTables, DeskTables, desk_of, state_of}
use Rattle.ax_world.specs.Holding.{is_held_at, held_fence, held_check, checked, on_held_row}
use Rattle.ax_journal.specs.declared.reply.Reply.{Reply}

held-by : (P : Held → Type 0) (p : ℕ) (s : Segment) (b : Bool) (x : Held) (hs : List Held) (f : ℕ) → is_held_at p s x ≡ b → option_map (λ h. h.fence) (if b then Some x else find (is_held_at p s) hs) ≡ Some f
    → P x → ((held_fence p s hs ≡ Some f) → (h : Held) × P h × (is_held_at p s h ≡ true) × (h.fence ≡ f)) → (h : Held) × P h × (is_held_at p s h ≡ true) × (h.fence ≡ f)
held-by P p s true x hs f e k px again = (x, px, e, (let same : x.fence ≡ f = cc in same))
held-by P p s false x hs f e k px again = again k

held-found : (P : Held → Type 0) (p : ℕ) (s : Segment) (hs : List Held) (f : ℕ) → held_fence p s hs ≡ Some f → AllByRecursion P hs → (h : Held) × P h × (is_held_at p s h ≡ true) × (h.fence ≡ f)
held-found P p s [] f e all = absurd (cc)
held-found P p s (x ∷ hs) f e all = held-by P p s (is_held_at p s x) x hs f refl e all.0 (λ k. held-found P p s hs f k all.1)

-- what is known of a fence that a desk holds for a segment
pub held-owned : (fence : ℕ) (processor_states : List ProcessorState) (actor : Name) (desk : Desk) (p : ℕ) (s : Segment) (f : ℕ) → IsDeskOf fence processor_states actor desk → held_fence p s desk.held ≡ Some f → (f ≤ fence) × OwnsAs actor processor_states p s f
held-owned fence processor_states actor desk p s f seat e =
    let found = held-found (λ h. (h.fence ≤ fence) × OwnsAs actor processor_states h.processor h.segment h.fence) p s desk.held f e seat.held in
    let b = both (found.0.processor == p) (same_segment found.0.segment s) found.2 in
    let is_p : found.0.processor ≡ p = grind (arith, nat_tests, b.0) in
    let is_s : found.0.segment ≡ s = same-segment found.0.segment s b.1 in
    let known : (found.0.fence ≤ fence) × OwnsAs actor processor_states found.0.processor found.0.segment found.0.fence = found.1 in
    subst (λ g. (g ≤ fence) × OwnsAs actor processor_states p s g) found.3
    (subst (λ t. (found.0.fence ≤ fence) × OwnsAs actor processor_states p t found.0.fence) is_s
    (subst (λ q. (found.0.fence ≤ fence) × OwnsAs actor processor_states q found.0.segment found.0.fence) is_p known))

-- an order on a held row keeps the state well formed, where it does for each row whose fence is held
module _ (m : State) (actor p : ℕ) (s : Segment) (next : TokenRow → Answer) (h : IsWellFormed m)
    (each : (r : TokenRow) → row_at s (processor_state_at m p).rows ≡ Some r → held_fence p s (desk_at m actor).held ≡ Some r.fence → IsWellFormed (next r).state) where
  kept-checked : (o : Option ℕ) → held_fence p s (desk_at m actor).held ≡ o → (x : Option TokenRow) → row_at s (processor_state_at m p).rows ≡ x → IsWellFormed (checked m (held_check o x) x next).state
  kept-checked None e None f = h
  kept-checked None e (Some r) f = h
  kept-checked (Some g) e None f = h
  kept-checked (Some g) e (Some r) f = by (r.fence == g) refl
    where
      by : (c : Bool) → (r.fence == g) ≡ c → IsWellFormed (checked m (if c then None else Some (Reply.Stale g (Some r.fence))) (Some r) next).state
      by false k = h
      by true k = let same : g ≡ r.fence = grind (arith, nat_tests, k) in each r f (e ∙ ap Some same)

  pub kept-on_held_row : IsWellFormed (on_held_row m actor p s next).state
  kept-on_held_row = kept-checked (held_fence p s (desk_at m actor).held) refl (row_at s (processor_state_at m p).rows) refl

-- the fence that is held on the desk that was read
pub held-desk : (w : WorldTables) (actor p : ℕ) (s : Segment) (old : DeskTables) (held : List Held) (o : Option ℕ) → slice_get w.desks actor ≡ Some (desk_of old) → held ≡ old.held → o ≡ held_fence p s held → o ≡ held_fence p s (desk_at (state_of w) actor).held
held-desk w actor p s old held o at is e = e ∙ ap (held_fence p s) (is ∙ sym (ap (λ x. (option_or empty_desk x).held) at))
