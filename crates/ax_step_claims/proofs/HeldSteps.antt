-- A change of the row of a segment that is held, against the step on it: why it is refused, or which row it changes.
use Rattle.std.proofs.Common.{◌≡◌, ℕ, ◌==◌, Bool, true, false, List, Option, Some, None, Result, Ok, Err, if◌then◌else◌, refl, sym, ap, ◌∙◌, subst, arith}
use Rattle.std.proofs.lemmas.Bool.Decides.{nat_tests}
use Rattle.ax_segments.specs.Segments.{Segment}
use Rattle.ax_claims.specs.Rows.{TokenRow, row_at}
use Rattle.ax_claims.specs.Changes.{held_check as held_rows, checked as checked_rows, if_held, IsChanged, IsChangedUnlessMemory}
use Rattle.ax_claims.specs.declared.refused.Refused.{Refused}
use Rattle.ax_claims.specs.declared.refused.ClaimFault.{ClaimFault}
use Rattle.ax_state.specs.State.{State, desk_at, processor_state_at}
use Rattle.ax_state.specs.Answer.{Answer, answer}
use Rattle.ax_world.specs.Holding.{held_fence, held_check, checked, on_held_row}
use Rattle.ax_step_claims.specs.Claiming.{refused_reply, NamesOwned}
use Rattle.ax_journal.specs.declared.reply.Reply.{Reply}

-- ---- what a change answers

pub refused-of : (x : Result (List TokenRow) Refused) (old new : List TokenRow) (e : Refused) → IsChanged x old new (Err e) → (x ≡ Err e) × (new ≡ old)
refused-of (Ok rows) old new e h = absurd h
refused-of (Err refused) old new e h = (ap Err (sym h.0), h.1)

pub made-of : (x : Result (List TokenRow) Refused) (old new : List TokenRow) (u : Unit {0}) → IsChanged x old new (Ok u) → x ≡ Ok new
made-of (Ok rows) old new u h = ap Ok (sym h)
made-of (Err refused) old new u h = absurd h

pub fault-of : (x : Result (List TokenRow) Refused) (old new : List TokenRow) (e : Refused) → IsChangedUnlessMemory x old new (Err (ClaimFault.Refused e)) → (x ≡ Err e) × (new ≡ old)
fault-of (Ok rows) old new e h = absurd h
fault-of (Err refused) old new e h = (ap Err (sym h.0), h.1)

pub done-of : (x : Result (List TokenRow) Refused) (old new : List TokenRow) (u : Unit {0}) → IsChangedUnlessMemory x old new (Ok u) → x ≡ Ok new
done-of (Ok rows) old new u h = ap Ok (sym h)
done-of (Err refused) old new u h = absurd h

-- ---- the step

-- the answer is the refusal, and a row that it names has an owner
pub record IsNoStep (m : State) (rows : List TokenRow) (refused : Refused) (a : Answer) : Type 0 where
  pub named : NamesOwned rows refused
  pub is : a ≡ answer m (refused_reply rows refused)

-- the answer is that of the segment's row, whose fence is held, and the change of this row gives `later`
pub record IsRowStep (s : Segment) (held : Option ℕ) (rows later : List TokenRow) (change : TokenRow → Result (List TokenRow) Refused) (next : TokenRow → Answer) (a : Answer) : Type 0 where
  pub row : TokenRow
  pub found : row_at s rows ≡ Some row
  pub fence : held ≡ Some row.fence
  pub changed : change row ≡ Ok later
  pub is : a ≡ next row

module _ (m : State) (actor p : ℕ) (s : Segment) (change : TokenRow → Result (List TokenRow) Refused) (next : TokenRow → Answer) where
  abbrev rows : List TokenRow
  rows = (processor_state_at m p).rows

  abbrev held : Option ℕ
  held = held_fence p s (desk_at m actor).held

  no-step : (refusal refused : Refused) (x : Result (List TokenRow) Refused) → x ≡ Err refusal → x ≡ Err refused → NamesOwned rows refusal → IsNoStep m rows refused (answer m (refused_reply rows refusal))
  no-step refusal refused x e f named =
      let is : refusal ≡ refused = cc in
      record { named = subst (NamesOwned rows) is named; is = ap (λ z. answer m (refused_reply rows z)) is }

  pub refused-step : (refused : Refused) → ((r : TokenRow) → row_at s rows ≡ Some r → change r ≡ Err refused → IsNoStep m rows refused (next r)) → if_held s held rows change ≡ Err refused → IsNoStep m rows refused (on_held_row m actor p s next)
  refused-step refused each e = at held (row_at s rows) refl e
    where
      at : (o : Option ℕ) (x : Option TokenRow) → row_at s rows ≡ x → checked_rows (held_rows o x) x change ≡ Err refused → IsNoStep m rows refused (checked m (held_check o x) x next)
      at None None f e = no-step Refused.NoSegment refused (Err Refused.NoSegment) refl e tt
      at None (Some r) f e = no-step Refused.NotHeld refused (Err Refused.NotHeld) refl e tt
      at (Some g) None f e = no-step (Refused.Stale g None) refused (Err (Refused.Stale g None)) refl e tt
      at (Some g) (Some r) f e = by (r.fence == g) e
        where
          by : (b : Bool) → checked_rows (if b then None else Some (Refused.Stale g (Some r.fence))) (Some r) change ≡ Err refused
              → IsNoStep m rows refused (checked m (if b then None else Some (Reply.Stale g (Some r.fence))) (Some r) next)
          by true e = each r f e
          by false e = no-step (Refused.Stale g (Some r.fence)) refused (Err (Refused.Stale g (Some r.fence))) refl e tt

  pub row-step : (later : List TokenRow) → if_held s held rows change ≡ Ok later → IsRowStep s held rows later change next (on_held_row m actor p s next)
  row-step later e = at held (row_at s rows) refl refl e
    where
      at : (o : Option ℕ) (x : Option TokenRow) → held ≡ o → row_at s rows ≡ x → checked_rows (held_rows o x) x change ≡ Ok later → IsRowStep s held rows later change next (checked m (held_check o x) x next)
      at None None g f e = absurd (cc)
      at None (Some r) g f e = absurd (cc)
      at (Some n) None g f e = absurd (cc)
      at (Some n) (Some r) g f e = by (r.fence == n) refl e
        where
          by : (b : Bool) → (r.fence == n) ≡ b → checked_rows (if b then None else Some (Refused.Stale n (Some r.fence))) (Some r) change ≡ Ok later
              → IsRowStep s held rows later change next (checked m (if b then None else Some (Reply.Stale n (Some r.fence))) (Some r) next)
          by true k e = let same : n ≡ r.fence = grind (arith, nat_tests, k) in record { row = r; found = f; fence = g ∙ ap Some same; changed = e; is = refl }
          by false k e = absurd (cc)
