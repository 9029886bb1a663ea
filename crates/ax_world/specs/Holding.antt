-- The fences that a desk holds, and the check of orders on a held segment.
use Rattle.std.specs.Prelude.{ℕ, ◌==◌, Bool, ◌&&◌, List, find, Option, Some, None, option_map, if◌then◌else◌}
use Rattle.ax_segments.specs.Segments.{Segment, same_segment}
use Rattle.ax_claims.specs.Rows.{TokenRow, row_at}
use Rattle.ax_state.specs.State.{State, Held, desk_at, processor_state_at}
use Rattle.ax_state.specs.Answer.{Answer, answer}
use Rattle.ax_journal.specs.declared.reply.Reply.{Reply}

abbrev pub is_held_at : ℕ → Segment → Held → Bool
is_held_at p s h = (h.processor == p) && same_segment h.segment s

-- the fence that is held for a segment of a processor
abbrev pub held_fence : ℕ → Segment → List Held → Option ℕ
held_fence p s hs = option_map (λ h. h.fence) (find (is_held_at p s) hs)

-- why an order on a held segment is refused, where it is
abbrev pub held_check : Option ℕ → Option TokenRow → Option Reply
held_check None None = Some Reply.NoSegment
held_check None (Some r) = Some Reply.NotHeld
held_check (Some f) None = Some (Reply.Stale f None)
held_check (Some f) (Some r) = if r.fence == f then None else Some (Reply.Stale f (Some r.fence))

abbrev pub checked : State → Option Reply → Option TokenRow → (TokenRow → Answer) → Answer
checked m (Some refusal) row next = answer m refusal
checked m None None next = answer m Reply.NoSegment
checked m None (Some r) next = next r

-- a step on a row whose present fence the desk holds
abbrev pub on_held_row : State → ℕ → ℕ → Segment → (TokenRow → Answer) → Answer
on_held_row m actor p s next = checked m (held_check (held_fence p s (desk_at m actor).held) (row_at s (processor_state_at m p).rows)) (row_at s (processor_state_at m p).rows) next
