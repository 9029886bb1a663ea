-- Steps on token rows: claim, extend, release, split and merge.
use Rattle.std.specs.Prelude.{ℕ, suc, ◌/◌, ◌<◌, ◌==◌, not, List, [], ◌∷◌, ◌++◌, length, filter, Option, Some, None, IsTrue, is_some, min, slice_get, if◌then◌else◌}
use Rattle.ax_values.specs.Grammar.{Name}
use Rattle.ax_segments.specs.Segments.{Segment, lower_half, upper_half, max_mask, partner}
use Rattle.ax_claims.specs.Rows.{TokenRow, row_at, put_row}
use Rattle.ax_claims.specs.Changes.{is_claimed, owned, split_rows, merge_rows, whole_row, partner_row}
use Rattle.ax_state.specs.Setting.{processor_number}
use Rattle.ax_state.specs.State.{State, Held, desk_at, processor_state_at, with_desk, with_rows, with_fence, actor_name}
use Rattle.ax_state.specs.Answer.{Answer, answer}
use Rattle.ax_world.specs.Holding.{is_held_at, on_held_row}
use Rattle.ax_claims.specs.declared.refused.Refused.{Refused}
use Rattle.ax_journal.specs.declared.order.Order.{Order}
use Rattle.ax_journal.specs.declared.reply.Reply.{Reply}
use Rattle.ax_sheet.specs.Declarations.{Processor}
use Rattle.ax_world.specs.declared.edit.Edit.{Edit}
use Rattle.ax_world.specs.declared.edit.Move.{Move}

abbrev pub claimed_reply : TokenRow → Option Name → Reply
claimed_reply r None = Reply.Claimed [] r.since
claimed_reply r (Some owner) = Reply.Claimed owner r.since

-- ---- fences on a desk

abbrev pub let_go : ℕ → Segment → List Held → List Held
let_go p s hs = filter (λ h. not (is_held_at p s h)) hs

abbrev pub hold_fence : ℕ → Segment → ℕ → List Held → List Held
hold_fence p s fence hs = let_go p s hs ++ record { processor = p; segment = s; fence = fence } ∷ []

abbrev pub with_held : ℕ → List Held → State → State
with_held actor hs m = with_desk actor (record (desk_at m actor) { held = hs }) m

-- ---- claim

-- the row with a fresh fence and the actor as its owner, and the fence on the actor's desk
abbrev pub granted : State → ℕ → ℕ → Segment → TokenRow → Answer
granted m actor p s r =
    answer (with_fence (suc m.fence) (with_held actor (hold_fence p s (suc m.fence) (desk_at m actor).held) (with_rows p (put_row (owned r (Some (actor_name m actor)) m.clock (suc m.fence)) (processor_state_at m p).rows) m))) (Reply.Fenced (suc m.fence))

abbrev pub claimed : State → ℕ → ℕ → Segment → Option TokenRow → Answer
claimed m actor p s None = answer m Reply.NoSegment
claimed m actor p s (Some r) = if is_claimed (actor_name m actor) m.clock r then answer m (claimed_reply r r.owner) else granted m actor p s r

abbrev pub claim : State → ℕ → Name → Segment → Answer
claim m actor name s = claimed m actor (processor_number m.setting.processors name) s (row_at s (processor_state_at m (processor_number m.setting.processors name)).rows)

-- ---- extend and release

-- the row with the clock's time: owner and fence stay
abbrev pub extended : State → ℕ → TokenRow → Answer
extended m p r = answer (with_rows p (put_row (owned r r.owner m.clock r.fence) (processor_state_at m p).rows) m) (Reply.Now m.clock)

abbrev pub extend_at : State → ℕ → ℕ → Segment → Answer
extend_at m actor p s = on_held_row m actor p s (extended m p)

abbrev pub extend : State → ℕ → Name → Segment → Answer
extend m actor name s = extend_at m actor (processor_number m.setting.processors name) s

-- the row without owner under a fresh fence, and the desk lets go of the segment
abbrev pub released : State → ℕ → ℕ → Segment → TokenRow → Answer
released m actor p s r =
    answer (with_fence (suc m.fence) (with_held actor (let_go p s (desk_at m actor).held) (with_rows p (put_row (owned r None 0 (suc m.fence)) (processor_state_at m p).rows) m))) Reply.Done

abbrev pub release_at : State → ℕ → ℕ → Segment → Answer
release_at m actor p s = on_held_row m actor p s (released m actor p s)

abbrev pub release : State → ℕ → Name → Segment → Answer
release m actor name s = release_at m actor (processor_number m.setting.processors name) s

-- ---- split and merge

-- What desks hold of the rows that go, they go on holding: it is stale.

-- the rows of the two halves in the place of the row, without owner, under the next two fences, the lower one's first
abbrev pub halved : State → ℕ → Segment → TokenRow → Answer
halved m p s r = answer (with_fence (suc (suc m.fence)) (with_rows p (split_rows r (suc m.fence) (processor_state_at m p).rows) m)) (Reply.Halves (lower_half s) (upper_half s))

abbrev pub split_row : State → ℕ → Segment → TokenRow → Answer
split_row m p s r = if s.mask == max_mask then answer m Reply.MaskFull else halved m p s r

abbrev pub split_at : State → ℕ → ℕ → Segment → Answer
split_at m actor p s = on_held_row m actor p s (split_row m p s)

abbrev pub split : State → ℕ → Name → Segment → Answer
split m actor name s = split_at m actor (processor_number m.setting.processors name) s

-- one row in the place of the two, without owner, under a fresh fence, with both tokens
abbrev pub joined : State → ℕ → TokenRow → TokenRow → Answer
joined m p r q = answer (with_fence (suc m.fence) (with_rows p (merge_rows r q (suc m.fence) (processor_state_at m p).rows) m)) (Reply.Merged (whole_row r q (suc m.fence)).segment)

-- the row with that of its partner, where there is one
abbrev pub merged_with : State → ℕ → ℕ → TokenRow → Option TokenRow → Answer
merged_with m actor p r None = answer m Reply.Alone
merged_with m actor p r (Some q) = if is_claimed (actor_name m actor) m.clock q then answer m (claimed_reply q q.owner) else joined m p r q

abbrev pub merge_at : State → ℕ → ℕ → Segment → Answer
merge_at m actor p s = on_held_row m actor p s (λ r. merged_with m actor p r (partner_row (partner s) (processor_state_at m p).rows))

abbrev pub merge : State → ℕ → Name → Segment → Answer
merge m actor name s = merge_at m actor (processor_number m.setting.processors name) s

-- the rows and the fence are put, and the reply names the segment that is cut into both
abbrev pub merged_move : ℕ → List TokenRow → ℕ → Segment → Segment → Move
merged_move p rows fence s other = record { edits = Edit.SetRows p rows ∷ Edit.Fence fence ∷ []; reply = Reply.Merged (record { id = min s.id other.id; mask = s.mask / 2 }); report = [] }

-- ---- refusals

abbrev pub found_reply : Option TokenRow → Reply
found_reply None = Reply.NoSegment
found_reply (Some r) = claimed_reply r r.owner

-- the reply to a refusal, which names one of the rows by its place
abbrev pub refused_reply : List TokenRow → Refused → Reply
refused_reply rows Refused.NoSegment = Reply.NoSegment
refused_reply rows (Refused.Claimed place) = found_reply (slice_get rows place)
refused_reply rows (Refused.Stale held found) = Reply.Stale held found
refused_reply rows Refused.NotHeld = Reply.NotHeld
refused_reply rows Refused.MaskFull = Reply.MaskFull
refused_reply rows Refused.Alone = Reply.Alone

abbrev pub HasOwner : Option TokenRow → Type 0
HasOwner None = ⊥
HasOwner (Some r) = IsTrue (is_some r.owner)

-- a row that is named has an owner
abbrev pub NamesOwned : List TokenRow → Refused → Type 0
NamesOwned rows Refused.NoSegment = Unit {0}
NamesOwned rows (Refused.Claimed place) = HasOwner (slice_get rows place)
NamesOwned rows (Refused.Stale held found) = Unit {0}
NamesOwned rows Refused.NotHeld = Unit {0}
NamesOwned rows Refused.MaskFull = Unit {0}
NamesOwned rows Refused.Alone = Unit {0}

-- ---- steps

-- the orders of this crate
abbrev pub IsClaiming : Order → Type 0
IsClaiming (Order.Claim processor segment) = Unit {0}
IsClaiming (Order.Extend processor segment) = Unit {0}
IsClaiming (Order.Release processor segment) = Unit {0}
IsClaiming (Order.Split processor segment) = Unit {0}
IsClaiming (Order.Merge processor segment) = Unit {0}
IsClaiming order = ⊥

-- the processor that the order names is declared
abbrev pub IsDeclared : List Processor → Order → Type 0
IsDeclared processors (Order.Claim processor segment) = processor_number processors processor < length processors
IsDeclared processors (Order.Extend processor segment) = processor_number processors processor < length processors
IsDeclared processors (Order.Release processor segment) = processor_number processors processor < length processors
IsDeclared processors (Order.Split processor segment) = processor_number processors processor < length processors
IsDeclared processors (Order.Merge processor segment) = processor_number processors processor < length processors
IsDeclared processors order = Unit {0}

-- of an order of this crate
abbrev pub step : State → ℕ → (order : Order) → IsClaiming order → Answer
step m actor (Order.Claim processor segment) kind = claim m actor processor segment
step m actor (Order.Extend processor segment) kind = extend m actor processor segment
step m actor (Order.Release processor segment) kind = release m actor processor segment
step m actor (Order.Split processor segment) kind = split m actor processor segment
step m actor (Order.Merge processor segment) kind = merge m actor processor segment
step m actor order kind = absurd kind
