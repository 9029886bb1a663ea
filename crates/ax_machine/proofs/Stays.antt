-- What a step leaves of the setting and of the counter of fences, and that no step itself replies that the keeper failed.
use Rattle.std.proofs.Common.{◌≡◌, ℕ, suc, ◌+◌, ◌^◌, ◌<◌, Bool, true, false, [], Option, Some, None, IfSome, map, length, if◌then◌else◌, refl, arith}
use Rattle.std.specs.Prelude.{◌==◌, nat_lt, slice_get}
use Rattle.ax_values.specs.Grammar.{Name}
use Rattle.ax_log.specs.Log.{length_of, put_cells}
use Rattle.ax_log.specs.Order.{max_cells}
use Rattle.ax_log.specs.Answers.{aggregate_of, void_among, void_period}
use Rattle.ax_segments.specs.Segments.{Segment, max_mask, partner}
use Rattle.ax_claims.specs.Rows.{TokenRow, row_at}
use Rattle.ax_claims.specs.Changes.{is_claimed, partner_row}
use Rattle.ax_sheet.specs.Decision.{decision}
use Rattle.ax_state.specs.Setting.{processor_number, projection_at}
use Rattle.ax_state.specs.State.{State, Reservation, Batch, desk_at, processor_state_at, actor_name, with_cells}
use Rattle.ax_state.specs.Positions.{aggregate_state}
use Rattle.ax_world.specs.Holding.{checked, held_check, held_fence, on_held_row}
use Rattle.ax_state.specs.Answer.{Answer, answer}
use Rattle.ax_step_log.specs.Logging.{command_at, sent_decided, appended, appended_unless, with_reservation, reservation_of, reserved_cells, released as unreserved, void_from, voided_cell}
use Rattle.ax_step_claims.specs.Claiming.{claimed, claimed_reply, granted, extended, released, halved, split_row, joined, merged_with}
use Rattle.ax_step_work.specs.Working.{ItemOutcome, commit_batch, commit_over, committed, fetched, fetched_batch, first_unapplied, shares_in, with_batch}
use Rattle.ax_values.specs.declared.cell.Cell.{Cell}
use Rattle.ax_sheet.specs.declared.decision.Decided.{Decided}
use Rattle.ax_journal.specs.declared.order.Order.{Order}
use Rattle.ax_journal.specs.declared.reply.Reply.{Reply}
use Rattle.ax_machine.specs.Run.{step, IsPerformed, is_fault}

-- the setting stays, the counter rises by less than 2 ^ 32, and the reply is not that the keeper failed
pub record Stays (m : State) (done : Answer) : Type 0 where
  pub setting : done.state.setting ≡ m.setting
  pub fence : done.state.fence < m.fence + 2 ^ 32
  pub unfailing : is_fault done.reply ≡ false

same : (n : ℕ) → n < n + 2 ^ 32
same n = omega arith

next : (n : ℕ) → suc n < n + 2 ^ 32
next n = omega arith

second : (n : ℕ) → suc (suc n) < n + 2 ^ 32
second n = omega arith

pick : (m : State) (b : Bool) (x y : Answer) → Stays m x → Stays m y → Stays m (if b then x else y)
pick m true x y h k = h
pick m false x y h k = k

-- ---- send and append

stays-decided : (m : State) (k : ℕ) (a : Name) (d : Decided) → Stays m (sent_decided m k a d)
stays-decided m k a (Decided.Guard g) = record { setting = refl; fence = same m.fence; unfailing = refl }
stays-decided m k a (Decided.Events es) =
    pick m (nat_lt max_cells (length m.cells + length es)) (answer m Reply.LogFull)
    (answer (with_reservation k (Some (reservation_of m a es)) (with_cells (reserved_cells m k a (length es)) m)) (Reply.Reserved (length m.cells) (length es) (length_of a m.cells)))
    (record { setting = refl; fence = same m.fence; unfailing = refl }) (record { setting = refl; fence = same m.fence; unfailing = refl })

stays-unless : (m : State) (k : ℕ) (r : Reservation) (o : Option ℕ) → Stays m (appended_unless m k r o)
stays-unless m k r (Some i) = record { setting = refl; fence = same m.fence; unfailing = refl }
stays-unless m k r None =
    pick m (length_of (aggregate_of r.records) m.cells == r.first_seq)
    (answer (with_reservation k None (with_cells (put_cells r.first (map Cell.Event r.records) m.cells) m)) (Reply.Appended r.first_seq (length r.records)))
    (answer (with_reservation k None (with_cells (unreserved (Some r) m.cells) m)) (Reply.Conflict r.first_seq (length_of (aggregate_of r.records) m.cells)))
    (record { setting = refl; fence = same m.fence; unfailing = refl }) (record { setting = refl; fence = same m.fence; unfailing = refl })

stays-appended : (m : State) (k : ℕ) (o : Option Reservation) → Stays m (appended m k o)
stays-appended m k None = record { setting = refl; fence = same m.fence; unfailing = refl }
stays-appended m k (Some r) = stays-unless m k r (void_among m.cells r.first r.records)

-- ---- void

stays-voided : (m : State) (i : ℕ) (o : Option Cell) → Stays m (voided_cell m i o)
stays-voided m i None = record { setting = refl; fence = same m.fence; unfailing = refl }
stays-voided m i (Some Cell.Void) = record { setting = refl; fence = same m.fence; unfailing = refl }
stays-voided m i (Some (Cell.Event r)) = record { setting = refl; fence = same m.fence; unfailing = refl }
stays-voided m i (Some (Cell.Reserved a s w t)) =
    pick m (nat_lt (t + void_period) m.clock) (answer (with_cells (void_from i 1 m.cells) m) (Reply.Voided i)) (answer m (Reply.Young t))
    (record { setting = refl; fence = same m.fence; unfailing = refl }) (record { setting = refl; fence = same m.fence; unfailing = refl })

-- ---- claim

claimed-unfailing : (r : TokenRow) (owner : Option Name) → is_fault (claimed_reply r owner) ≡ false
claimed-unfailing r None = refl
claimed-unfailing r (Some owner) = refl

stays-claimed : (m : State) (k p : ℕ) (s : Segment) (o : Option TokenRow) → Stays m (claimed m k p s o)
stays-claimed m k p s None = record { setting = refl; fence = same m.fence; unfailing = refl }
stays-claimed m k p s (Some r) =
    pick m (is_claimed (actor_name m k) m.clock r) (answer m (claimed_reply r r.owner)) (granted m k p s r)
    (record { setting = refl; fence = same m.fence; unfailing = claimed-unfailing r r.owner }) (record { setting = refl; fence = next m.fence; unfailing = refl })

-- ---- on a held row

check-unfailing : (o : Option ℕ) (row : Option TokenRow) → IfSome (held_check o row) (λ r. is_fault r ≡ false)
check-unfailing None None = refl
check-unfailing None (Some r) = refl
check-unfailing (Some f) None = refl
check-unfailing (Some f) (Some r) = at (r.fence == f)
  where
    at : (b : Bool) → IfSome (if b then None else Some (Reply.Stale f (Some r.fence))) (λ r. is_fault r ≡ false)
    at true = tt
    at false = refl

stays-checked : (m : State) (o : Option Reply) (row : Option TokenRow) (later : TokenRow → Answer) → IfSome o (λ r. is_fault r ≡ false) → ((r : TokenRow) → Stays m (later r)) → Stays m (checked m o row later)
stays-checked m (Some refusal) row later u h = record { setting = refl; fence = same m.fence; unfailing = u }
stays-checked m None None later u h = record { setting = refl; fence = same m.fence; unfailing = refl }
stays-checked m None (Some r) later u h = h r

stays-held : (m : State) (k p : ℕ) (s : Segment) (later : TokenRow → Answer) → ((r : TokenRow) → Stays m (later r)) → Stays m (on_held_row m k p s later)
stays-held m k p s later h =
    stays-checked m (held_check (held_fence p s (desk_at m k).held) (row_at s (processor_state_at m p).rows)) (row_at s (processor_state_at m p).rows) later
    (check-unfailing (held_fence p s (desk_at m k).held) (row_at s (processor_state_at m p).rows)) h

stays-split : (m : State) (p : ℕ) (s : Segment) (r : TokenRow) → Stays m (split_row m p s r)
stays-split m p s r =
    pick m (s.mask == max_mask) (answer m Reply.MaskFull) (halved m p s r)
    (record { setting = refl; fence = same m.fence; unfailing = refl }) (record { setting = refl; fence = second m.fence; unfailing = refl })

stays-merged : (m : State) (k p : ℕ) (r : TokenRow) (o : Option TokenRow) → Stays m (merged_with m k p r o)
stays-merged m k p r None = record { setting = refl; fence = same m.fence; unfailing = refl }
stays-merged m k p r (Some q) =
    pick m (is_claimed (actor_name m k) m.clock q) (answer m (claimed_reply q q.owner)) (joined m p r q)
    (record { setting = refl; fence = same m.fence; unfailing = claimed-unfailing q q.owner }) (record { setting = refl; fence = next m.fence; unfailing = refl })

-- ---- fetch and commit

stays-committed : (m : State) (k : ℕ) (b : Batch) (r : TokenRow) (o : Option ItemOutcome) → Stays m (committed m k b r o)
stays-committed m k b r (Some f) = record { setting = refl; fence = same m.fence; unfailing = refl }
stays-committed m k b r None = record { setting = refl; fence = same m.fence; unfailing = refl }

stays-over : (m : State) (k : ℕ) (b : Batch) (o : Option TokenRow) → Stays m (commit_over m k b o)
stays-over m k b None = record { setting = refl; fence = same m.fence; unfailing = refl }
stays-over m k b (Some r) =
    let left = first_unapplied (projection_at m.setting b.processor) true (shares_in m b) in
    pick m (r.fence == b.fence) (committed m k b r left) (answer (with_batch k None m) (Reply.Stale b.fence (Some r.fence)))
    (stays-committed m k b r left) (record { setting = refl; fence = same m.fence; unfailing = refl })

stays-batch : (m : State) (k : ℕ) (o : Option Batch) → Stays m (commit_batch m k o)
stays-batch m k None = record { setting = refl; fence = same m.fence; unfailing = refl }
stays-batch m k (Some b) = stays-over m k b (row_at b.segment (processor_state_at m b.processor).rows)

-- ---- all

pub stays : (m : State) (k : ℕ) (o : Order) → IsPerformed o → Stays m (step m k o)
stays m k (Order.Send a c args) h = stays-decided m k a (decision (command_at m.setting.sheet c) args (aggregate_state m a))
stays m k Order.Append h = stays-appended m k (desk_at m k).reservation
stays m k (Order.Claim p s) h = stays-claimed m k (processor_number m.setting.processors p) s (row_at s (processor_state_at m (processor_number m.setting.processors p)).rows)
stays m k (Order.Extend p s) h = stays-held m k (processor_number m.setting.processors p) s (extended m (processor_number m.setting.processors p)) (λ r. record { setting = refl; fence = same m.fence; unfailing = refl })
stays m k (Order.Release p s) h = stays-held m k (processor_number m.setting.processors p) s (released m k (processor_number m.setting.processors p) s) (λ r. record { setting = refl; fence = next m.fence; unfailing = refl })
stays m k (Order.Split p s) h = stays-held m k (processor_number m.setting.processors p) s (split_row m (processor_number m.setting.processors p) s) (stays-split m (processor_number m.setting.processors p) s)
stays m k (Order.Merge p s) h =
    stays-held m k (processor_number m.setting.processors p) s _ (λ r. stays-merged m k (processor_number m.setting.processors p) r (partner_row (partner s) (processor_state_at m (processor_number m.setting.processors p)).rows))
stays m k (Order.Fetch p s most) h =
    stays-held m k (processor_number m.setting.processors p) s (λ r. fetched m k (fetched_batch m (processor_number m.setting.processors p) s most r)) (λ r. record { setting = refl; fence = same m.fence; unfailing = refl })
stays m k Order.Commit h = stays-batch m k (desk_at m k).batch
stays m k (Order.ShowRows p) h = record { setting = refl; fence = same m.fence; unfailing = refl }
stays m k (Order.Tick ms) h = record { setting = refl; fence = same m.fence; unfailing = refl }
stays m k (Order.Void cell) h = stays-voided m cell (slice_get m.cells cell)
stays m k Order.Stop h = record { setting = refl; fence = same m.fence; unfailing = refl }
stays m k (Order.ShowTokens p) h = record { setting = refl; fence = same m.fence; unfailing = refl }
stays m k Order.ShowLog h = record { setting = refl; fence = same m.fence; unfailing = refl }
stays m k order h = absurd (cc)
