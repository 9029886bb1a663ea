-- Steps on batches: fetch and commit.
use Rattle.std.specs.Prelude.{ℕ, zero, suc, ◌==◌, Bool, true, false, not, ◌&&◌, List, [], ◌∷◌, length, filter, flat_map, find, Option, Some, None, nat_lt, nat_le, IsTrue, if◌then◌else◌}
use Rattle.ax_values.specs.Grammar.{Name, Line}
use Rattle.ax_log.specs.Log.{Stored, events, first_reserved}
use Rattle.ax_rules.specs.Rules.{Rules}
use Rattle.ax_rules.specs.Why.{why_text}
use Rattle.ax_segments.specs.Segments.{Segment, matches}
use Rattle.ax_segments.specs.Sequences.{hash_in}
use Rattle.ax_tokens.specs.Tokens.{Token, covers, advanced, collapsed, gaps_fit}
use Rattle.ax_projections.specs.Items.{Placed}
use Rattle.ax_claims.specs.Rows.{TokenRow, row_at, put_row}
use Rattle.ax_basis.specs.Basis.{Share}
use Rattle.ax_basis.specs.Outcomes.{outcomes}
use Rattle.ax_state.specs.Setting.{Setting, processor_number, projection_at, is_projection, whole_at}
use Rattle.ax_state.specs.State.{State, Batch, desk_at, processor_state_at, with_desk, with_rows}
use Rattle.ax_state.specs.Batches.{fetched_events, batch_items, shares_of}
use Rattle.ax_state.specs.Answer.{Answer, answer}
use Rattle.ax_world.specs.Holding.{on_held_row}
use Rattle.ax_values.specs.declared.cell.Cell.{Cell}
use Rattle.ax_basis.specs.declared.item.BasisItem.{BasisItem}
use Rattle.ax_basis.specs.declared.outcome.Outcome.{Outcome}
use Rattle.ax_journal.specs.declared.order.Order.{Order}
use Rattle.ax_journal.specs.declared.reply.Reply.{Reply}

abbrev pub with_batch : ℕ → Option Batch → State → State
with_batch actor b m = with_desk actor (record (desk_at m actor) { batch = b }) m

-- ---- the fetch bound

-- Where a processor is whole, `whole` is its name.

-- whether the event is of the segment and not covered for its hash
abbrev pub is_new : Option Name → Segment → Token → Stored → Bool
is_new whole s t e = matches s (hash_in whole e.record_of.aggregate) && not (covers t s.mask (hash_in whole e.record_of.aggregate) e.index)

-- those of the events below b
abbrev pub new_below : Option Name → Segment → Token → List Stored → ℕ → List Stored
new_below whole s t es b = filter (λ e. is_new whole s t e && nat_lt e.index b) es

-- at most so many of them, and few gaps afterwards
abbrev pub is_fetchable : Option Name → Segment → Token → List Cell → ℕ → ℕ → Bool
is_fetchable whole s t cells most b = nat_le (length (new_below whole s t (events cells) b)) most && gaps_fit (advanced cells b t)

-- no fetch goes further: all events of a whole processor are taken in the order of the log
abbrev pub fetch_limit : Option Name → List Cell → ℕ
fetch_limit None cells = length cells
fetch_limit (Some name) cells = first_reserved cells

-- the largest number at most n that passes the test, or 0
abbrev pub largest : (ℕ → Bool) → ℕ → ℕ
largest test zero = 0
largest test (suc n) = if test (suc n) then suc n else largest test n

abbrev pub fetch_bound : Option Name → Segment → Token → List Cell → ℕ → ℕ
fetch_bound whole s t cells most = largest (is_fetchable whole s t cells most) (fetch_limit whole cells)

abbrev pub fetched_token : Option Name → Segment → Token → List Cell → ℕ → Token
fetched_token whole s t cells most = collapsed (advanced cells (fetch_bound whole s t cells most) t)

-- ---- fetch

abbrev pub fetched_batch : State → ℕ → Segment → ℕ → TokenRow → Batch
fetched_batch m p s most r = record { processor = p; segment = s; fence = r.fence; old = r.token; new = fetched_token (whole_at m.setting p) s r.token m.cells most }

abbrev pub fetched : State → ℕ → Batch → Answer
fetched m actor b = answer (with_batch actor (Some b) m) (Reply.Fetched (length (fetched_events (whole_at m.setting b.processor) b (events m.cells))))

abbrev pub fetch_at : State → ℕ → ℕ → Segment → ℕ → Answer
fetch_at m actor p s most = on_held_row m actor p s (λ r. fetched m actor (fetched_batch m p s most r))

abbrev pub fetch : State → ℕ → Name → Segment → ℕ → Answer
fetch m actor name s most = fetch_at m actor (processor_number m.setting.processors name) s most

-- ---- what becomes of the items of a batch

-- an item with its outcome
pub record ItemOutcome : Type 0 where
  pub item : BasisItem
  pub outcome : Outcome

abbrev pub item_outcomes : List BasisItem → List Outcome → List ItemOutcome
item_outcomes [] os = []
item_outcomes (x ∷ xs) [] = []
item_outcomes (x ∷ xs) (o ∷ os) = record { item = x; outcome = o } ∷ item_outcomes xs os

-- the items of a share with their outcomes
abbrev pub share_outcomes : Rules → Bool → Share → List ItemOutcome
share_outcomes rules keep s = item_outcomes s.items (outcomes rules keep s)

abbrev pub is_unapplied : Outcome → Bool
is_unapplied Outcome.Applied = false
is_unapplied (Outcome.Parked why) = true
is_unapplied (Outcome.Dropped why) = true

-- why an item is not applied
abbrev pub unapplied_text : Outcome → Line
unapplied_text Outcome.Applied = []
unapplied_text (Outcome.Parked why) = why_text why
unapplied_text (Outcome.Dropped why) = why_text why

-- the first item that is not applied, by sequence, then in the order of the sequence's items
abbrev pub first_unapplied : Rules → Bool → List Share → Option ItemOutcome
first_unapplied rules keep shares = find (λ t. is_unapplied t.outcome) (flat_map (share_outcomes rules keep) shares)

-- ---- commit

-- the row gets the batch's new token, and the batch is done
abbrev pub installed : State → ℕ → Batch → TokenRow → State
installed m actor b r = with_batch actor None (with_rows b.processor (put_row (record r { token = b.new; since = m.clock }) (processor_state_at m b.processor).rows) m)

-- the items of a batch of the state
abbrev pub items_of_batch : State → Batch → List Placed
items_of_batch m b = batch_items (whole_at m.setting b.processor) m.setting.sheet.chain b (events m.cells)

-- its shares; while nothing is dropped, a failed item is to be parked
abbrev pub shares_in : State → Batch → List Share
shares_in m b = shares_of (whole_at m.setting b.processor) (projection_at m.setting b.processor) m.setting.sheet.chain b (events m.cells)

abbrev pub committed : State → ℕ → Batch → TokenRow → Option ItemOutcome → Answer
committed m actor b r (Some t) = answer m (Reply.NotApplied t.item.item.name (unapplied_text t.outcome))
committed m actor b r None = answer (installed m actor b r) (Reply.Committed (length (items_of_batch m b)) 0 0)

abbrev pub commit_over : State → ℕ → Batch → Option TokenRow → Answer
commit_over m actor b None = answer (with_batch actor None m) (Reply.Stale b.fence None)
commit_over m actor b (Some r) =
    if r.fence == b.fence then committed m actor b r (first_unapplied (projection_at m.setting b.processor) true (shares_in m b))
    else answer (with_batch actor None m) (Reply.Stale b.fence (Some r.fence))

abbrev pub commit_batch : State → ℕ → Option Batch → Answer
commit_batch m actor None = answer m Reply.NoBatch
commit_batch m actor (Some b) = commit_over m actor b (row_at b.segment (processor_state_at m b.processor).rows)

abbrev pub commit : State → ℕ → Answer
commit m actor = commit_batch m actor (desk_at m actor).batch

-- ---- both

-- the orders of this crate
abbrev pub IsWork : Order → Type 0
IsWork (Order.Fetch name s most) = Unit {0}
IsWork Order.Commit = Unit {0}
IsWork order = ⊥

-- the processor that a fetch names is one of a projection
abbrev pub IsDeclared : Setting → Order → Type 0
IsDeclared setting (Order.Fetch name s most) = IsTrue (is_projection setting (processor_number setting.processors name))
IsDeclared setting order = Unit {0}

-- of an order of this crate
abbrev pub step : State → ℕ → (order : Order) → IsWork order → Answer
step m actor (Order.Fetch name s most) kind = fetch m actor name s most
step m actor Order.Commit kind = commit m actor
step m actor order kind = absurd kind
