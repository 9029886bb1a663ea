-- What a commit puts: the rows after a batch, its token, and a desk without it.
use Rattle.std.specs.Prelude.{◌≡◌, ℕ, ◌+◌, ◌≤◌, ◌==◌, Bool, List, [], ◌∷◌, ◌++◌, map, flat_map, length, Option, Some, None, Result, Ok, Err, if◌then◌else◌}
use Rattle.ax_rules.specs.Expr.{Row}
use Rattle.ax_rules.specs.Rules.{Rules}
use Rattle.ax_projections.specs.Table.{Entry}
use Rattle.ax_claims.specs.Rows.{TokenRow, row_at, put_row}
use Rattle.ax_claims.specs.declared.refused.Refused.{Refused}
use Rattle.ax_basis.specs.Basis.{Share, Basis}
use Rattle.ax_basis.specs.Outcomes.{share_result}
use Rattle.ax_state.specs.State.{Batch, desk_at}
use Rattle.ax_world.specs.WorldTables.{WorldTables, DeskTables, desk_of, state_of}
use Rattle.ax_world.specs.declared.edit.Edit.{Edit}
use Rattle.ax_world.specs.declared.edit.Move.{Move}
use Rattle.ax_journal.specs.declared.reply.Reply.{Reply}
use Rattle.ax_basis.specs.declared.item.BasisItem.{BasisItem}
use Rattle.ax_basis.specs.declared.item.Member.{Member}
use Rattle.ax_basis.specs.declared.outcome.Outcome.{Outcome}
use Rattle.ax_basis.specs.declared.outcome.ShareResult.{ShareResult}
use Rattle.ax_step_work.specs.Working.{ItemOutcome, item_outcomes}

abbrev pub tell : BasisItem → Outcome → ItemOutcome
tell x o = record { item = x; outcome = o }

-- the items of all shares
abbrev pub share_items : List Share → List BasisItem
share_items shares = flat_map (λ s. s.items) shares

-- the items of the shares with the outcomes that results have
abbrev pub outcomes_in : List Share → List ShareResult → List ItemOutcome
outcomes_in [] made = []
outcomes_in (s ∷ ss) [] = []
outcomes_in (s ∷ ss) (r ∷ made) = item_outcomes s.items r.outcomes ++ outcomes_in ss made

-- ---- rows

-- one member, n items further
abbrev pub entries_by : List Member → ℕ → List Row → List Entry
entries_by [] n rows = []
entries_by (m ∷ ms) n [] = []
entries_by (m ∷ ms) n (row ∷ rows) = record { name = m.aggregate; value = record { position = m.seen.position + n; row = row } } ∷ []

-- the row of a share's one member after it
abbrev pub share_entries : Rules → Bool → Share → List Entry
share_entries rules keep s = entries_by s.members (length s.items) (share_result rules keep s).rows

abbrev pub entries_after : Rules → Bool → List Share → List Entry
entries_after rules keep shares = flat_map (share_entries rules keep) shares

-- the same, with the rows that results have
abbrev pub entries_in : List Share → List ShareResult → List Entry
entries_in [] made = []
entries_in (s ∷ ss) [] = []
entries_in (s ∷ ss) (r ∷ made) = entries_by s.members (length s.items) r.rows ++ entries_in ss made

-- a result has one row
abbrev pub HasOneRow : ShareResult → Type 0
HasOneRow r = (row : Row) × (r.rows ≡ row ∷ [])

-- a share has one member, whose position stays within bounds
abbrev pub IsSingle : Share → Type 0
IsSingle s = (m : Member) × (s.members ≡ m ∷ []) × (m.seen.position + length s.items ≤ 4000000)

abbrev pub row_edits : ℕ → List Entry → List Edit
row_edits p es = map (λ e. Edit.PutRow p e.name e.value) es

-- ---- token rows

-- the rows with the batch's token, or the reply that the batch's row is gone or under another fence
abbrev pub stored_or : ℕ → Batch → List TokenRow → Option TokenRow → Result (List TokenRow) Reply
stored_or now b rows None = Err (Reply.Stale b.fence None)
stored_or now b rows (Some r) = if r.fence == b.fence then Ok (put_row (record r { token = b.new; since = now }) rows) else Err (Reply.Stale b.fence (Some r.fence))

abbrev pub stored : ℕ → Batch → List TokenRow → Result (List TokenRow) Reply
stored now b rows = stored_or now b rows (row_at b.segment rows)

abbrev pub IsStale : Refused → Type 0
IsStale Refused.NoSegment = ⊥
IsStale (Refused.Claimed place) = ⊥
IsStale (Refused.Stale held found) = Unit {0}
IsStale Refused.NotHeld = ⊥
IsStale Refused.MaskFull = ⊥
IsStale Refused.Alone = ⊥

abbrev pub stale_reply : Refused → Reply
stale_reply Refused.NoSegment = Reply.NoSegment
stale_reply (Refused.Claimed place) = Reply.NoSegment
stale_reply (Refused.Stale held found) = Reply.Stale held found
stale_reply Refused.NotHeld = Reply.NotHeld
stale_reply Refused.MaskFull = Reply.MaskFull
stale_reply Refused.Alone = Reply.Alone

-- ---- desks

-- the actor's desk without its batch
pub record IsCleared (w : WorldTables) (actor : ℕ) (d : DeskTables) : Type 0 where
  pub desk : desk_of d ≡ record (desk_at (state_of w) actor) { batch = None }
  pub batch : d.batch ≡ None

-- ---- all edits

abbrev pub install_edits : ℕ → List Entry → List TokenRow → ℕ → DeskTables → List Edit
install_edits p es rows actor desk = row_edits p es ++ Edit.SetRows p rows ∷ Edit.SetDesk actor desk ∷ []

-- with these rows
abbrev pub install_move : Basis → List Entry → List TokenRow → ℕ → DeskTables → Move
install_move b es rows actor desk = record {
  edits = install_edits b.processor es rows actor desk;
  reply = Reply.Committed (length (share_items b.shares)) 0 0;
  report = [];
}
