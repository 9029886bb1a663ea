-- What the calls of a commit returned is a move of the definition.
use Rattle.std.proofs.Common.{◌≡◌, ℕ, ◌<◌, ◌≤◌, ◌==◌, Bool, true, false, List, [], ◌∷◌, length, map, Option, Some, None, Ok, Err, find, if◌then◌else◌, refl, sym, ap, ◌∙◌, subst, arith}
use Rattle.std.specs.List.{AllByRecursion, IsDistinct}
use Rattle.std.proofs.lemmas.Bool.Decides.{nat_tests}
use Rattle.ax_values.specs.Words.{same_name}
use Rattle.ax_rules.specs.Rules.{Rules}
use Rattle.ax_upcast.specs.Upcast.{KeepsLimit}
use Rattle.ax_claims.specs.Rows.{TokenRow, row_at, put_row}
use Rattle.ax_state.specs.Setting.{projection_at}
use Rattle.ax_state.specs.State.{State, ProcessorState, Batch, processor_state_at, desk_at}
use Rattle.ax_state.specs.Answer.{Answer, answer}
use Rattle.ax_world.specs.WorldTables.{WorldTables, DeskTables, state_of, processor_tables_at, rows_at}
use Rattle.ax_world.specs.Fits.{IsWorld}
use Rattle.ax_world.specs.Moves.{IsMove}
use Rattle.ax_world.proofs.ProcessorStates.{processor_state-place}
use Rattle.ax_step_work.specs.Working.{ItemOutcome, first_unapplied, is_unapplied, unapplied_text, shares_in, committed, commit_over, with_batch}
use Rattle.ax_step_work.specs.Installing.{HasOneRow, IsCleared, IsSingle, entries_after, entries_in, install_move, outcomes_in, share_items, stored, stored_or}
use Rattle.ax_basis.specs.Basis.{Basis}
use Rattle.ax_basis.specs.Outcomes.{results_of, share_result}
use Rattle.ax_basis.specs.declared.outcome.ShareResult.{ShareResult}
use Rattle.ax_projections.specs.Table.{Entry}
use Rattle.std.proofs.lemmas.List.{length-map}
use Rattle.ax_state.specs.Batches.{IsBasisOf, batch_of}
use Rattle.ax_journal.specs.declared.reply.Reply.{Reply}
use Rattle.ax_world.specs.declared.edit.Edit.{Edit}
use Rattle.ax_world.specs.declared.edit.Move.{Move}
use Rattle.ax_step_work.proofs.Tallied.{outcomes-made, entries-made, single-rows}
use Rattle.ax_step_work.proofs.Commits.{emptied-move, failed-move, all-single, count-few, installed-move}

pub record IsStored (now : ℕ) (b : Batch) (old : List TokenRow) (o : Option TokenRow) (new : List TokenRow) : Type 0 where
  pub row : TokenRow
  pub found : o ≡ Some row
  pub fence : row.fence ≡ b.fence
  pub rows_are : new ≡ put_row (record row { token = b.new; since = now }) old

stored-rows : (now : ℕ) (b : Batch) (old : List TokenRow) (o : Option TokenRow) (new : List TokenRow) → Ok new ≡ stored_or now b old o → IsStored now b old o new
stored-rows now b old None new e = absurd (cc)
stored-rows now b old (Some r) new e = by (r.fence == b.fence) refl e
  where
    by : (c : Bool) → (r.fence == b.fence) ≡ c → Ok new ≡ (if c then Ok (put_row (record r { token = b.new; since = now }) old) else Err (Reply.Stale b.fence (Some r.fence))) → IsStored now b old (Some r) new
    by true k e = record { row = r; found = refl; fence = (grind (arith, nat_tests, k)); rows_are = (cc) }
    by false k e = absurd (cc)

stale-over : (m : State) (actor now : ℕ) (b : Batch) (old : List TokenRow) (o : Option TokenRow) (reply : Reply) → Err reply ≡ stored_or now b old o → commit_over m actor b o ≡ answer (with_batch actor None m) reply
stale-over m actor now b old None reply e = let is : reply ≡ Reply.Stale b.fence None = cc in ap (answer (with_batch actor None m)) (sym is)
stale-over m actor now b old (Some r) reply e = by (r.fence == b.fence) refl e
  where
    by : (c : Bool) → (r.fence == b.fence) ≡ c → Err reply ≡ (if c then Ok (put_row (record r { token = b.new; since = now }) old) else Err (Reply.Stale b.fence (Some r.fence))) → commit_over m actor b (Some r) ≡ answer (with_batch actor None m) reply
    by true k e = absurd (cc)
    by false k e =
        let is : reply ≡ Reply.Stale b.fence (Some r.fence) = cc in
        ap (λ c. if c then committed m actor b r (first_unapplied (projection_at m.setting b.processor) true (shares_in m b)) else answer (with_batch actor None m) (Reply.Stale b.fence (Some r.fence))) k
        ∙ ap (answer (with_batch actor None m)) (sym is)

module _ (w : WorldTables) (actor : ℕ) (basis : Basis) (h : IsWorld w) (mine : (desk_at (state_of w) actor).batch ≡ Some (batch_of basis)) where
  abbrev over : Answer
  over = commit_over (state_of w) actor (batch_of basis) (row_at basis.segment (processor_state_at (state_of w) basis.processor).rows)

  pub stale-answer : (now : ℕ) (old : List TokenRow) (reply : Reply) (desk : DeskTables) (mv : Move) → actor < length w.desks → IsCleared w actor desk → old ≡ rows_at w basis.processor → Err reply ≡ stored now (batch_of basis) old
      → mv ≡ record { edits = Edit.SetDesk actor desk ∷ []; reply = reply; report = [] } → IsMove w over mv
  stale-answer now old reply desk mv lt cleared rows e is =
      subst (IsMove w over) (sym is)
      (emptied-move w actor basis h mine over reply desk lt cleared
      (ap (λ (s : ProcessorState). commit_over (state_of w) actor (batch_of basis) (row_at basis.segment s.rows)) (processor_state-place w basis.processor) ∙ ap (λ rs. commit_over (state_of w) actor (batch_of basis) (row_at basis.segment rs)) (sym rows)
      ∙ stale-over (state_of w) actor now (batch_of basis) old (row_at basis.segment old) reply e))

  module _ (tied : IsBasisOf w.setting w.cells basis) (made : List ShareResult) (made_are : made ≡ results_of (projection_at w.setting basis.processor) basis) (rows : List TokenRow)
      (kept : Ok rows ≡ stored w.clock (batch_of basis) (rows_at w basis.processor)) where
    abbrev rs : Rules
    rs = projection_at w.setting basis.processor

    left-is : find (λ t. is_unapplied t.outcome) (outcomes_in basis.shares made) ≡ first_unapplied rs basis.keep basis.shares
    left-is = ap (λ made. find (λ t. is_unapplied t.outcome) (outcomes_in basis.shares made)) made_are ∙ ap (find (λ t. is_unapplied t.outcome)) (outcomes-made rs basis.keep basis.shares)

    entries-are : entries_in basis.shares made ≡ entries_after rs basis.keep basis.shares
    entries-are = ap (entries_in basis.shares) made_are ∙ entries-made rs basis.keep basis.shares

    was-stored : IsStored w.clock (batch_of basis) (processor_tables_at w basis.processor).processor_state.rows (row_at basis.segment (processor_tables_at w basis.processor).processor_state.rows) rows
    was-stored = stored-rows w.clock (batch_of basis) (processor_tables_at w basis.processor).processor_state.rows (row_at basis.segment (processor_tables_at w basis.processor).processor_state.rows) rows kept

    pub failed-answer : (t : ItemOutcome) (mv : Move) → Some t ≡ find (λ t. is_unapplied t.outcome) (outcomes_in basis.shares made)
        → mv ≡ record { edits = []; reply = Reply.NotApplied t.item.item.name (unapplied_text t.outcome); report = [] } → IsMove w over mv
    failed-answer t mv e is = subst (IsMove w over) (sym is) (failed-move w actor basis h mine tied was-stored.row was-stored.found was-stored.fence t (sym left-is ∙ sym e))

    pub paired-answer : length made ≡ length basis.shares
    paired-answer = ap length made_are ∙ length-map basis.shares (share_result rs basis.keep)

    pub row-answer : KeepsLimit w.setting.sheet.chain → AllByRecursion HasOneRow made
    row-answer few = subst (AllByRecursion HasOneRow) (sym made_are) (single-rows rs basis.keep basis.shares (all-single w actor basis h mine tied was-stored.row was-stored.found was-stored.fence few h.state.log.size))

    pub single-answer : KeepsLimit w.setting.sheet.chain → AllByRecursion IsSingle basis.shares
    single-answer few = all-single w actor basis h mine tied was-stored.row was-stored.found was-stored.fence few h.state.log.size

    pub count-answer : KeepsLimit w.setting.sheet.chain → length (share_items basis.shares) ≤ 1600000
    count-answer few = count-few w actor basis h mine tied was-stored.row was-stored.found was-stored.fence few h.state.log.size

    pub installed-answer : (desk : DeskTables) (mv : Move) → None ≡ find (λ t. is_unapplied t.outcome) (outcomes_in basis.shares made) → IsCleared w actor desk → KeepsLimit w.setting.sheet.chain
        → IsDistinct same_name (map (λ e. e.name) (processor_tables_at w basis.processor).table) → actor < length w.desks → mv ≡ install_move basis (entries_in basis.shares made) rows actor desk → IsMove w over mv
    installed-answer desk mv e cleared few distinct lt is =
        subst (IsMove w over) (sym is)
        (subst (λ (es : List Entry). IsMove w over (install_move basis es rows actor desk)) (sym entries-are)
        (subst (λ (ts : List TokenRow). IsMove w over (install_move basis (entries_after rs basis.keep basis.shares) ts actor desk)) (sym was-stored.rows_are)
        (installed-move w actor basis h mine tied was-stored.row was-stored.found was-stored.fence (sym left-is ∙ sym e) desk cleared lt distinct h.state.log.size few)))
