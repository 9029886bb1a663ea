-- What a fetch answers: a refusal changes nothing, and a batch leads to the state of the definition.
use Rattle.std.proofs.Common.{◌≡◌, ℕ, ◌<◌, ◌==◌, Bool, true, false, IsTrue, List, [], ◌∷◌, length, filter, Option, Some, None, slice_get, if◌then◌else◌, refl, sym, ap, ◌∙◌, subst, arith}
use Rattle.std.specs.Prelude.{IfSome, slice_set}
use Rattle.std.specs.List.{AllByRecursion}
use Rattle.std.proofs.lemmas.Bool.Decides.{nat_tests}
use Rattle.ax_log.specs.Log.{events}
use Rattle.ax_segments.specs.Segments.{Segment}
use Rattle.ax_tokens.specs.Tokens.{Token, gaps_fit}
use Rattle.ax_claims.specs.Rows.{TokenRow, row_at}
use Rattle.ax_state.specs.Every.{option_or}
use Rattle.ax_state.specs.Setting.{is_projection, projection_at, whole_at}
use Rattle.ax_state.specs.State.{ProcessorState, Desk, Batch, desk_at, processor_state_at, empty_desk, with_desk}
use Rattle.ax_state.specs.Answer.{Answer}
use Rattle.ax_state.proofs.RowPuts.{found-row}
use Rattle.ax_world.specs.Holding.{held_fence, held_check, checked}
use Rattle.ax_world.specs.WorldTables.{WorldTables, DeskTables, desk_of, state_of, rows_at}
use Rattle.ax_world.specs.EditsApplied.{edits_applied}
use Rattle.ax_world.specs.Fits.{IsWorld}
use Rattle.ax_world.specs.Moves.{IsMove}
use Rattle.ax_world.proofs.StepMoves.{unmoved, moved}
use Rattle.ax_world.proofs.ProcessorStates.{processor_state-place}
use Rattle.ax_basis.specs.Basis.{Basis}
use Rattle.ax_state.specs.Batches.{is_fetched, batch_of, shares_of, IsBasisOf}
use Rattle.ax_state.specs.WellFormed.{IsTokenOver}
use Rattle.ax_state.proofs.Lists.{All-set}
use Rattle.ax_step_work.specs.Sharing.{read_shares}
use Rattle.ax_step_work.proofs.KeptRows.{shares-read}
use Rattle.ax_step_work.specs.Reach.{HasSettled}
use Rattle.ax_step_work.specs.Working.{fetched_batch, fetched, fetch_at, fetched_token}
use Rattle.ax_step_work.proofs.FetchKept.{row-gaps, row-settled, kept-fetched, over, standing}
use Rattle.ax_step_work.proofs.NotWhole.{not-whole}
use Rattle.ax_world.specs.declared.edit.Edit.{Edit}
use Rattle.ax_journal.specs.declared.reply.Reply.{Reply}
use Rattle.ax_values.specs.declared.cell.Cell.{Cell}

-- ---- the batch

-- what the calls made is the batch of the definition
pub fetched-is : (w : WorldTables) (p most : ℕ) (row : TokenRow) (t n : Token) (cells : List Cell) → t ≡ row.token → n ≡ fetched_token None row.segment row.token cells most → cells ≡ w.cells
    → record { processor = p; segment = row.segment; fence = row.fence; old = t; new = n } ≡ fetched_batch (state_of w) p row.segment most row
fetched-is w p most row t n cells old new cells_are =
    ap (λ t. record { processor = p; segment = row.segment; fence = row.fence; old = t; new = n }) old
    ∙ ap (λ n. record { processor = p; segment = row.segment; fence = row.fence; old = row.token; new = n })
    (new ∙ ap (λ cs. fetched_token None row.segment row.token cs most) cells_are ∙ ap (λ o. fetched_token o row.segment row.token w.cells most) (sym (not-whole w.setting p)))

pub fetch-move : (w : WorldTables) (actor p most : ℕ) (row : TokenRow) (old new : DeskTables) (x : Basis) (cells : List Cell) (records : ℕ) → IsWorld w → IsTrue (is_projection w.setting p) → actor < length w.setting.actors
    → row_at row.segment (rows_at w p) ≡ Some row → held_fence p row.segment (desk_at (state_of w) actor).held ≡ Some row.fence → slice_get w.desks actor ≡ Some (desk_of old) → cells ≡ w.cells → batch_of x ≡ fetched_batch (state_of w) p row.segment most row
    → x.keep ≡ true → x.shares ≡ read_shares w p (batch_of x) → new ≡ record old { batch = Some x } → records ≡ length (filter (is_fetched None row.segment row.token x.new) (events cells))
    → IsMove w (fetched (state_of w) actor (fetched_batch (state_of w) p row.segment most row)) (record { edits = Edit.SetDesk actor new ∷ []; reply = Reply.Fetched records; report = [] })
fetch-move w actor p most row old new x cells records h projection lt found held at cells_are x_is keep shares new_is records_are =
    moved w (Edit.SetDesk actor new ∷ []) (fetched (state_of w) actor b) (Reply.Fetched records) h (omega arith) ((let seats : length w.desks ≡ length w.setting.actors = h.state.actors in omega arith), tt) state
    (kept-fetched (state_of w) actor p row.segment most row there h.state projection held) refl h.tables
    (subst (λ o. AllByRecursion (λ o. IfSome o (IsBasisOf w.setting w.cells)) (slice_set w.bases actor o)) (sym (ap (λ (d : DeskTables). d.batch) new_is)) (All-set (λ o. IfSome o (IsBasisOf w.setting w.cells)) w.bases actor (Some x) h.bases tied))
    reply refl
  where
    b : Batch
    b = fetched_batch (state_of w) p row.segment most row

    there : row_at row.segment (processor_state_at (state_of w) p).rows ≡ Some row
    there = ap (λ (x : ProcessorState). row_at row.segment x.rows) (processor_state-place w p) ∙ found

    desk_is : desk_at (state_of w) actor ≡ desk_of old
    desk_is = ap (option_or empty_desk) at

    new_desk : desk_of new ≡ record (desk_at (state_of w) actor) { batch = Some b }
    new_desk = ap desk_of new_is ∙ ap (λ c. record (desk_of old) { batch = Some c }) x_is ∙ ap (λ (d : Desk). record d { batch = Some b }) (sym desk_is)

    state : state_of (edits_applied (Edit.SetDesk actor new ∷ []) w) ≡ with_desk actor (record (desk_at (state_of w) actor) { batch = Some b }) (state_of w)
    state = ap (λ d. with_desk actor d (state_of w)) new_desk

    reply : Reply.Fetched records ≡ Reply.Fetched (length (filter (is_fetched (whole_at w.setting p) row.segment row.token b.new) (events w.cells)))
    reply = ap Reply.Fetched (records_are ∙ ap (λ cs. length (filter (is_fetched None row.segment row.token x.new) (events cs))) cells_are
        ∙ ap (λ o. length (filter (is_fetched o row.segment row.token x.new) (events w.cells))) (sym (not-whole w.setting p))
        ∙ ap (λ (c : Batch). length (filter (is_fetched (whole_at w.setting p) row.segment row.token c.new) (events w.cells))) x_is)

    tied : IsBasisOf w.setting w.cells x
    tied = record {
      old = subst (λ (c : Batch). IsTokenOver w.cells c.segment.mask c.old) (sym x_is) (over (state_of w) actor p row.segment most row there h.state);
      new = subst (λ (c : Batch). IsTokenOver w.cells c.segment.mask c.new) (sym x_is) (standing (state_of w) actor p row.segment most row there h.state projection).token;
      keep = keep;
      shares = shares ∙ rest;
    }
      where
        rest : read_shares w p (batch_of x) ≡ shares_of (whole_at w.setting x.processor) (projection_at w.setting x.processor) w.setting.sheet.chain (batch_of x) (events w.cells)
        rest = subst (λ (c : Batch). read_shares w p c ≡ shares_of (whole_at w.setting c.processor) (projection_at w.setting c.processor) w.setting.sheet.chain c (events w.cells)) (sym x_is) (shares-read w p h projection b row found refl)

pub fetch-fits : (w : WorldTables) (actor p most : ℕ) (row : TokenRow) → IsWorld w → row_at row.segment (rows_at w p) ≡ Some row → IsTrue (gaps_fit row.token)
fetch-fits w actor p most row h found = row-gaps (state_of w) actor p row.segment most row (ap (λ (x : ProcessorState). row_at row.segment x.rows) (processor_state-place w p) ∙ found) h.state

pub fetch-settled : (w : WorldTables) (actor p most : ℕ) (row : TokenRow) → IsWorld w → row_at row.segment (rows_at w p) ≡ Some row → HasSettled row.token w.cells
fetch-settled w actor p most row h found = row-settled (state_of w) actor p row.segment most row (ap (λ (x : ProcessorState). row_at row.segment x.rows) (processor_state-place w p) ∙ found) h.state

-- ---- refusals

pub refused-fetch : (w : WorldTables) (actor p : ℕ) (s : Segment) (most : ℕ) (o : Option ℕ) (x : Option TokenRow) (refusal : Reply) → IsWorld w → o ≡ held_fence p s (desk_at (state_of w) actor).held → x ≡ row_at s (processor_state_at (state_of w) p).rows
    → held_check o x ≡ Some refusal → IsMove w (fetch_at (state_of w) actor p s most) (record { edits = []; reply = refusal; report = [] })
refused-fetch w actor p s most o x refusal h e f k =
    subst (λ a. IsMove w a (record { edits = []; reply = refusal; report = [] }))
    (sym (ap (λ o. checked (state_of w) (held_check o (row_at s (processor_state_at (state_of w) p).rows)) (row_at s (processor_state_at (state_of w) p).rows) next) (sym e)
    ∙ ap (λ x. checked (state_of w) (held_check o x) x next) (sym f) ∙ ap (λ r. checked (state_of w) r x next) k))
    (unmoved w refusal h)
  where
    next : TokenRow → Answer
    next r = fetched (state_of w) actor (fetched_batch (state_of w) p s most r)

-- ---- a row whose fence is held

pub record IsHeldRow (w : WorldTables) (actor p : ℕ) (s : Segment) (most : ℕ) (row : TokenRow) : Type 0 where
  pub found : row_at row.segment (rows_at w p) ≡ Some row
  pub held : held_fence p row.segment (desk_at (state_of w) actor).held ≡ Some row.fence
  pub is : fetched (state_of w) actor (fetched_batch (state_of w) p row.segment most row) ≡ fetch_at (state_of w) actor p s most

held-by : (o : Option ℕ) (r : TokenRow) → held_check o (Some r) ≡ None → o ≡ Some r.fence
held-by None r h = absurd (cc)
held-by (Some f) r h = at (r.fence == f) refl h
  where
    at : (c : Bool) → (r.fence == f) ≡ c → (if c then None else Some (Reply.Stale f (Some r.fence))) ≡ None → Some f ≡ Some r.fence
    at true e h = let same : f ≡ r.fence = grind (arith, nat_tests, e) in ap Some same
    at false e h = absurd (cc)

pub held-row : (w : WorldTables) (actor p : ℕ) (s : Segment) (most : ℕ) (o : Option ℕ) (x : Option TokenRow) (row : TokenRow) → o ≡ held_fence p s (desk_at (state_of w) actor).held → x ≡ row_at s (rows_at w p) → x ≡ Some row
    → held_check o x ≡ None → IsHeldRow w actor p s most row
held-row w actor p s most o x row e f g k = record {
  found = ap (λ t. row_at t (rows_at w p)) segment ∙ found;
  held = ap (λ t. held_fence p t (desk_at (state_of w) actor).held) segment ∙ held;
  is = ap (λ t. fetched (state_of w) actor (fetched_batch (state_of w) p t most row)) segment ∙ sym whole;
}
  where
    found : row_at s (rows_at w p) ≡ Some row
    found = sym f ∙ g

    segment : row.segment ≡ s
    segment = (found-row s (rows_at w p) row found).2

    held_is : o ≡ Some row.fence
    held_is = held-by o row (ap (held_check o) (sym g) ∙ k)

    held : held_fence p s (desk_at (state_of w) actor).held ≡ Some row.fence
    held = sym e ∙ held_is

    next : TokenRow → Answer
    next r = fetched (state_of w) actor (fetched_batch (state_of w) p s most r)

    rows : row_at s (processor_state_at (state_of w) p).rows ≡ Some row
    rows = ap (λ (x : ProcessorState). row_at s x.rows) (processor_state-place w p) ∙ found

    whole : fetch_at (state_of w) actor p s most ≡ fetched (state_of w) actor (fetched_batch (state_of w) p s most row)
    whole =
        ap (λ o. checked (state_of w) (held_check o (row_at s (processor_state_at (state_of w) p).rows)) (row_at s (processor_state_at (state_of w) p).rows) next) (sym e)
        ∙ ap (λ x. checked (state_of w) (held_check o x) x next) (rows ∙ sym g)
        ∙ ap (λ r. checked (state_of w) r x next) k
        ∙ ap (λ x. checked (state_of w) None x next) g
