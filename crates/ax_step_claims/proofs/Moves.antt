-- Edits that put rows in which cover the same: with the counter of fences and a desk, they lead to the state of the definition.
use Rattle.std.proofs.Common.{◌≡◌, ℕ, ◌<◌, List, [], ◌∷◌, length, Some, Result, Ok, Err, slice_get, refl, sym, ap, ◌∙◌, subst, arith}
use Rattle.std.specs.Prelude.{IfOk}
use Rattle.ax_log.specs.Log.{Stored, events}
use Rattle.ax_claims.specs.Rows.{TokenRow}
use Rattle.ax_state.specs.Every.{AllFrom, option_or}
use Rattle.ax_state.specs.Setting.{whole_at}
use Rattle.ax_state.specs.State.{State, ProcessorState, desk_at, empty_desk, processor_state_at, with_desk, with_fence, with_rows}
use Rattle.ax_state.specs.Portions.{Portion, portions, covered_by}
use Rattle.ax_state.specs.WellFormed.{IsWellFormed}
use Rattle.ax_state.specs.Answer.{Answer}
use Rattle.ax_state.proofs.Lists.{AllFrom-set, AllFrom-get}
use Rattle.ax_state.proofs.Splits.{CoverSame, events-same}
use Rattle.ax_world.specs.WorldTables.{WorldTables, DeskTables, desk_of, no_tables, state_of, processor_tables_at, rows_at}
use Rattle.ax_world.specs.EditsApplied.{edit_applied, with_state}
use Rattle.ax_world.specs.Fits.{IsWorld, IsTable, folded_row}
use Rattle.ax_world.specs.Moves.{IsMove}
use Rattle.ax_world.proofs.StepMoves.{moved, bases-kept}
use Rattle.ax_world.proofs.ProcessorStates.{get-at, processor_state-place, state-rows}
use Rattle.ax_world.specs.declared.edit.Edit.{Edit}
use Rattle.ax_journal.specs.declared.reply.Reply.{Reply}

-- rows with the same segments and tokens
pub same-covers : (ps qs : List Portion) → qs ≡ ps → CoverSame ps qs
same-covers ps qs e h i small = ap (λ xs. covered_by xs h i) e

pub rows-place : (w : WorldTables) (p : ℕ) → (processor_state_at (state_of w) p).rows ≡ rows_at w p
rows-place w p = ap (λ (x : ProcessorState). x.rows) (processor_state-place w p)

module _ (w : WorldTables) (p : ℕ) (rows : List TokenRow) (a : Answer) (reply : Reply) (h : IsWorld w) (lt : p < length w.processor_tables) (same : CoverSame (portions (processor_state_at (state_of w) p).rows) (portions rows))
    (kept : IsWellFormed a.state) (reply_is : reply ≡ a.reply) (report_is : [] ≡ a.report) where
  same-there : CoverSame (portions (rows_at w p)) (portions rows)
  same-there k i small = same k i small ∙ ap (λ xs. covered_by (portions xs) k i) (rows-place w p)

  -- each kept row stays the fold of the log
  tables-covered : AllFrom (IsTable w.setting (events w.cells)) 0 (edit_applied w (Edit.SetRows p rows)).processor_tables
  tables-covered =
      AllFrom-set (IsTable w.setting (events w.cells)) 0 w.processor_tables p (with_state (record (processor_tables_at w p).processor_state { rows = rows }) (processor_tables_at w p)) h.tables (λ k e projection a.
      AllFrom-get (IsTable w.setting (events w.cells)) 0 w.processor_tables p (processor_tables_at w p) h.tables (get-at no_tables w.processor_tables p lt) k e projection a
      ∙ ap (λ (cs : List Stored). folded_row w.setting k cs (processor_tables_at w p).processor_state a) (sym (events-same (portions (rows_at w p)) (portions rows) same-there (whole_at w.setting k) (events w.cells))))

  pub rows-move : a.state ≡ with_rows p rows (state_of w) → IsMove w a (record { edits = Edit.SetRows p rows ∷ []; reply = reply; report = [] })
  rows-move is = moved w (Edit.SetRows p rows ∷ []) a reply h (omega arith) (lt, tt) (state-rows w p rows ∙ sym is) kept refl tables-covered h.bases reply_is report_is

  pub fenced-move : (fence : ℕ) → a.state ≡ with_fence fence (with_rows p rows (state_of w)) → IsMove w a (record { edits = Edit.SetRows p rows ∷ Edit.Fence fence ∷ []; reply = reply; report = [] })
  fenced-move fence is = moved w (Edit.SetRows p rows ∷ Edit.Fence fence ∷ []) a reply h (omega arith) (lt, (tt, tt)) (ap (with_fence fence) (state-rows w p rows) ∙ sym is) kept refl tables-covered h.bases reply_is report_is

  pub desk-move : (fence actor : ℕ) (desk : DeskTables) → actor < length w.desks → slice_get w.bases actor ≡ Some desk.batch → a.state ≡ with_fence fence (with_desk actor (desk_of desk) (with_rows p rows (state_of w)))
      → IsMove w a (record { edits = Edit.SetRows p rows ∷ Edit.Fence fence ∷ Edit.SetDesk actor desk ∷ []; reply = reply; report = [] })
  desk-move fence actor desk there batch is = moved w (Edit.SetRows p rows ∷ Edit.Fence fence ∷ Edit.SetDesk actor desk ∷ []) a reply h (omega arith) (lt, (tt, (there, tt)))
      (ap (λ (m : State). with_fence fence (with_desk actor (desk_of desk) m)) (state-rows w p rows) ∙ sym is) kept refl tables-covered (bases-kept w actor desk.batch h batch) reply_is report_is

-- ---- what a call answers

pub ok-is : {A E : Type 0} (P : A → Type 0) (x : A) (r : Result A E) → IfOk r (λ y. y ≡ x) → P x → IfOk r P
ok-is P x (Ok y) e h = subst P (sym e) h
ok-is P x (Err e) k h = tt

-- the desk that was read
pub desk-read : (w : WorldTables) (actor : ℕ) (was : DeskTables) → slice_get w.desks actor ≡ Some (desk_of was) → desk_at (state_of w) actor ≡ desk_of was
desk-read w actor was at = ap (option_or empty_desk) at
