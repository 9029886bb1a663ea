-- No edit changes the setting, or the name of a whole processor.
use Rattle.std.proofs.Common.{◌≡◌, ℕ, List, [], ◌∷◌, Some, slice_get, arith}
use Rattle.ax_state.specs.Every.{AllFrom}
use Rattle.ax_state.specs.Setting.{Setting, whole_at}
use Rattle.ax_state.proofs.Lists.{AllFrom-get}
use Rattle.ax_world.specs.WorldTables.{WorldTables, ProcessorTables}
use Rattle.ax_world.specs.EditsApplied.{edit_applied, edits_applied, rows_set, row_put, policy_set, mark_put, mark_removed}
use Rattle.ax_world.specs.Fits.{IsWorld}
use Rattle.ax_world.proofs.ProcessorStates.{all-changed}
use Rattle.ax_world.specs.declared.edit.Edit.{Edit}

-- each processor, numbered from n on, has its name where it is whole
abbrev pub AreWholes : Setting → ℕ → List ProcessorTables → Type 0
AreWholes setting n xs = AllFrom (λ p x. x.whole ≡ whole_at setting p) n xs

made : (w : WorldTables) (e : Edit) → AreWholes w.setting 0 w.processor_tables → AreWholes (edit_applied w e).setting 0 (edit_applied w e).processor_tables
made w (Edit.Clock now) h = h
made w (Edit.Fence fence) h = h
made w (Edit.Cells puts) h = h
made w (Edit.SetRows p rows) h = all-changed (λ q x. x.whole ≡ whole_at w.setting q) (rows_set rows) (λ q x same. same) 0 w.processor_tables p h
made w (Edit.PutRow p a v) h = all-changed (λ q x. x.whole ≡ whole_at w.setting q) (row_put a v) (λ q x same. same) 0 w.processor_tables p h
made w (Edit.SetPolicy p keep) h = all-changed (λ q x. x.whole ≡ whole_at w.setting q) (policy_set keep) (λ q x same. same) 0 w.processor_tables p h
made w (Edit.PutMark p item) h = all-changed (λ q x. x.whole ≡ whole_at w.setting q) (mark_put item) (λ q x same. same) 0 w.processor_tables p h
made w (Edit.RemoveMark p item) h = all-changed (λ q x. x.whole ≡ whole_at w.setting q) (mark_removed item) (λ q x same. same) 0 w.processor_tables p h
made w (Edit.SetDesk k desk) h = h

pub wholes-kept : (es : List Edit) (w : WorldTables) → AreWholes w.setting 0 w.processor_tables → AreWholes (edits_applied es w).setting 0 (edits_applied es w).processor_tables
wholes-kept [] w h = h
wholes-kept (e ∷ es) w h = wholes-kept es (edit_applied w e) (made w e h)

-- of the tables that stand at a place
pub whole_in : (w : WorldTables) (p : ℕ) (x : ProcessorTables) → IsWorld w → slice_get w.processor_tables p ≡ Some x → x.whole ≡ whole_at w.setting p
whole_in w p x h at = AllFrom-get (λ p x. x.whole ≡ whole_at w.setting p) 0 w.processor_tables p x h.wholes at p (omega arith)
