-- What edits make of what a world keeps.
use Rattle.std.specs.Prelude.{ℕ, Bool, List, [], ◌∷◌, slice_set}
use Rattle.ax_values.specs.Grammar.{Name, ItemName}
use Rattle.ax_values.specs.Words.{item_cmp, put_rising, remove_rising}
use Rattle.ax_log.specs.Puts.{put_all}
use Rattle.ax_projections.specs.Table.{put_entry}
use Rattle.ax_claims.specs.Rows.{TokenRow}
use Rattle.ax_state.specs.State.{ProcessorState}
use Rattle.ax_world.specs.WorldTables.{WorldTables, ProcessorTables, processor_tables_in, desk_of}
use Rattle.ax_projections.specs.declared.table.Positioned.{Positioned}
use Rattle.ax_world.specs.declared.edit.Edit.{Edit}

-- ---- the tables of one processor

abbrev pub with_state : ProcessorState → ProcessorTables → ProcessorTables
with_state processor_state x = record x { processor_state = processor_state }

-- with other token rows
abbrev pub rows_set : List TokenRow → ProcessorTables → ProcessorTables
rows_set rows x = with_state (record x.processor_state { rows = rows }) x

-- with the row of an aggregate in its place, or at the end
abbrev pub row_put : Name → Positioned → ProcessorTables → ProcessorTables
row_put a v x = record x { table = put_entry a v x.table }

-- with this policy: whether failed items are kept as letters
abbrev pub policy_set : Bool → ProcessorTables → ProcessorTables
policy_set keep x = with_state (record x.processor_state { keep = keep }) x

-- with an item marked
abbrev pub mark_put : ItemName → ProcessorTables → ProcessorTables
mark_put item x = with_state (record x.processor_state { marks = put_rising item_cmp item x.processor_state.marks }) x

-- without the mark of an item
abbrev pub mark_removed : ItemName → ProcessorTables → ProcessorTables
mark_removed item x = with_state (record x.processor_state { marks = remove_rising item_cmp item x.processor_state.marks }) x

-- the tables of the processors, one of which changes
abbrev pub changed_at : ℕ → (ProcessorTables → ProcessorTables) → List ProcessorTables → List ProcessorTables
changed_at p f xs = slice_set xs p (f (processor_tables_in xs p))

-- ---- edits

abbrev pub edit_applied : WorldTables → Edit → WorldTables
edit_applied w (Edit.Clock now) = record w { clock = now }
edit_applied w (Edit.Fence fence) = record w { fence = fence }
edit_applied w (Edit.Cells puts) = record w { cells = put_all puts w.cells }
edit_applied w (Edit.SetRows p rows) = record w { processor_tables = changed_at p (rows_set rows) w.processor_tables }
edit_applied w (Edit.PutRow p a v) = record w { processor_tables = changed_at p (row_put a v) w.processor_tables }
edit_applied w (Edit.SetPolicy p keep) = record w { processor_tables = changed_at p (policy_set keep) w.processor_tables }
edit_applied w (Edit.PutMark p item) = record w { processor_tables = changed_at p (mark_put item) w.processor_tables }
edit_applied w (Edit.RemoveMark p item) = record w { processor_tables = changed_at p (mark_removed item) w.processor_tables }
edit_applied w (Edit.SetDesk k desk) = record w { desks = slice_set w.desks k (desk_of desk); bases = slice_set w.bases k desk.batch }

-- one after another
abbrev pub edits_applied : List Edit → WorldTables → WorldTables
edits_applied [] w = w
edits_applied (e ∷ es) w = edits_applied es (edit_applied w e)
