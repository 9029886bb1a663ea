-- Edits that put rows of one processor: what they make of a world, and that they can be made.
use Rattle.std.proofs.Common.{◌≡◌, ℕ, zero, suc, ◌+◌, ◌<◌, ◌≤◌, List, [], ◌∷◌, ◌++◌, length, slice_get, slice_set, refl, sym, ap, ◌∙◌, arith}
use Rattle.std.proofs.lemmas.List.{length-set}
use Rattle.ax_projections.specs.Table.{Entry, put_entry}
use Rattle.ax_state.specs.Every.{count, option_or}
use Rattle.ax_world.specs.WorldTables.{WorldTables, ProcessorTables, no_tables, processor_tables_at}
use Rattle.ax_world.specs.EditsApplied.{edit_applied, edits_applied}
use Rattle.ax_world.specs.Fits.{CanMakeAll, is_cells}
use Rattle.ax_world.proofs.OneProcessorChanges.{set_same}
use Rattle.ax_step_work.specs.Installing.{row_edits}
use Rattle.ax_step_work.proofs.Tables.{length-put, put_entries}
use Rattle.ax_world.specs.declared.edit.Edit.{Edit}

pub set-here : {A : Type 0} (d : A) (xs : List A) (p : ℕ) (y : A) → p < length xs → option_or d (slice_get (slice_set xs p y) p) ≡ y
set-here d [] p y lt = absurd (omega arith)
set-here d (x ∷ xs) zero y lt = refl
set-here d (x ∷ xs) (suc p) y lt = set-here d xs p y (omega arith)

pub set-twice : {A : Type 0} (xs : List A) (p : ℕ) (x y : A) → slice_set (slice_set xs p x) p y ≡ slice_set xs p y
set-twice [] p x y = refl
set-twice (z ∷ xs) zero x y = refl
set-twice (z ∷ xs) (suc p) x y = ap (λ ys. z ∷ ys) (set-twice xs p x y)

pub made-append : (es fs : List Edit) (w : WorldTables) → edits_applied (es ++ fs) w ≡ edits_applied fs (edits_applied es w)
made-append [] fs w = refl
made-append (e ∷ es) fs w = made-append es fs (edit_applied w e)

pub can-append : (es fs : List Edit) (w : WorldTables) → CanMakeAll w es → CanMakeAll (edits_applied es w) fs → CanMakeAll w (es ++ fs)
can-append [] fs w h j = j
can-append (e ∷ es) fs w h j = (h.0, can-append es fs (edit_applied w e) h.1 j)

pub count-rows : (p : ℕ) (es : List Entry) (fs : List Edit) → count is_cells (row_edits p es ++ fs) ≡ count is_cells fs
count-rows p [] fs = refl
count-rows p (e ∷ es) fs = let k : count is_cells (row_edits p es ++ fs) ≡ count is_cells fs = count-rows p es fs in omega (arith, k)

abbrev pub with_processor_tables : ℕ → ProcessorTables → WorldTables → WorldTables
with_processor_tables p x w = record w { processor_tables = slice_set w.processor_tables p x }

abbrev pub with_table : List Entry → ProcessorTables → ProcessorTables
with_table t x = record x { table = t }

pub made-rows : (es : List Entry) (p : ℕ) (w : WorldTables) → p < length w.processor_tables → edits_applied (row_edits p es) w ≡ with_processor_tables p (with_table (put_entries es (processor_tables_at w p).table) (processor_tables_at w p)) w
made-rows [] p w lt = sym (ap (λ ps. record w { processor_tables = ps }) (set_same no_tables w.processor_tables p))
made-rows (e ∷ es) p w lt =
    made-rows es p (with_processor_tables p x w) (let l : length (slice_set w.processor_tables p x) ≡ length w.processor_tables = length-set w.processor_tables p x in omega (arith, l, lt))
    ∙ ap (λ (y : ProcessorTables). with_processor_tables p (with_table (put_entries es y.table) y) (with_processor_tables p x w)) (set-here no_tables w.processor_tables p x lt)
    ∙ ap (λ ps. record w { processor_tables = ps }) (set-twice w.processor_tables p x (with_table (put_entries es x.table) x))
  where
    x : ProcessorTables
    x = with_table (put_entry e.name e.value (processor_tables_at w p).table) (processor_tables_at w p)

pub can-rows : (es : List Entry) (p : ℕ) (w : WorldTables) → p < length w.processor_tables → length (processor_tables_at w p).table + length es ≤ 4000000000 → CanMakeAll w (row_edits p es)
can-rows [] p w lt few = tt
can-rows (e ∷ es) p w lt few = (
  (lt, λ none. omega (arith, few)),
  can-rows es p (with_processor_tables p x w) (let l : length (slice_set w.processor_tables p x) ≡ length w.processor_tables = length-set w.processor_tables p x in omega (arith, l, lt))
      (let same : length (processor_tables_at (with_processor_tables p x w) p).table ≡ length (put_entry e.name e.value (processor_tables_at w p).table) = ap (λ (y : ProcessorTables). length y.table) (set-here no_tables w.processor_tables p x lt) in
      let l : length (put_entry e.name e.value (processor_tables_at w p).table) ≤ suc (length (processor_tables_at w p).table) = length-put e.name e.value (processor_tables_at w p).table in omega (arith, same, l, few)),
)
  where
    x : ProcessorTables
    x = with_table (put_entry e.name e.value (processor_tables_at w p).table) (processor_tables_at w p)
