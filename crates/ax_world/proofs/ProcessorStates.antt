-- What a change of one processor makes of the state and of the tables.
use Rattle.std.proofs.Common.{◌≡◌, ℕ, zero, suc, ◌<◌, Bool, List, [], ◌∷◌, map, length, Some, slice_get, slice_set, refl, sym, ap, ◌∙◌, arith}
use Rattle.std.proofs.lemmas.List.{length-map}
use Rattle.ax_values.specs.Grammar.{ItemName}
use Rattle.ax_log.specs.Log.{events}
use Rattle.ax_claims.specs.Rows.{TokenRow}
use Rattle.ax_state.specs.Every.{AllFrom, option_or}
use Rattle.ax_state.specs.State.{ProcessorState, empty_processor, processor_state_at, with_state, with_rows}
use Rattle.ax_state.specs.Setting.{whole_at}
use Rattle.ax_state.specs.Portions.{portions, covered_events}
use Rattle.ax_state.specs.WellFormed.{IsProcessorState}
use Rattle.ax_state.proofs.Lists.{AllFrom-set, AllFrom-get}
use Rattle.ax_world.specs.WorldTables.{WorldTables, ProcessorTables, no_tables, state_of, processor_tables_at}
use Rattle.ax_world.specs.EditsApplied.{changed_at, edit_applied, rows_set, policy_set, mark_put, mark_removed}
use Rattle.ax_world.specs.Fits.{IsWorld, IsTable, HasMarksInOrder, folded_row}
use Rattle.ax_world.proofs.OneProcessorChanges.{map_set}
use Rattle.ax_world.specs.declared.edit.Edit.{Edit}

-- what stands at a place within the list
pub get-at : {A : Type 0} (d : A) (xs : List A) (p : ℕ) → p < length xs → slice_get xs p ≡ Some (option_or d (slice_get xs p))
get-at d [] p h = absurd (omega arith)
get-at d (x ∷ xs) zero h = refl
get-at d (x ∷ xs) (suc p) h = get-at d xs p (omega arith)

processor_state-of : (xs : List ProcessorTables) (p : ℕ) → option_or empty_processor (slice_get (map (λ x. x.processor_state) xs) p) ≡ (option_or no_tables (slice_get xs p)).processor_state
processor_state-of [] p = refl
processor_state-of (x ∷ xs) zero = refl
processor_state-of (x ∷ xs) (suc p) = processor_state-of xs p

get-map : (xs : List ProcessorTables) (p : ℕ) → p < length xs → slice_get (map (λ x. x.processor_state) xs) p ≡ Some (option_or no_tables (slice_get xs p)).processor_state
get-map [] p h = absurd (omega arith)
get-map (x ∷ xs) zero h = refl
get-map (x ∷ xs) (suc p) h = get-map xs p (omega arith)

pub processor_state-place : (w : WorldTables) (p : ℕ) → processor_state_at (state_of w) p ≡ (processor_tables_at w p).processor_state
processor_state-place w p = processor_state-of w.processor_tables p

-- the part of the state that one processor has becomes what g makes of it
pub state-changed : (w : WorldTables) (p : ℕ) (f : ProcessorTables → ProcessorTables) (g : ProcessorState → ProcessorState) → ((x : ProcessorTables) → (f x).processor_state ≡ g x.processor_state)
    → state_of (record w { processor_tables = changed_at p f w.processor_tables }) ≡ with_state p (g (processor_state_at (state_of w) p)) (state_of w)
state-changed w p f g same =
    ap (λ processor_states. record (state_of w) { processor_states = processor_states })
    (map_set (λ x. x.processor_state) w.processor_tables p (f (processor_tables_at w p))
    ∙ ap (slice_set (map (λ x. x.processor_state) w.processor_tables) p) (same (processor_tables_at w p) ∙ ap g (sym (processor_state-place w p))))

pub state-rows : (w : WorldTables) (p : ℕ) (rows : List TokenRow) → state_of (edit_applied w (Edit.SetRows p rows)) ≡ with_rows p rows (state_of w)
state-rows w p rows = state-changed w p (rows_set rows) (λ s. record s { rows = rows }) (λ x. refl)

-- what each processor keeps, where one changes
pub all-changed : (P : ℕ → ProcessorTables → Type 0) (f : ProcessorTables → ProcessorTables) → ((k : ℕ) (x : ProcessorTables) → P k x → P k (f x)) → (n : ℕ) (xs : List ProcessorTables) (p : ℕ) → AllFrom P n xs → AllFrom P n (changed_at p f xs)
all-changed P f step n [] p h = tt
all-changed P f step n (x ∷ xs) zero h = (step n x h.0, h.1)
all-changed P f step n (x ∷ xs) (suc p) h = (h.0, all-changed P f step (suc n) xs p h.1)

-- a policy or a mark changes no table, nor what it is the fold of
pub tables-policy : (w : WorldTables) (p : ℕ) (keep : Bool) → IsWorld w → AllFrom (IsTable w.setting (events w.cells)) 0 (edit_applied w (Edit.SetPolicy p keep)).processor_tables
tables-policy w p keep h = all-changed (IsTable w.setting (events w.cells)) (policy_set keep) (λ k x t. t) 0 w.processor_tables p h.tables

pub tables-marked : (w : WorldTables) (p : ℕ) (item : ItemName) → IsWorld w → AllFrom (IsTable w.setting (events w.cells)) 0 (edit_applied w (Edit.PutMark p item)).processor_tables
tables-marked w p item h = all-changed (IsTable w.setting (events w.cells)) (mark_put item) (λ k x t. t) 0 w.processor_tables p h.tables

pub tables-healed : (w : WorldTables) (p : ℕ) (item : ItemName) → IsWorld w → AllFrom (IsTable w.setting (events w.cells)) 0 (edit_applied w (Edit.RemoveMark p item)).processor_tables
tables-healed w p item h = all-changed (IsTable w.setting (events w.cells)) (mark_removed item) (λ k x t. t) 0 w.processor_tables p h.tables

-- rows with the same segments and tokens cover the same events
pub tables-rows : (w : WorldTables) (p : ℕ) (rows : List TokenRow) → p < length w.processor_tables → portions rows ≡ portions (processor_tables_at w p).processor_state.rows → AllFrom (IsTable w.setting (events w.cells)) 0 w.processor_tables
    → AllFrom (IsTable w.setting (events w.cells)) 0 (edit_applied w (Edit.SetRows p rows)).processor_tables
tables-rows w p rows lt same h =
    AllFrom-set (IsTable w.setting (events w.cells)) 0 w.processor_tables p (rows_set rows (processor_tables_at w p)) h (λ k e projection a.
    AllFrom-get (IsTable w.setting (events w.cells)) 0 w.processor_tables p (processor_tables_at w p) h (get-at no_tables w.processor_tables p lt) k e projection a
    ∙ ap (λ ps. folded_row w.setting k (covered_events (whole_at w.setting k) ps (events w.cells)) (processor_tables_at w p).processor_state a) (sym same))

-- each declared processor has a place
pub place-declared : (w : WorldTables) (p : ℕ) → IsWorld w → p < length w.setting.processors → p < length w.processor_tables
place-declared w p h lt =
    let l : length (map (λ (x : ProcessorTables). x.processor_state) w.processor_tables) ≡ length w.processor_tables = length-map w.processor_tables (λ x. x.processor_state) in
    let d : length (map (λ (x : ProcessorTables). x.processor_state) w.processor_tables) ≡ length w.setting.processors = h.state.declared in omega arith

-- the marks of each processor rise
pub marks-rise : (w : WorldTables) (p : ℕ) → IsWorld w → p < length w.processor_tables → HasMarksInOrder (processor_tables_at w p)
marks-rise w p h lt =
    (AllFrom-get (λ k x. IsProcessorState w.setting w.cells k x) 0 (state_of w).processor_states p (processor_tables_at w p).processor_state h.state.processors
    (get-map w.processor_tables p lt) p (omega arith)).parked.marks
