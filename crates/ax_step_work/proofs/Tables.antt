-- The table of a processor after a commit: each row is the fold of what is covered then, and a new row finds a place.
use Rattle.std.proofs.Common.{◌≡◌, ℕ, suc, ◌*◌, ◌≤◌, Bool, true, false, not, ◌||◌, cond, find, option_map, List, [], ◌∷◌, length, map, filter, flat_map, take, Option, Some, None, Result, Ok, Err, is_some, if◌then◌else◌, refl, sym, ap, ◌∙◌, subst, true≢false, arith}
use Rattle.std.specs.List.{AllByRecursion, IsDistinct, list_any}
use Rattle.std.proofs.lemmas.List.{length-map, length-append, take_all}
use Rattle.std.proofs.lemmas.Map.Keys.{IsDistinct-head, IsDistinct-tail}
use Rattle.ax_values.specs.Grammar.{Name}
use Rattle.ax_values.specs.Words.{same_name}
use Rattle.ax_log.specs.Log.{Stored, events, stream_in, is_of}
use Rattle.ax_rules.specs.Expr.{Row}
use Rattle.ax_rules.specs.Rules.{Rules, and_then, applied, fold_from, start_row, row_or}
use Rattle.ax_upcast.specs.Upcast.{KeepsLimit, upcast, numbered, chained, event_of_record}
use Rattle.ax_projections.specs.Table.{Entry, look_up, put_entry}
use Rattle.ax_projections.specs.Items.{placed, placed_items, plain_items}
use Rattle.ax_projections.specs.Rebuild.{without, or_start}
use Rattle.ax_projections.specs.declared.table.Positioned.{Positioned}
use Rattle.ax_projections.proofs.NameLaws.{name-is, name-sym, name-refl, name-alike, length-without}
use Rattle.ax_projections.proofs.RowLaws.{length_applied}
use Rattle.ax_state.specs.Portions.{Portion, covered_events, items_in, row_by}
use Rattle.ax_state.specs.State.{Batch}
use Rattle.ax_state.proofs.Grow.{events-few}
use Rattle.ax_state.specs.Batches.{is_fetched, fetched_events, batch_items}
use Rattle.ax_step_work.proofs.Folding.{filter-swap, row-now}
use Rattle.ax_values.specs.declared.cell.Cell.{Cell}
use Rattle.ax_values.specs.declared.item.Item.{Item}
use Rattle.ax_rules.specs.declared.cause.Cause.{Cause}
use Rattle.ax_rules.specs.declared.rules.Initial.{Initial}
use Rattle.ax_upcast.specs.declared.upcaster.Upcaster.{Upcaster}
use Rattle.ax_upcast.specs.declared.event.Event.{Event}
use Rattle.ax_laws.proofs.Lists.{length-filter}

-- ---- tables

abbrev pub first_of : Option Positioned → Option Positioned → Option Positioned
first_of None later = later
first_of (Some v) later = Some v

-- the row of an aggregate: the changed one, else the kept one, else the first values
abbrev pub present : Rules → List Entry → List Entry → Name → Positioned
present rules kept changed a = or_start rules (first_of (look_up a changed) (look_up a kept))

pub look-first : (b : Name) (x : Entry) (xs : List Entry) (q : Bool) → same_name b x.name ≡ q → look_up b (x ∷ xs) ≡ (if q then Some x.value else look_up b xs)
look-first b x xs q h = ap (λ c. option_map (λ (e : Entry). e.value) (cond c (Some x) (find (λ (e : Entry). same_name b e.name) xs))) h ∙ at q
  where
    at : (q : Bool) → option_map (λ (e : Entry). e.value) (cond q (Some x) (find (λ (e : Entry). same_name b e.name) xs)) ≡ (if q then Some x.value else look_up b xs)
    at true = refl
    at false = refl

pub look-put : (a b : Name) (v : Positioned) (es : List Entry) → look_up b (put_entry a v es) ≡ (if same_name a b then Some v else look_up b es)
look-put a b v [] = look-first b (record { name = a; value = v }) [] (same_name a b) (name-sym b a)
look-put a b v (e ∷ es) = at (same_name a e.name) refl (same_name b e.name) refl (same_name a b) refl (look-put a b v es)
  where
    at : (p : Bool) → same_name a e.name ≡ p → (q : Bool) → same_name b e.name ≡ q → (r : Bool) → same_name a b ≡ r → look_up b (put_entry a v es) ≡ (if same_name a b then Some v else look_up b es)
        → look_up b (if p then record { name = e.name; value = v } ∷ es else e ∷ put_entry a v es) ≡ (if r then Some v else look_up b (e ∷ es))
    at true hp true hq true hr h = look-first b (record { name = e.name; value = v }) es true hq
    at true hp false hq false hr h = look-first b (record { name = e.name; value = v }) es false hq ∙ sym (look-first b e es false hq)
    at true hp true hq false hr h = absurd (true≢false (sym hq ∙ name-sym b e.name ∙ sym (name-alike a e.name b hp) ∙ hr))
    at true hp false hq true hr h = absurd (true≢false (sym hr ∙ name-alike a e.name b hp ∙ name-sym e.name b ∙ hq))
    at false hp true hq true hr h = absurd (true≢false (sym hq ∙ sym (name-alike a b e.name hr) ∙ hp))
    at false hp true hq false hr h = look-first b e (put_entry a v es) true hq ∙ sym (look-first b e es true hq)
    at false hp false hq true hr h = look-first b e (put_entry a v es) false hq ∙ h ∙ ap (λ c. if c then Some v else look_up b es) hr
    at false hp false hq false hr h = look-first b e (put_entry a v es) false hq ∙ h ∙ ap (λ c. if c then Some v else look_up b es) hr ∙ sym (look-first b e es false hq)

pub length-put : (a : Name) (v : Positioned) (es : List Entry) → length (put_entry a v es) ≤ suc (length es)
length-put a v [] = omega arith
length-put a v (e ∷ es) = at (same_name a e.name) (length-put a v es)
  where
    at : (p : Bool) → length (put_entry a v es) ≤ suc (length es) → length (if p then record { name = e.name; value = v } ∷ es else e ∷ put_entry a v es) ≤ suc (suc (length es))
    at true h = omega arith
    at false h = omega (arith, h)

-- ---- distinct names among others are no more than these

shorter : (n : Name) (ms : List Name) → list_any (same_name n) ms ≡ true → suc (length (without n ms)) ≤ length ms
shorter n [] h = absurd (cc)
shorter n (m ∷ ms) h = at (same_name n m) h (length-without n ms) (shorter n ms)
  where
    at : (b : Bool) → (b || list_any (same_name n) ms) ≡ true → length (without n ms) ≤ length ms → (list_any (same_name n) ms ≡ true → suc (length (without n ms)) ≤ length ms) → suc (length (cond (not b) (m ∷ without n ms) (without n ms))) ≤ suc (length ms)
    at true h le again = omega (arith, le)
    at false h le again = let k : suc (length (without n ms)) ≤ length ms = again h in omega (arith, k)

any-other : (a n : Name) (ms : List Name) → same_name n a ≡ false → list_any (same_name a) ms ≡ true → list_any (same_name a) (without n ms) ≡ true
any-other a n [] h e = absurd (cc)
any-other a n (m ∷ ms) h e = at (same_name n m) refl (same_name a m) refl e (any-other a n ms h)
  where
    at : (b : Bool) → same_name n m ≡ b → (c : Bool) → same_name a m ≡ c → (c || list_any (same_name a) ms) ≡ true → (list_any (same_name a) ms ≡ true → list_any (same_name a) (without n ms) ≡ true) → list_any (same_name a) (cond (not b) (m ∷ without n ms) (without n ms)) ≡ true
    at true p true q e again = absurd (true≢false (sym p ∙ ap (λ x. same_name n x) (sym (name-is a m q)) ∙ h))
    at true p false q e again = again e
    at false p true q e again = ap (λ b. b || list_any (same_name a) (without n ms)) q
    at false p false q e again = ap (λ b. b || list_any (same_name a) (without n ms)) q ∙ again e

others-stay : (n : Name) (ns ms : List Name) → AllByRecursion (λ y. same_name n y ≡ false) ns → AllByRecursion (λ a. list_any (same_name a) ms ≡ true) ns → AllByRecursion (λ a. list_any (same_name a) (without n ms) ≡ true) ns
others-stay n [] ms d h = tt
others-stay n (a ∷ ns) ms d h = (any-other a n ms d.0 h.0, others-stay n ns ms d.1 h.1)

pub no-more : (ns ms : List Name) → IsDistinct same_name ns → AllByRecursion (λ a. list_any (same_name a) ms ≡ true) ns → length ns ≤ length ms
no-more [] ms d h = omega arith
no-more (n ∷ ns) ms d h =
    let k : length ns ≤ length (without n ms) = no-more ns (without n ms) (IsDistinct-tail same_name n ns d) (others-stay n ns ms (IsDistinct-head same_name n ns d) h.1) in
    let l : suc (length (without n ms)) ≤ length ms = shorter n ms h.0 in omega arith

-- ---- a kept row has an event

abbrev names_in : List Stored → List Name
names_in es = map (λ e. e.record_of.aggregate) es

no-stream : (a : Name) (es : List Stored) → list_any (same_name a) (names_in es) ≡ false → stream_in a es ≡ []
no-stream a [] h = refl
no-stream a (e ∷ es) h = at (same_name a e.record_of.aggregate) refl h (no-stream a es)
  where
    at : (b : Bool) → same_name a e.record_of.aggregate ≡ b → (b || list_any (same_name a) (names_in es)) ≡ false → (list_any (same_name a) (names_in es) ≡ false → stream_in a es ≡ []) → stream_in a (e ∷ es) ≡ []
    at true k h again = absurd (true≢false h)
    at false k h again = ap (λ c. cond c (e ∷ stream_in a es) (stream_in a es)) (name-sym e.record_of.aggregate a ∙ k) ∙ again h

pub no-items : (whole : Option Name) (chain : List Upcaster) (ps : List Portion) (a : Name) (es : List Stored) → list_any (same_name a) (names_in es) ≡ false → items_in chain (covered_events whole ps es) a ≡ []
no-items whole chain ps a es h = ap (flat_map (placed_items chain)) (filter-swap (is_of a) _ es ∙ ap (filter _) (no-stream a es h))

has-row : (es : List Entry) (n : Name) (e : Entry) → is_some (look_up n es) ≡ true → is_some (look_up n (e ∷ es)) ≡ true
has-row es n e h = ap is_some (look-first n e es (same_name n e.name) refl) ∙ at (same_name n e.name)
  where
    at : (b : Bool) → is_some (if b then Some e.value else look_up n es) ≡ true
    at true = refl
    at false = h

has-rows : (es : List Entry) (e : Entry) (ns : List Name) → AllByRecursion (λ n. is_some (look_up n es) ≡ true) ns → AllByRecursion (λ n. is_some (look_up n (e ∷ es)) ≡ true) ns
has-rows es e [] h = tt
has-rows es e (n ∷ ns) h = (has-row es n e h.0, has-rows es e ns h.1)

all-rows : (es : List Entry) → AllByRecursion (λ n. is_some (look_up n es) ≡ true) (map (λ e. e.name) es)
all-rows [] = tt
all-rows (e ∷ es) = (ap is_some (look-first e.name e es true (name-refl e.name)), has-rows es e (map (λ e. e.name) es) (all-rows es))

all-named : (P Q : Name → Type 0) → ((a : Name) → P a → Q a) → (ns : List Name) → AllByRecursion P ns → AllByRecursion Q ns
all-named P Q f [] h = tt
all-named P Q f (n ∷ ns) h = (f n h.0, all-named P Q f ns h.1)

-- a table whose rows have events is no longer than the events
pub rows-few : (es : List Stored) (table : List Entry) → IsDistinct same_name (map (λ e. e.name) table) → ((a : Name) → list_any (same_name a) (names_in es) ≡ false → look_up a table ≡ None) → length table ≤ length es
rows-few es table d h =
    let k : length (map (λ (e : Entry). e.name) table) ≤ length (names_in es) = no-more (map (λ e. e.name) table) (names_in es) d
    (all-named (λ n. is_some (look_up n table) ≡ true) (λ n. list_any (same_name n) (names_in es) ≡ true) (λ a some. at a (list_any (same_name a) (names_in es)) refl some) (map (λ e. e.name) table) (all-rows table))
    in
    omega (arith, k, length-map table (λ (e : Entry). e.name), length-map es (λ (e : Stored). e.record_of.aggregate))
  where
    at : (a : Name) (b : Bool) → list_any (same_name a) (names_in es) ≡ b → is_some (look_up a table) ≡ true → list_any (same_name a) (names_in es) ≡ true
    at a true e some = e
    at a false e some = absurd (true≢false (sym some ∙ ap is_some (h a e)))

-- ---- how many items there are

length-numbered : (a : Name) (s k : ℕ) (es : List Event) → length (numbered a s k es) ≡ length es
length-numbered a s k [] = refl
length-numbered a s k (e ∷ es) = ap suc (length-numbered a s (suc k) es)

upcast-few : (chain : List Upcaster) (e : Stored) → KeepsLimit chain → length (placed_items chain e) ≤ 8
upcast-few chain e few =
    let k : length (chained (take (length chain) chain) (event_of_record e.record_of ∷ [])) ≤ 8 = few (event_of_record e.record_of) (length chain) in
    let all : take (length chain) chain ≡ chain = take_all (length chain) chain (omega arith) in
    let l : length (chained (take (length chain) chain) (event_of_record e.record_of ∷ [])) ≡ length (chained chain (event_of_record e.record_of ∷ [])) = ap (λ us. length (chained us (event_of_record e.record_of ∷ []))) all in
    omega (arith, k, l, length-map (upcast chain e.record_of) (placed e.index), length-numbered e.record_of.aggregate e.record_of.seq 0 (chained chain (event_of_record e.record_of ∷ [])))

items-few : (chain : List Upcaster) (es : List Stored) → KeepsLimit chain → length (flat_map (placed_items chain) es) ≤ 8 * length es
items-few chain [] few = omega arith
items-few chain (e ∷ es) few =
    let h : length (flat_map (placed_items chain) es) ≤ 8 * length es = items-few chain es few in
    omega (arith, h, upcast-few chain e few, length-append (placed_items chain e) (flat_map (placed_items chain) es))

pub covered-few : (whole : Option Name) (chain : List Upcaster) (ps : List Portion) (a : Name) (cells : List Cell) → KeepsLimit chain → length cells ≤ 200000 → length (items_in chain (covered_events whole ps (events cells)) a) ≤ 1600000
covered-few whole chain ps a cells few size =
    let k : length (items_in chain (covered_events whole ps (events cells)) a) ≤ 8 * length (stream_in a (covered_events whole ps (events cells))) = items-few chain (stream_in a (covered_events whole ps (events cells))) few in
    let l : length (stream_in a (covered_events whole ps (events cells))) ≤ length (covered_events whole ps (events cells)) = length-filter (is_of a) (covered_events whole ps (events cells)) in
    let m : length (covered_events whole ps (events cells)) ≤ length (events cells) = length-filter _ (events cells) in
    let n : length (events cells) ≤ length cells = events-few 0 cells in
    omega arith

-- the items of a batch
pub batch-few : (whole : Option Name) (chain : List Upcaster) (b : Batch) (cells : List Cell) → KeepsLimit chain → length cells ≤ 200000 → length (batch_items whole chain b (events cells)) ≤ 1600000
batch-few whole chain b cells few size =
    let k : length (batch_items whole chain b (events cells)) ≤ 8 * length (fetched_events whole b (events cells)) = items-few chain (fetched_events whole b (events cells)) few in
    let m : length (fetched_events whole b (events cells)) ≤ length (events cells) = length-filter (is_fetched whole b.segment b.old b.new) (events cells) in
    let n : length (events cells) ≤ length cells = events-few 0 cells in
    omega arith

-- ---- the length of rows

fold-length : (rules : Rules) (xs : List Item) (row made : Row) → fold_from rules xs row ≡ Ok made → length made ≡ length row
fold-length rules [] row made e = let is : row ≡ made = cc in ap length (sym is)
fold-length rules (x ∷ xs) row made e = by (applied rules row x) refl e (λ next k. fold-length rules xs next made k)
  where
    by : (o : Result Row Cause) → applied rules row x ≡ o → and_then o (λ next. fold_from rules xs next) ≡ Ok made → ((next : Row) → fold_from rules xs next ≡ Ok made → length made ≡ length next) → length made ≡ length row
    by (Err c) k e again = absurd (cc)
    by (Ok next) k e again = again next e ∙ ap (λ o. length (row_or row o)) (sym k) ∙ length_applied rules row x

pub folded-length : (rules : Rules) (chain : List Upcaster) (cs : List Stored) (a : Name) → length (row_or (start_row rules.fields) (row_by rules chain cs None [] a)) ≡ length rules.fields
folded-length rules chain cs a = by (row_by rules chain cs None [] a) refl
  where
    start-length : length (start_row rules.fields) ≡ length rules.fields
    start-length = length-map rules.fields (λ (f : Initial). f.value)

    by : (o : Result Row Cause) → row_by rules chain cs None [] a ≡ o → length (row_or (start_row rules.fields) o) ≡ length rules.fields
    by (Err c) e = start-length
    by (Ok made) e = fold-length rules (plain_items (items_in chain cs a)) (start_row rules.fields) made (sym (row-now rules chain cs a) ∙ e) ∙ start-length

-- ---- rows that are put

abbrev pub put_entries : List Entry → List Entry → List Entry
put_entries [] table = table
put_entries (e ∷ es) table = put_entries es (put_entry e.name e.value table)

none-there : (a : Name) (es : List Entry) → AllByRecursion (λ y. same_name a y ≡ false) (map (λ e. e.name) es) → look_up a es ≡ None
none-there a [] h = refl
none-there a (e ∷ es) h = look-first a e es false h.0 ∙ none-there a es h.1

pub look-puts : (a : Name) (es table : List Entry) → IsDistinct same_name (map (λ e. e.name) es) → look_up a (put_entries es table) ≡ first_of (look_up a es) (look_up a table)
look-puts a [] table d = refl
look-puts a (e ∷ es) table d =
    look-puts a es (put_entry e.name e.value table) (IsDistinct-tail same_name e.name (map (λ e. e.name) es) d)
    ∙ ap (first_of (look_up a es)) (look-put e.name a e.value table)
    ∙ at (same_name e.name a) refl
    ∙ ap (λ o. first_of o (look_up a table)) (sym (look-first a e es (same_name e.name a) (name-sym a e.name)))
  where
    at : (c : Bool) → same_name e.name a ≡ c → first_of (look_up a es) (if c then Some e.value else look_up a table) ≡ first_of (if c then Some e.value else look_up a es) (look_up a table)
    at true k = ap (λ o. first_of o (Some e.value)) (none-there a es (subst (λ n. AllByRecursion (λ y. same_name n y ≡ false) (map (λ e. e.name) es)) (name-is e.name a k) (IsDistinct-head same_name e.name (map (λ e. e.name) es) d)))
    at false k = refl
