-- The rebuild of cells goes on with the items of one cell more.
use Rattle.std.proofs.Common.{◌≡◌, ◌+◌, ◌*◌, ◌<◌, ◌≤◌, ◌||◌, ℕ, take, get_or, suc, Bool, true, false, cond, List, [], ◌∷◌, ◌++◌, length, map, filter, refl, sym, ap, subst, ◌∙◌, append-nil, arith, length-append}
use Rattle.std.specs.List.{list_any, flat_map}
use Rattle.std.proofs.lemmas.Grind.{flat_map-append}
use Rattle.std.proofs.lemmas.List.{length-map, map-append, take_more}
use Rattle.ax_rules.specs.declared.rules.Initial.{Initial}
use Rattle.std.proofs.lemmas.List.Elements.{filter-append}
use Rattle.ax_values.specs.Grammar.{Name}
use Rattle.ax_values.specs.Words.{same_name}
use Rattle.ax_values.specs.declared.cell.Cell.{Cell}
use Rattle.ax_values.specs.declared.item.Item.{Item}
use Rattle.ax_log.specs.Log.{Stored, events_from, events, is_of}
use Rattle.ax_rules.specs.Rules.{Rules, start_row, lenient_from}
use Rattle.ax_upcast.specs.Upcast.{upcast, numbered, chained, event_of_record}
use Rattle.ax_upcast.specs.declared.event.Event.{Event}
use Rattle.ax_upcast.specs.declared.upcaster.Upcaster.{Upcaster}
use Rattle.ax_projections.specs.Table.{Entry, look_up, put_entry}
use Rattle.ax_projections.specs.Items.{Placed, placed, placed_items, all_items, plain_items, aggregate_of}
use Rattle.ax_projections.specs.Rebuild.{first_names, folded, row_of, rebuilt, or_start, after, added, cell_items, added_cell}
use Rattle.ax_projections.specs.declared.table.Positioned.{Positioned}
use Rattle.ax_projections.proofs.RowLaws.{length-lenient, lenient-append}
use Rattle.ax_projections.proofs.NameLaws.{name-is, name-refl, name-sym, AreAll, firsts-pushed, differ-firsts, any-firsts, length-firsts, row, map-put, found, missing}

-- ---- the items of an aggregate

abbrev pub is_own : Name → Placed → Bool
is_own a x = same_name (aggregate_of x) a

abbrev pub own : Name → List Placed → List Placed
own a xs = filter (is_own a) xs

abbrev pub names : List Placed → List Name
names xs = map aggregate_of xs

abbrev pub AreOf : Name → List Placed → Type 0
AreOf a xs = AreAll a (names xs)

own-all : (a : Name) (xs : List Placed) → AreOf a xs → own a xs ≡ xs
own-all a [] h = refl
own-all a (x ∷ xs) h = ap (λ b. cond b (x ∷ filter (is_own a) xs) (filter (is_own a) xs)) (ap (λ n. same_name n a) h.0 ∙ name-refl a) ∙ ap (λ ys. x ∷ ys) (own-all a xs h.1)

own-none : (a b : Name) (xs : List Placed) → same_name b a ≡ false → AreOf b xs → own a xs ≡ []
own-none a b [] e h = refl
own-none a b (x ∷ xs) e h = ap (λ c. cond c (x ∷ filter (is_own a) xs) (filter (is_own a) xs)) (ap (λ n. same_name n a) h.0 ∙ e) ∙ own-none a b xs e h.1

-- an upcast record keeps its aggregate
are_numbered : (a : Name) (i s p : ℕ) (es : List Event) → AreOf a (map (placed i) (numbered a s p es))
are_numbered a i s p [] = tt
are_numbered a i s p (e ∷ es) = (refl, are_numbered a i s (suc p) es)

are_of : (chain : List Upcaster) (e : Stored) → AreOf e.record_of.aggregate (placed_items chain e)
are_of chain e = are_numbered e.record_of.aggregate e.index e.record_of.seq 0 (chained chain (event_of_record e.record_of ∷ []))

pub items-own : (chain : List Upcaster) (a : Name) (es : List Stored) → flat_map (placed_items chain) (filter (is_of a) es) ≡ own a (flat_map (placed_items chain) es)
items-own chain a [] = refl
items-own chain a (e ∷ es) = at (same_name e.record_of.aggregate a) refl (items-own chain a es) ∙ sym (filter-append (is_own a) (placed_items chain e) (flat_map (placed_items chain) es))
  where
    at : (b : Bool) → same_name e.record_of.aggregate a ≡ b → flat_map (placed_items chain) (filter (is_of a) es) ≡ own a (flat_map (placed_items chain) es)
        → flat_map (placed_items chain) (cond b (e ∷ filter (is_of a) es) (filter (is_of a) es)) ≡ own a (placed_items chain e) ++ own a (flat_map (placed_items chain) es)
    at true k h =
        let same = name-is e.record_of.aggregate a k in
        ap (λ xs. placed_items chain e ++ xs) h ∙ ap (λ xs. xs ++ own a (flat_map (placed_items chain) es)) (sym (own-all a (placed_items chain e) (subst (λ n. AreOf n (placed_items chain e)) same (are_of chain e))))
    at false k h = h ∙ ap (λ xs. xs ++ own a (flat_map (placed_items chain) es)) (sym (own-none a e.record_of.aggregate (placed_items chain e) k (are_of chain e)))

-- ---- rows of a list of items

abbrev pub value : Rules → List Placed → Name → Positioned
value rules xs a = folded rules (own a xs)

abbrev pub rows : Rules → List Placed → List Entry
rows rules xs = map (row (value rules xs)) (first_names (names xs))

map-same : (f g : Name → Entry) (same : (a : Name) → f a ≡ g a) (ks : List Name) → map f ks ≡ map g ks
map-same f g same [] = refl
map-same f g same (k ∷ ks) = ap (λ e. e ∷ map f ks) (same k) ∙ ap (λ es. g k ∷ es) (map-same f g same ks)

rebuilt-rows : (rules : Rules) (chain : List Upcaster) (cells : List Cell) → rebuilt rules chain cells ≡ rows rules (all_items chain cells)
rebuilt-rows rules chain cells =
    map-same (row_of rules chain cells) (row (value rules (all_items chain cells))) (λ a. ap (λ xs. record { name = a; value = folded rules xs }) (items-own chain a (events cells))) (first_names (names (all_items chain cells)))

no_own : (a : Name) (xs : List Placed) → list_any (same_name a) (names xs) ≡ false → own a xs ≡ []
no_own a [] h = refl
no_own a (x ∷ xs) h = at (same_name a (aggregate_of x)) refl h (no_own a xs)
  where
    at : (b : Bool) → same_name a (aggregate_of x) ≡ b → (b || list_any (same_name a) (names xs)) ≡ false → (list_any (same_name a) (names xs) ≡ false → own a xs ≡ []) → own a (x ∷ xs) ≡ []
    at true e k m = cc
    at false e k m = ap (λ c. cond c (x ∷ own a xs) (own a xs)) (name-sym (aggregate_of x) a ∙ e) ∙ m k

-- what a look-up finds, or a start
found-value : (rules : Rules) (a : Name) (xs : List Placed) → or_start rules (look_up a (rows rules xs)) ≡ value rules xs a
found-value rules a xs = at (list_any (same_name a) (first_names (names xs))) refl
  where
    at : (b : Bool) → list_any (same_name a) (first_names (names xs)) ≡ b → or_start rules (look_up a (map (row (value rules xs)) (first_names (names xs)))) ≡ value rules xs a
    at true e = ap (or_start rules) (found (value rules xs) a (first_names (names xs)) e)
    at false e = ap (or_start rules) (missing (value rules xs) a (first_names (names xs)) e) ∙ sym (ap (folded rules) (no_own a xs (sym (any-firsts a (names xs)) ∙ e)))

-- the items of one aggregate more
folded-more : (rules : Rules) (xs new : List Placed) → after rules (plain_items new) (folded rules xs) ≡ folded rules (xs ++ new)
folded-more rules xs new =
    let count : length xs + length (plain_items new) ≡ length (xs ++ new) = omega (arith, length-append xs new, length-map new (λ (x : Placed). x.item)) in
    let first = start_row rules.fields in
    let goes_on : lenient_from rules (plain_items new) (lenient_from rules (plain_items xs) first) ≡ lenient_from rules (plain_items (xs ++ new)) first =
    sym (lenient-append rules (plain_items xs) (plain_items new) first) ∙ ap (λ ys. lenient_from rules ys first) (sym (map-append (λ (x : Placed). x.item) xs new)) in
    ap (λ n. record { position = n; row = lenient_from rules (plain_items new) (lenient_from rules (plain_items xs) first) }) count
    ∙ ap (λ r. record { position = length (xs ++ new); row = r }) goes_on

own-other : (a b : Name) (xs new : List Placed) → AreOf a new → same_name a b ≡ false → own b (xs ++ new) ≡ own b xs
own-other a b xs new h e = filter-append (is_own b) xs new ∙ ap (λ ys. own b xs ++ ys) (own-none b a new e h) ∙ append-nil (own b xs)

own-more : (a : Name) (xs new : List Placed) → AreOf a new → own a (xs ++ new) ≡ own a xs ++ new
own-more a xs new h = filter-append (is_own a) xs new ∙ ap (λ ys. own a xs ++ ys) (own-all a new h)

rows-more : (rules : Rules) (a : Name) (xs new : List Placed) → AreOf a new → added rules a (plain_items new) (rows rules xs) ≡ rows rules (xs ++ new)
rows-more rules a xs [] h = ap (rows rules) (sym (append-nil xs))
rows-more rules a xs (y ∷ new) h =
    ap (λ v. put_entry a (after rules (plain_items (y ∷ new)) v) (rows rules xs)) (found-value rules a xs)
    ∙ ap (λ v. put_entry a v (rows rules xs)) (folded-more rules (own a xs) (y ∷ new) ∙ ap (folded rules) (sym (own-more a xs (y ∷ new) h)))
    ∙ sym (map-put (value rules xs) (value rules (xs ++ y ∷ new)) a (λ b e. ap (folded rules) (own-other a b xs (y ∷ new) h e)) (first_names (names xs)) (differ-firsts (names xs)))
    ∙ ap (map (row (value rules (xs ++ y ∷ new)))) (sym (ap first_names (map-append aggregate_of xs (y ∷ new)) ∙ firsts-pushed (names xs) a (aggregate_of y) (names new) h))

-- ---- one cell more

events-append : (k : ℕ) (xs ys : List Cell) → events_from k (xs ++ ys) ≡ events_from k xs ++ events_from (k + length xs) ys
events-append k [] ys = let e : k ≡ k + 0 = omega arith in ap (λ i. events_from i ys) e
events-append k (Cell.Event r ∷ xs) ys =
    let e : suc k + length xs ≡ k + suc (length xs) = omega arith in
    ap (λ es. record { index = k; record_of = r } ∷ es) (events-append (suc k) xs ys ∙ ap (λ i. events_from (suc k) xs ++ events_from i ys) e)
events-append k (Cell.Reserved a s w t ∷ xs) ys =
    let e : suc k + length xs ≡ k + suc (length xs) = omega arith in
    events-append (suc k) xs ys ∙ ap (λ i. events_from (suc k) xs ++ events_from i ys) e
events-append k (Cell.Void ∷ xs) ys =
    let e : suc k + length xs ≡ k + suc (length xs) = omega arith in
    events-append (suc k) xs ys ∙ ap (λ i. events_from (suc k) xs ++ events_from i ys) e

new_items : List Upcaster → ℕ → Cell → List Placed
new_items chain i c = flat_map (placed_items chain) (events_from i (c ∷ []))

items-append : (chain : List Upcaster) (cells : List Cell) (c : Cell) → all_items chain (cells ++ c ∷ []) ≡ all_items chain cells ++ new_items chain (0 + length cells) c
unfolding new_items
items-append chain cells c =
    ap (flat_map (placed_items chain)) (events-append 0 cells (c ∷ [])) ∙ flat_map-append (placed_items chain) (events cells) (events_from (0 + length cells) (c ∷ []))

pub plain-placed : (i : ℕ) (xs : List Item) → plain_items (map (placed i) xs) ≡ xs
plain-placed i [] = refl
plain-placed i (x ∷ xs) = ap (λ ys. x ∷ ys) (plain-placed i xs)

added-cell : (rules : Rules) (chain : List Upcaster) (xs : List Placed) (i : ℕ) (c : Cell) → added_cell rules chain c (rows rules xs) ≡ rows rules (xs ++ new_items chain i c)
unfolding new_items
added-cell rules chain xs i (Cell.Event r) =
    ap (λ items. added rules r.aggregate items (rows rules xs)) (sym (plain-placed i (upcast chain r)))
    ∙ rows-more rules r.aggregate xs (map (placed i) (upcast chain r)) (are_of chain (record { index = i; record_of = r }))
    ∙ ap (λ ys. rows rules (xs ++ ys)) (sym (append-nil (map (placed i) (upcast chain r))))
added-cell rules chain xs i (Cell.Reserved a s w t) = ap (rows rules) (sym (append-nil xs))
added-cell rules chain xs i Cell.Void = ap (rows rules) (sym (append-nil xs))

count-new : (chain : List Upcaster) (i : ℕ) (c : Cell) → length (new_items chain i c) ≡ length (cell_items chain c)
unfolding new_items
count-new chain i (Cell.Event r) = ap length (append-nil (map (placed i) (upcast chain r))) ∙ length-map (upcast chain r) (placed i)
count-new chain i (Cell.Reserved a s w t) = refl
count-new chain i Cell.Void = refl

pub next_rows : (rules : Rules) (chain : List Upcaster) (cells : List Cell) (i : ℕ) (c : Cell) → i < length cells → c ≡ get_or cells i c
    → added_cell rules chain c (rebuilt rules chain (take i cells)) ≡ rebuilt rules chain (take (i + 1) cells)
next_rows rules chain cells i c l e =
    let front = take i cells in
    let more : take (i + 1) cells ≡ front ++ c ∷ [] = take_more cells i c l ∙ ap (λ d. front ++ d ∷ []) (sym e) in
    ap (added_cell rules chain c) (rebuilt-rows rules chain front)
    ∙ added-cell rules chain (all_items chain front) (0 + length front) c
    ∙ ap (rows rules) (sym (items-append chain front c))
    ∙ sym (rebuilt-rows rules chain (front ++ c ∷ []))
    ∙ ap (rebuilt rules chain) (sym more)

pub next_few : (chain : List Upcaster) (cells : List Cell) (i : ℕ) (c : Cell) → i < length cells → c ≡ get_or cells i c → length (cell_items chain c) ≤ 8
    → length (all_items chain (take i cells)) ≤ 8 * i → length (all_items chain (take (i + 1) cells)) ≤ 8 * (i + 1)
next_few chain cells i c l e few h =
    let front = take i cells in
    let more : take (i + 1) cells ≡ front ++ c ∷ [] = take_more cells i c l ∙ ap (λ d. front ++ d ∷ []) (sym e) in
    let whole : length (all_items chain (take (i + 1) cells)) ≡ length (all_items chain front ++ new_items chain (0 + length front) c) = ap (λ cs. length (all_items chain cs)) more ∙ ap length (items-append chain front c) in
    omega (arith, whole, length-append (all_items chain front) (new_items chain (0 + length front) c), count-new chain (0 + length front) c, few, h)

-- ---- how large all is

length-own : (a : Name) (xs : List Placed) → length (own a xs) ≤ length xs
length-own a [] = omega arith
length-own a (x ∷ xs) = at (is_own a x) (length-own a xs)
  where
    at : (b : Bool) → length (own a xs) ≤ length xs → length (cond b (x ∷ own a xs) (own a xs)) ≤ suc (length xs)
    at true h = omega (arith, h)
    at false h = omega (arith, h)

found-rebuilt : (rules : Rules) (chain : List Upcaster) (cells : List Cell) (a : Name) → or_start rules (look_up a (rebuilt rules chain cells)) ≡ value rules (all_items chain cells) a
found-rebuilt rules chain cells a = ap (λ es. or_start rules (look_up a es)) (rebuilt-rows rules chain cells) ∙ found-value rules a (all_items chain cells)

pub position_few : (rules : Rules) (chain : List Upcaster) (cells : List Cell) (a : Name) → (or_start rules (look_up a (rebuilt rules chain cells))).position ≤ length (all_items chain cells)
position_few rules chain cells a =
    let is = ap (λ (v : Positioned). v.position) (found-rebuilt rules chain cells a) in
    omega (arith, is, length-own a (all_items chain cells))

pub row_fits : (rules : Rules) (chain : List Upcaster) (cells : List Cell) (a : Name) → length (or_start rules (look_up a (rebuilt rules chain cells))).row ≡ length rules.fields
row_fits rules chain cells a =
    ap (λ (v : Positioned). length v.row) (found-rebuilt rules chain cells a)
    ∙ length-lenient rules (plain_items (own a (all_items chain cells))) (start_row rules.fields)
    ∙ length-map rules.fields (λ (f : Initial). f.value)

pub rows_few : (rules : Rules) (chain : List Upcaster) (cells : List Cell) → length (rebuilt rules chain cells) ≤ length (all_items chain cells)
rows_few rules chain cells =
    let xs = all_items chain cells in
    omega (arith, length-map (first_names (names xs)) (row_of rules chain cells), length-firsts (names xs), length-map xs aggregate_of)
