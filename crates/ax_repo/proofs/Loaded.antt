-- The items of the cells of a stream from an event on, and the fold that goes on with them.
use Rattle.std.proofs.Common.{◌≡◌, ℕ, zero, suc, ◌+◌, ◌-◌, ◌<◌, ◌≤◌, ◌==◌, Bool, true, false, get_or, take, drop, drop-cons, List, [], ◌∷◌, ◌++◌, length, map, Option, Some, None, slice_get, if◌then◌else◌, refl, sym, ap, ap₂, ◌∙◌, subst, arith}
use Rattle.std.specs.Prelude.{IfSome}
use Rattle.std.specs.Borrow.{Bor}
use Rattle.std.specs.Option.{option_copied}
use Rattle.std.specs.List.{AllByRecursion, flat_map}
use Rattle.std.proofs.lemmas.List.{map-append, length-map}
use Rattle.std.proofs.lemmas.Bool.Decides.{nat_tests}
use Rattle.ax_values.specs.Grammar.{Name}
use Rattle.ax_log.specs.Log.{Stored, stream_of}
use Rattle.ax_log.proofs.Events.{stream_cell}
use Rattle.ax_rules.specs.Expr.{Row}
use Rattle.ax_rules.specs.Rules.{Rules, start_row, lenient, lenient_from}
use Rattle.ax_upcast.specs.Upcast.{upcast}
use Rattle.ax_projections.specs.Items.{Placed, placed, placed_items, plain_items}
use Rattle.ax_projections.proofs.RowLaws.{lenient-append, length-lenient}
use Rattle.ax_projections.proofs.RebuildLaws.{plain-placed}
use Rattle.ax_repo.specs.Snapshots.{items_in, items_from, state_of, state_after, saved, begun_row, found_items, listed_items, IsSnapshotOf}
use Rattle.ax_repo.specs.declared.snapshot.Snapshot.{Snapshot}
use Rattle.ax_values.specs.declared.cell.Cell.{Cell}
use Rattle.ax_values.specs.declared.item.Item.{Item}
use Rattle.ax_upcast.specs.declared.upcaster.Upcaster.{Upcaster}

-- the event is that of the cell at its index
abbrev pub StandsIn : List Cell → Stored → Type 0
StandsIn cells e = slice_get cells e.index ≡ Some (Cell.Event e.record_of)

all-stand : (cells : List Cell) (es : List Stored) → ((k : ℕ) (e : Stored) → slice_get es k ≡ Some e → StandsIn cells e) → AllByRecursion (StandsIn cells) es
all-stand cells [] h = tt
all-stand cells (e ∷ es) h = (h 0 e refl, all-stand cells es (λ k x g. h (suc k) x g))

rest-stands : (cells : List Cell) (k : ℕ) (es : List Stored) → AllByRecursion (StandsIn cells) es → AllByRecursion (StandsIn cells) (drop k es)
rest-stands cells zero es h = h
rest-stands cells (suc k) [] h = tt
rest-stands cells (suc k) (e ∷ es) h = rest-stands cells k es h.1

listed : (chain : List Upcaster) (cells : List Cell) (es : List Stored) → AllByRecursion (StandsIn cells) es → listed_items chain cells (map (λ e. e.index) es) ≡ items_in chain es
listed chain cells [] h = refl
listed chain cells (e ∷ es) h =
    ap₂ (λ (xs ys : List Item). xs ++ ys) (ap (found_items chain) h.0 ∙ sym (plain-placed e.index (upcast chain e.record_of))) (listed chain cells es h.1)
    ∙ sym (map-append (λ (x : Placed). x.item) (map (placed e.index) (upcast chain e.record_of)) (flat_map (placed_items chain) es))

drop-map : {A B : Type 0} (f : A → B) (k : ℕ) (xs : List A) → drop k (map f xs) ≡ map f (drop k xs)
drop-map f zero xs = refl
drop-map f (suc k) [] = refl
drop-map f (suc k) (x ∷ xs) = drop-map f k xs

-- the items of the later cells of a stream
pub listed-later : (chain : List Upcaster) (a : Name) (cells : List Cell) (indexes : List ℕ) (k : ℕ) → indexes ≡ map (λ (e : Stored). e.index) (stream_of a cells) → listed_items chain cells (drop k indexes) ≡ items_from chain a cells k
listed-later chain a cells indexes k is =
    ap (λ is. listed_items chain cells (drop k is)) is ∙ ap (listed_items chain cells) (drop-map (λ (e : Stored). e.index) k (stream_of a cells))
    ∙ listed chain cells (drop k (stream_of a cells)) (rest-stands cells k (stream_of a cells) (all-stand cells (stream_of a cells) (stream_cell a cells)))

items-append : (chain : List Upcaster) (es fs : List Stored) → items_in chain (es ++ fs) ≡ items_in chain es ++ items_in chain fs
items-append chain [] fs = refl
items-append chain (e ∷ es) fs =
    map-append (λ (x : Placed). x.item) (placed_items chain e) (flat_map (placed_items chain) (es ++ fs))
    ∙ ap (λ xs. plain_items (placed_items chain e) ++ xs) (items-append chain es fs)
    ∙ sym (app-assoc (plain_items (placed_items chain e)) (items_in chain es) (items_in chain fs))
    ∙ ap (λ xs. xs ++ items_in chain fs) (sym (map-append (λ (x : Placed). x.item) (placed_items chain e) (flat_map (placed_items chain) es)))
  where
    app-assoc : {A : Type 0} (xs ys zs : List A) → (xs ++ ys) ++ zs ≡ xs ++ (ys ++ zs)
    app-assoc [] ys zs = refl
    app-assoc (x ∷ xs) ys zs = ap (λ r. x ∷ r) (app-assoc xs ys zs)

parts : {A : Type 0} (k : ℕ) (xs : List A) → take k xs ++ drop k xs ≡ xs
parts zero xs = refl
parts (suc k) [] = refl
parts (suc k) (x ∷ xs) = ap (λ ys. x ∷ ys) (parts k xs)

-- the later items lead from the state after the first events to that of all
pub goes-on : (rules : Rules) (chain : List Upcaster) (a : Name) (cells : List Cell) (k : ℕ) → lenient_from rules (items_from chain a cells k) (state_after rules chain a cells k) ≡ state_of rules chain a cells
goes-on rules chain a cells k =
    sym (lenient-append rules (items_in chain (take k (stream_of a cells))) (items_from chain a cells k) (start_row rules.fields))
    ∙ ap (lenient rules) (sym (items-append chain (take k (stream_of a cells)) (drop k (stream_of a cells))) ∙ ap (items_in chain) (parts k (stream_of a cells)))

-- where a load begins, the state is that after the events that the snapshot saves
pub record Begins (rules : Rules) (chain : List Upcaster) (a : Name) (cells : List Cell) (revision : ℕ) (o : Option Snapshot) : Type 0 where
  pub row : begun_row rules revision o ≡ state_after rules chain a cells (saved revision o)
  pub within : saved revision o ≤ length (stream_of a cells)

pub begins : (rules : Rules) (chain : List Upcaster) (a : Name) (cells : List Cell) (revision : ℕ) (o : Option Snapshot) → IfSome o (λ s. s.revision ≡ revision → IsSnapshotOf rules chain a cells s) → Begins rules chain a cells revision o
begins rules chain a cells revision None h = record { row = refl; within = omega arith }
begins rules chain a cells revision (Some s) h = at (s.revision == revision) refl
  where
    at : (b : Bool) → (s.revision == revision) ≡ b → Begins rules chain a cells revision (Some s)
    at true e =
        let is : s.revision ≡ revision = grind (arith, nat_tests, e) in
        record {
          row = ap (λ b. if b then s.state else start_row rules.fields) e ∙ (h is).state ∙ ap (state_after rules chain a cells) (sym (ap (λ b. if b then s.events else 0) e));
          within = subst (λ n. n ≤ length (stream_of a cells)) (sym (ap (λ b. if b then s.events else 0) e)) (h is).events;
        }
    at false e = record {
      row = ap (λ b. if b then s.state else start_row rules.fields) e ∙ ap (state_after rules chain a cells) (sym (ap (λ b. if b then s.events else 0) e));
      within = subst (λ n. n ≤ length (stream_of a cells)) (sym (ap (λ b. if b then s.events else 0) e)) (omega arith);
    }

-- ---- one cell more

pub next-list : (chain : List Upcaster) (cells : List Cell) (indexes : List ℕ) (k : ℕ) → k < length indexes
    → found_items chain (slice_get cells (get_or indexes k 0)) ++ listed_items chain cells (drop (k + 1) indexes) ≡ listed_items chain cells (drop k indexes)
next-list chain cells indexes k l =
    let next : k + 1 ≡ suc k = omega arith in
    ap (λ (n : ℕ). found_items chain (slice_get cells (get_or indexes k 0)) ++ listed_items chain cells (drop n indexes)) next
    ∙ ap (listed_items chain cells) (sym (drop-cons indexes k 0 l))

pub next-cell : (rules : Rules) (chain : List Upcaster) (cells : List Cell) (indexes : List ℕ) (k : ℕ) (row : Row) → k < length indexes
    → lenient_from rules (listed_items chain cells (drop (k + 1) indexes)) (lenient_from rules (found_items chain (slice_get cells (get_or indexes k 0))) row) ≡ lenient_from rules (listed_items chain cells (drop k indexes)) row
next-cell rules chain cells indexes k row l =
    sym (lenient-append rules (found_items chain (slice_get cells (get_or indexes k 0))) (listed_items chain cells (drop (k + 1) indexes)) row)
    ∙ ap (λ (is : List Item). lenient_from rules is row) (next-list chain cells indexes k l)

-- the state from which a load goes on has a number for each field
pub begun-fields : (rules : Rules) (chain : List Upcaster) (a : Name) (cells : List Cell) (revision : ℕ) (o : Option Snapshot) → IfSome o (λ s. s.revision ≡ revision → IsSnapshotOf rules chain a cells s) → length (begun_row rules revision o) ≡ length rules.fields
begun-fields rules chain a cells revision o h =
    ap length (begins rules chain a cells revision o h).row
    ∙ length-lenient rules (items_in chain (take (saved revision o) (stream_of a cells))) (start_row rules.fields)
    ∙ length-map rules.fields (λ f. f.value)

-- the fold of the later items is the state
pub loaded : (rules : Rules) (chain : List Upcaster) (a : Name) (cells : List Cell) (revision : ℕ) (o : Option Snapshot) (indexes : List ℕ) → IfSome o (λ s. s.revision ≡ revision → IsSnapshotOf rules chain a cells s)
    → indexes ≡ map (λ (e : Stored). e.index) (stream_of a cells)
    → lenient_from rules (listed_items chain cells (drop (saved revision o) indexes)) (begun_row rules revision o) ≡ state_of rules chain a cells
loaded rules chain a cells revision o indexes h is =
    ap (λ xs. lenient_from rules xs (begun_row rules revision o)) (listed-later chain a cells indexes (saved revision o) is)
    ∙ ap (lenient_from rules (items_from chain a cells (saved revision o))) (begins rules chain a cells revision o h).row
    ∙ goes-on rules chain a cells (saved revision o)

-- ---- as the code has it

pub of-copied : {A : Type 0} (P : A → Type 0) (o : Option (Bor A)) → IfSome o (λ s. P s.now) → IfSome (option_copied o) P
of-copied P None h = tt
of-copied P (Some s) h = h

none : {A : Type 0} (n : ℕ) → take {A = A} n [] ≡ []
none zero = refl
none (suc n) = refl

-- a slice from a place on
pub rest-slice : {A : Type 0} (k : ℕ) (xs : List A) → take (length xs - k) (drop k xs) ≡ drop k xs
rest-slice zero xs = let e : length xs - 0 ≡ length xs = omega arith in ap (λ n. take n xs) e ∙ all xs
  where
    all : {A : Type 0} (xs : List A) → take (length xs) xs ≡ xs
    all [] = refl
    all (x ∷ xs) = ap (λ ys. x ∷ ys) (all xs)
rest-slice (suc k) [] = none (0 - suc k)
rest-slice (suc k) (x ∷ xs) = let e : length (x ∷ xs) - suc k ≡ length xs - k = omega arith in ap (λ n. take n (drop k xs)) e ∙ rest-slice k xs
