-- The items of the cells of a stream, and the fold that goes on with those of one cell more.
use Rattle.std.proofs.Common.{◌≡◌, ℕ, suc, ◌+◌, ◌<◌, get_or, drop, drop-cons, List, [], ◌∷◌, ◌++◌, length, map, Some, slice_get, refl, sym, ap, ap₂, ◌∙◌, arith}
use Rattle.std.specs.List.{AllByRecursion, flat_map}
use Rattle.std.proofs.lemmas.List.{map-append}
use Rattle.ax_values.specs.Grammar.{Name}
use Rattle.ax_log.specs.Log.{Stored, stream_of}
use Rattle.ax_log.proofs.Events.{stream_cell}
use Rattle.ax_rules.specs.Expr.{Row}
use Rattle.ax_rules.specs.Rules.{Rules, start_row, lenient, lenient_from}
use Rattle.ax_upcast.specs.Upcast.{upcast}
use Rattle.ax_projections.specs.Items.{Placed, placed, placed_items, items_of, plain_items}
use Rattle.ax_projections.proofs.RowLaws.{lenient-append}
use Rattle.ax_step_log.specs.SendParts.{found_items, listed_items}
use Rattle.ax_values.specs.declared.cell.Cell.{Cell}
use Rattle.ax_values.specs.declared.item.Item.{Item}
use Rattle.ax_upcast.specs.declared.upcaster.Upcaster.{Upcaster}
use Rattle.ax_projections.proofs.RebuildLaws.{plain-placed}

-- the event is that of the cell at its index
abbrev pub StandsIn : List Cell → Stored → Type 0
StandsIn cells e = slice_get cells e.index ≡ Some (Cell.Event e.record_of)

all-stand : (cells : List Cell) (es : List Stored) → ((k : ℕ) (e : Stored) → slice_get es k ≡ Some e → StandsIn cells e) → AllByRecursion (StandsIn cells) es
all-stand cells [] h = tt
all-stand cells (e ∷ es) h = (h 0 e refl, all-stand cells es (λ k x g. h (suc k) x g))

listed : (chain : List Upcaster) (cells : List Cell) (es : List Stored) → AllByRecursion (StandsIn cells) es → listed_items chain cells (map (λ e. e.index) es) ≡ plain_items (flat_map (placed_items chain) es)
listed chain cells [] h = refl
listed chain cells (e ∷ es) h =
    ap₂ (λ (xs ys : List Item). xs ++ ys) (ap (found_items chain) h.0 ∙ sym (plain-placed e.index (upcast chain e.record_of))) (listed chain cells es h.1)
    ∙ sym (map-append (λ (x : Placed). x.item) (map (placed e.index) (upcast chain e.record_of)) (flat_map (placed_items chain) es))

-- the row of all items
pub whole_row : (rules : Rules) (chain : List Upcaster) (a : Name) (cells : List Cell) (indexes : List ℕ) (first row : Row) → indexes ≡ map (λ (e : Stored). e.index) (stream_of a cells) → first ≡ start_row rules.fields
    → row ≡ lenient_from rules (listed_items chain cells indexes) first → row ≡ lenient rules (plain_items (items_of chain a cells))
whole_row rules chain a cells indexes first row is start h =
    h
    ∙ ap (λ (is : List ℕ). lenient_from rules (listed_items chain cells is) first) is
    ∙ ap (λ (xs : List Item). lenient_from rules xs first) (listed chain cells (stream_of a cells) (all-stand cells (stream_of a cells) (stream_cell a cells)))
    ∙ ap (lenient_from rules (plain_items (items_of chain a cells))) start

pub next-cell : (rules : Rules) (chain : List Upcaster) (cells : List Cell) (indexes : List ℕ) (k : ℕ) (row : Row) → k < length indexes
    → lenient_from rules (listed_items chain cells (drop (k + 1) indexes)) (lenient_from rules (found_items chain (slice_get cells (get_or indexes k 0))) row) ≡ lenient_from rules (listed_items chain cells (drop k indexes)) row
next-cell rules chain cells indexes k row l =
    let next : k + 1 ≡ suc k = omega arith in
    sym (lenient-append rules (found_items chain (slice_get cells (get_or indexes k 0))) (listed_items chain cells (drop (k + 1) indexes)) row)
    ∙ ap (λ (n : ℕ). lenient_from rules (found_items chain (slice_get cells (get_or indexes k 0)) ++ listed_items chain cells (drop n indexes)) row) next
    ∙ ap (λ (is : List ℕ). lenient_from rules (listed_items chain cells is) row) (sym (drop-cons indexes k 0 l))
