-- How many items the events of a stream have.
use Rattle.std.proofs.Common.{◌≡◌, ℕ, ◌+◌, ◌-◌, ◌<◌, get_or, take, drop, List, length, map, sym, ap, ◌∙◌, arith}
use Rattle.std.specs.Prelude.{slice_get}
use Rattle.std.proofs.lemmas.List.{length-append}
use Rattle.ax_values.specs.Grammar.{Name}
use Rattle.ax_values.specs.declared.cell.Cell.{Cell}
use Rattle.ax_log.specs.Log.{Stored, stream_of}
use Rattle.ax_upcast.specs.declared.upcaster.Upcaster.{Upcaster}
use Rattle.ax_repo.specs.Snapshots.{items_from, found_items, listed_items}
use Rattle.ax_repo.proofs.Loaded.{listed-later, next-list, rest-slice}

-- one cell more
pub counted_more : (chain : List Upcaster) (cells : List Cell) (indexes : List ℕ) (i sum next total : ℕ) → i < length indexes
    → sum + length (listed_items chain cells (drop i indexes)) ≡ total
    → next ≡ sum + length (found_items chain (slice_get cells (get_or indexes i 0)))
    → next + length (listed_items chain cells (drop (i + 1) indexes)) ≡ total
counted_more chain cells indexes i sum next total l before more =
    let found = found_items chain (slice_get cells (get_or indexes i 0)) in
    let b : length found + length (listed_items chain cells (drop (i + 1) indexes)) ≡ length (listed_items chain cells (drop i indexes)) =
    sym (length-append found (listed_items chain cells (drop (i + 1) indexes))) ∙ ap length (next-list chain cells indexes i l) in
    omega (arith, b, before, more)

-- the cells of a stream from a place on
pub counted_later : (chain : List Upcaster) (a : Name) (cells : List Cell) (indexes : List ℕ) (k n : ℕ) → indexes ≡ map (λ (e : Stored). e.index) (stream_of a cells)
    → n ≡ length (listed_items chain cells (take (length indexes - k) (drop k indexes))) → n ≡ length (items_from chain a cells k)
counted_later chain a cells indexes k n is e =
    e ∙ ap (λ (is : List ℕ). length (listed_items chain cells is)) (rest-slice k indexes) ∙ ap length (listed-later chain a cells indexes k is)
