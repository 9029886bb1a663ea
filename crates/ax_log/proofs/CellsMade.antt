-- The cells after puts one after another.
use Rattle.std.specs.Prelude.{◌≡◌, ℕ, zero, suc, ◌-◌, ◌≤◌, ◌==◌, Bool, true, false, List, [], ◌∷◌, ◌++◌, length, if◌then◌else◌}
use Rattle.std.proofs.Common.{refl, ap, sym, ◌∙◌, arith}
use Rattle.ax_values.specs.declared.cell.Cell.{Cell}
use Rattle.ax_log.specs.Log.{put_at, put_cells}
use Rattle.ax_log.specs.Order.{IsOrdered}
use Rattle.ax_log.specs.Puts.{LogView, HasRoom, CanPutAll, put_all, puts_at, after_put}
use Rattle.ax_log.specs.declared.put.CellPut.{CellPut}
use Rattle.ax_log.proofs.CellPutLaws.{put, put_at-put, grown-put}

put_cells-none : (i : ℕ) (cells : List Cell) → i ≤ length cells → put_cells i [] cells ≡ cells
put_cells-none zero cells h = refl
put_cells-none (suc i) [] h = absurd (omega arith)
put_cells-none (suc i) (c ∷ cs) h = ap (λ xs. c ∷ xs) (put_cells-none i cs (omega arith))

put_cells-more : (cells : List Cell) (i : ℕ) (x : Cell) (new : List Cell) → i ≤ length cells → put_cells (suc i) new (put i x cells) ≡ put_cells i (x ∷ new) cells
put_cells-more [] zero x [] h = refl
put_cells-more [] zero x (y ∷ new) h = refl
put_cells-more (c ∷ cs) zero x new h = refl
put_cells-more [] (suc i) x new h = absurd (omega arith)
put_cells-more (c ∷ cs) (suc i) x new h = ap (λ xs. c ∷ xs) (put_cells-more cs i x new (omega arith))

-- puts at consecutive indexes put the list of their cells
pub put_all-puts_at : (new : List Cell) (i : ℕ) (cells : List Cell) → i ≤ length cells → put_all (puts_at i new) cells ≡ put_cells i new cells
put_all-puts_at [] i cells h = sym (put_cells-none i cells h)
put_all-puts_at (x ∷ new) i cells h =
    ap (put_all (puts_at (suc i) new)) (put_at-put cells i x h) ∙ put_all-puts_at new (suc i) (put i x cells) (grown-put cells i x h) ∙ put_cells-more cells i x new h

-- at the end they come behind the cells
pub put_cells-end : (cells new : List Cell) → put_cells (length cells) new cells ≡ cells ++ new
put_cells-end [] [] = refl
put_cells-end [] (x ∷ new) = refl
put_cells-end (c ∷ cs) new = ap (λ xs. c ∷ xs) (put_cells-end cs new)

pub put_all-append : (ps qs : List CellPut) (cells : List Cell) → put_all (ps ++ qs) cells ≡ put_all qs (put_all ps cells)
put_all-append [] qs cells = refl
put_all-append (p ∷ ps) qs cells = put_all-append ps qs (put_at cells p.index p.cell)

pub CanPutAll-append : (ps qs : List CellPut) (cells : List Cell) → CanPutAll cells ps → CanPutAll (put_all ps cells) qs → CanPutAll cells (ps ++ qs)
CanPutAll-append [] qs cells h j = j
CanPutAll-append (p ∷ ps) qs cells h j = (h.0, CanPutAll-append ps qs (put_at cells p.index p.cell) h.1 j)

-- the order of the log is kept by all of them
pub IsOrdered-put_all : (ps : List CellPut) (cells : List Cell) → CanPutAll cells ps → IsOrdered cells → IsOrdered (put_all ps cells)
IsOrdered-put_all [] cells h o = o
IsOrdered-put_all (p ∷ ps) cells h o = IsOrdered-put_all ps (put_at cells p.index p.cell) h.1 h.0.after

-- once the first is made, there is room for the others
pub room-behind : (log : LogView) (p : CellPut) (ps : List CellPut) → HasRoom log.room (p ∷ ps) → HasRoom (after_put log p).room ps
room-behind log p ps h = record { cells = at (p.index == length log.cells) h.cells; names = h.names.1 }
  where
    at : (b : Bool) → suc (length ps) ≤ log.room.cells → length ps ≤ (if b then log.room.cells - 1 else log.room.cells)
    at true le = omega arith
    at false le = omega arith
