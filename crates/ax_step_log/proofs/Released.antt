-- Cells of which a reservation is given up.
use Rattle.std.specs.Prelude.{◌≡◌, ℕ, zero, suc, ◌<◌, ◌≤◌, List, [], ◌∷◌, length, Option, Some, None}
use Rattle.std.specs.List.{AllByRecursion}
use Rattle.std.proofs.Common.{refl, ap, inr, arith}
use Rattle.std.proofs.lemmas.Option.{slice_get_within}
use Rattle.ax_log.specs.Order.{IsOrdered, max_cells}
use Rattle.ax_state.specs.State.{State, Reservation, with_cells}
use Rattle.ax_state.specs.WellFormed.{IsWellFormed, reserved_by}
use Rattle.ax_state.proofs.Grow.{Becomes, Grows, becomes-same, grows-same, ordered-grows, kept-grown}
use Rattle.ax_step_log.specs.Logging.{voided, void_from, released}
use Rattle.ax_values.specs.declared.cell.Cell.{Cell}

becomes-voided : (c : Cell) → Becomes c (voided c)
becomes-voided (Cell.Reserved a s w t) = inr refl
becomes-voided Cell.Void = refl
becomes-voided (Cell.Event r) = refl

pub grows-void_from : (i n : ℕ) (cells : List Cell) → Grows cells (void_from i n cells)
grows-void_from i n [] = tt
grows-void_from zero zero (c ∷ cs) = grows-same (c ∷ cs)
grows-void_from zero (suc n) (c ∷ cs) = (becomes-voided c, grows-void_from zero n cs)
grows-void_from (suc i) n (c ∷ cs) = (becomes-same c, grows-void_from i n cs)

pub grows-released : (o : Option Reservation) (cells : List Cell) → Grows cells (released o cells)
grows-released None cells = grows-same cells
grows-released (Some r) cells = grows-void_from r.first (length r.records) cells

length-void_from : (i n : ℕ) (cells : List Cell) → length (void_from i n cells) ≡ length cells
length-void_from i n [] = refl
length-void_from zero zero (c ∷ cs) = refl
length-void_from zero (suc n) (c ∷ cs) = ap suc (length-void_from zero n cs)
length-void_from (suc i) n (c ∷ cs) = ap suc (length-void_from i n cs)

pub length-released : (o : Option Reservation) (cells : List Cell) → length (released o cells) ≡ length cells
length-released None cells = refl
length-released (Some r) cells = length-void_from r.first (length r.records) cells

-- no cell was reserved after the clock
reserved-void_from : (now i n : ℕ) (cells : List Cell) → AllByRecursion (reserved_by now) cells → AllByRecursion (reserved_by now) (void_from i n cells)
reserved-void_from now i n [] h = tt
reserved-void_from now zero zero (c ∷ cs) h = h
reserved-void_from now zero (suc n) (Cell.Reserved a s w t ∷ cs) h = (tt, reserved-void_from now zero n cs h.1)
reserved-void_from now zero (suc n) (Cell.Void ∷ cs) h = (tt, reserved-void_from now zero n cs h.1)
reserved-void_from now zero (suc n) (Cell.Event r ∷ cs) h = (tt, reserved-void_from now zero n cs h.1)
reserved-void_from now (suc i) n (c ∷ cs) h = (h.0, reserved-void_from now i n cs h.1)

pub reserved-released : (now : ℕ) (o : Option Reservation) (cells : List Cell) → AllByRecursion (reserved_by now) cells → AllByRecursion (reserved_by now) (released o cells)
reserved-released now None cells h = h
reserved-released now (Some r) cells h = reserved-void_from now r.first (length r.records) cells h

-- cells made void keep what holds of every state
pub kept-voided : (m : State) (i n : ℕ) → IsWellFormed m → IsWellFormed (with_cells (void_from i n m.cells) m)
kept-voided m i n h = kept-grown m later (grows-void_from i n m.cells) ordered (reserved-void_from m.clock i n m.cells h.clock.reserved) h
  where
    later : List Cell
    later = void_from i n m.cells

    same : length later ≡ length m.cells
    same = length-void_from i n m.cells

    ordered : IsOrdered later
    ordered = ordered-grows m.cells later (grows-void_from i n m.cells) (let l : length later ≡ length m.cells = same in let k : length m.cells ≤ max_cells = h.log.size in omega arith)
        (λ j a s w t e past. absurd (let lt : j < length later = slice_get_within later j (Cell.Reserved a s w t) e in let l : length later ≡ length m.cells = same in omega arith)) h.log
