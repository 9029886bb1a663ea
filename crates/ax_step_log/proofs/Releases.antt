-- Puts that make cells void, and then reserve cells at the end.
use Rattle.std.specs.Prelude.{◌≡◌, ℕ, zero, suc, ◌+◌, ◌<◌, ◌≤◌, Bool, true, false, List, [], ◌∷◌, ◌++◌, length, replicate, Option, Some, None, slice_get, if◌then◌else◌}
use Rattle.std.proofs.Common.{refl, ap, sym, ◌∙◌, subst, arith}
use Rattle.ax_values.specs.Grammar.{Name}
use Rattle.ax_log.specs.Log.{Stored, events, stream_in, length_of, is_reserved, option_is, put_at}
use Rattle.ax_log.specs.Order.{IsOrdered, max_cells}
use Rattle.ax_log.specs.Puts.{CanPut, CanPutAll, put_all, puts_at}
use Rattle.ax_log.proofs.CellPutLaws.{put, put_at-put, get-other}
use Rattle.ax_log.proofs.Order.{can_void, can_reserve}
use Rattle.ax_log.proofs.CellsMade.{put_all-puts_at, put_cells-end, put_all-append, CanPutAll-append, IsOrdered-put_all}
use Rattle.ax_state.specs.State.{Reservation}
use Rattle.ax_state.proofs.Grow.{grows-events}
use Rattle.ax_step_log.specs.Logging.{void_from, released}
use Rattle.ax_step_log.specs.SendParts.{void_puts, release_puts, puts_number}
use Rattle.ax_step_log.proofs.Released.{grows-released, length-released}
use Rattle.ax_values.specs.declared.cell.Cell.{Cell}
use Rattle.ax_log.specs.declared.put.CellPut.{CellPut}

-- ---- cells made void

reserved-in : (cells : List Cell) (i : ℕ) → option_is is_reserved (slice_get cells i) ≡ true → i < length cells
reserved-in [] i e = absurd (cc)
reserved-in (c ∷ cs) zero e = omega arith
reserved-in (c ∷ cs) (suc i) e = let ih : i < length cs = reserved-in cs i e in omega arith

put-reserved : (cells : List Cell) (i : ℕ) (x : Cell) → option_is is_reserved (slice_get cells i) ≡ true → put_at cells i x ≡ put i x cells
put-reserved cells i x e = put_at-put cells i x (let lt : i < length cells = reserved-in cells i e in omega arith)

voids-later : (cells : List Cell) (i j n : ℕ) (x : Cell) → i < j → void_puts (put i x cells) j n ≡ void_puts cells j n
voids-later cells i j zero x h = refl
voids-later cells i j (suc n) x h =
    let here : slice_get (put i x cells) j ≡ slice_get cells j = get-other cells i j x (λ e. absurd (omega arith)) in
    let rest : void_puts (put i x cells) (suc j) n ≡ void_puts cells (suc j) n = voids-later cells i (suc j) n x (omega arith) in rw (here, rest) refl

void-none : (i : ℕ) (cells : List Cell) → void_from i zero cells ≡ cells
void-none i [] = refl
void-none zero (c ∷ cs) = refl
void-none (suc i) (c ∷ cs) = ap (λ xs. c ∷ xs) (void-none i cs)

void-hit : (cells : List Cell) (i n : ℕ) → option_is is_reserved (slice_get cells i) ≡ true → void_from (suc i) n (put i Cell.Void cells) ≡ void_from i (suc n) cells
void-hit [] i n e = absurd (cc)
void-hit (Cell.Reserved a s w t ∷ cs) zero n e = refl
void-hit (Cell.Void ∷ cs) zero n e = absurd (cc)
void-hit (Cell.Event r ∷ cs) zero n e = absurd (cc)
void-hit (c ∷ cs) (suc i) n e = ap (λ xs. c ∷ xs) (void-hit cs i n e)

void-miss : (cells : List Cell) (i n : ℕ) → option_is is_reserved (slice_get cells i) ≡ false → void_from (suc i) n cells ≡ void_from i (suc n) cells
void-miss [] i n e = refl
void-miss (Cell.Reserved a s w t ∷ cs) zero n e = absurd (cc)
void-miss (Cell.Void ∷ cs) zero n e = refl
void-miss (Cell.Event r ∷ cs) zero n e = refl
void-miss (c ∷ cs) (suc i) n e = ap (λ xs. c ∷ xs) (void-miss cs i n e)

pub put-voids : (n i : ℕ) (cells : List Cell) → put_all (void_puts cells i n) cells ≡ void_from i n cells
put-voids zero i cells = sym (void-none i cells)
put-voids (suc n) i cells = at (option_is is_reserved (slice_get cells i)) refl (put-voids n (suc i) (put i Cell.Void cells)) (put-voids n (suc i) cells)
  where
    at : (b : Bool) → option_is is_reserved (slice_get cells i) ≡ b
        → put_all (void_puts (put i Cell.Void cells) (suc i) n) (put i Cell.Void cells) ≡ void_from (suc i) n (put i Cell.Void cells)
        → put_all (void_puts cells (suc i) n) cells ≡ void_from (suc i) n cells
        → put_all (if b then record { index = i; cell = Cell.Void } ∷ void_puts cells (suc i) n else void_puts cells (suc i) n) cells ≡ void_from i (suc n) cells
    at true e hit miss =
        ap (put_all (void_puts cells (suc i) n)) (put-reserved cells i Cell.Void e)
        ∙ ap (λ (ps : List CellPut). put_all ps (put i Cell.Void cells)) (sym (voids-later cells i (suc i) n Cell.Void (omega arith))) ∙ hit ∙ void-hit cells i n e
    at false e hit miss = miss ∙ void-miss cells i n e

can-voids : (n i : ℕ) (cells : List Cell) → IsOrdered cells → CanPutAll cells (void_puts cells i n)
can-voids zero i cells h = tt
can-voids (suc n) i cells h = at (option_is is_reserved (slice_get cells i)) refl (λ k. can-voids n (suc i) (put i Cell.Void cells) k) (can-voids n (suc i) cells h)
  where
    at : (b : Bool) → option_is is_reserved (slice_get cells i) ≡ b
        → (IsOrdered (put i Cell.Void cells) → CanPutAll (put i Cell.Void cells) (void_puts (put i Cell.Void cells) (suc i) n))
        → CanPutAll cells (void_puts cells (suc i) n)
        → CanPutAll cells (if b then record { index = i; cell = Cell.Void } ∷ void_puts cells (suc i) n else void_puts cells (suc i) n)
    at true e hit miss =
        let one : CanPut cells (record { index = i; cell = Cell.Void }) = can_void cells i e h in
        let is : put_at cells i Cell.Void ≡ put i Cell.Void cells = put-reserved cells i Cell.Void e in (
          one,
          subst (λ (cs : List Cell). CanPutAll cs (void_puts cells (suc i) n)) (sym is)
              (subst (λ (ps : List CellPut). CanPutAll (put i Cell.Void cells) ps) (voids-later cells i (suc i) n Cell.Void (omega arith)) (hit (subst IsOrdered is one.after))),
        )
    at false e hit miss = miss

-- ---- a reservation given up

pub put-release : (o : Option Reservation) (cells : List Cell) → put_all (release_puts cells o) cells ≡ released o cells
put-release None cells = refl
put-release (Some r) cells = put-voids (length r.records) r.first cells

pub can-release : (o : Option Reservation) (cells : List Cell) → IsOrdered cells → CanPutAll cells (release_puts cells o)
can-release None cells h = tt
can-release (Some r) cells h = can-voids (length r.records) r.first cells h

-- the events stay
pub events-released : (o : Option Reservation) (cells : List Cell) → events (released o cells) ≡ events cells
events-released o cells = grows-events 0 cells (released o cells) (grows-released o cells)

-- ---- and cells reserved at the end

pub put-reserve : (o : Option Reservation) (cells more : List Cell) → put_all (release_puts cells o ++ puts_at (length cells) more) cells ≡ released o cells ++ more
put-reserve o cells more =
    put_all-append (release_puts cells o) (puts_at (length cells) more) cells ∙ ap (put_all (puts_at (length cells) more)) (put-release o cells)
    ∙ ap (λ (n : ℕ). put_all (puts_at n more) (released o cells)) (sym (length-released o cells))
    ∙ put_all-puts_at more (length (released o cells)) (released o cells) (omega arith) ∙ put_cells-end (released o cells) more

pub can-reserve : (o : Option Reservation) (cells : List Cell) (n : ℕ) (a w : Name) (t : ℕ) → length cells + n ≤ max_cells → IsOrdered cells
    → CanPutAll cells (release_puts cells o ++ puts_at (length cells) (replicate n (Cell.Reserved a (length_of a cells) w t)))
can-reserve o cells n a w t room h =
    CanPutAll-append (release_puts cells o) (puts_at (length cells) (replicate n (Cell.Reserved a (length_of a cells) w t))) cells can
    (subst (λ (cs : List Cell). CanPutAll cs (puts_at (length cells) (replicate n (Cell.Reserved a (length_of a cells) w t)))) (sym is)
    (can_reserve n (length cells) a (length_of a cells) w t (released o cells) (sym l) same (let k : length (released o cells) ≡ length cells = l in omega arith) (subst IsOrdered is (IsOrdered-put_all (release_puts cells o) cells can h))))
  where
    can : CanPutAll cells (release_puts cells o)
    can = can-release o cells h

    is : put_all (release_puts cells o) cells ≡ released o cells
    is = put-release o cells

    l : length (released o cells) ≡ length cells
    l = length-released o cells

    same : length_of a cells ≡ length_of a (released o cells)
    same = ap (λ (es : List Stored). length (stream_in a es)) (sym (events-released o cells))

-- the first number is that of each cell
pub first-put : (n i : ℕ) (a : Name) (s : ℕ) (w : Name) (t : ℕ) → 0 < n → puts_number (puts_at i (replicate n (Cell.Reserved a s w t))) ≡ s
first-put zero i a s w t h = absurd (omega arith)
first-put (suc n) i a s w t h = refl
