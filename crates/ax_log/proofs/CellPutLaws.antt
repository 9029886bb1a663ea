-- A cell put at the log's end, or over a reserved cell: what is read off the cells afterwards.
use Rattle.std.specs.Prelude.{◌≡◌, ℕ, zero, suc, ◌+◌, ◌<◌, ◌≤◌, ◌==◌, Bool, true, false, IsTrue, List, [], ◌∷◌, ◌++◌, length, filter, take, max, Option, Some, None, slice_get, slice_set, if◌then◌else◌}
use Rattle.std.proofs.Common.{refl, ap, sym, ◌∙◌, ⊎_elim, arith}
use Rattle.std.proofs.lemmas.Bool.Decides.{nat_tests}
use Rattle.std.proofs.lemmas.Option.{slice_get_past}
use borrow.Author.Tests.{eqb-true}
use Rattle.ax_laws.proofs.Lists.{none-left}
use Rattle.ax_values.specs.declared.record.Record.{Record}
use Rattle.ax_values.specs.declared.cell.Cell.{Cell}
use Rattle.ax_log.specs.Log.{Stored, events_from, is_reserved, option_is, put_at, put_cells}
use Rattle.ax_log.specs.Order.{AreNumbered}
use Rattle.ax_log.specs.Puts.{HasPlace}

abbrev pub put : ℕ → Cell → List Cell → List Cell
put i x cells = put_cells i (x ∷ []) cells

-- no cell, or a reserved one
abbrev pub is_open : Option Cell → Bool
is_open None = true
is_open (Some c) = is_reserved c

-- a cell may be put there
pub record IsOpen (cells : List Cell) (i : ℕ) : Type 0 where
  pub free : is_open (slice_get cells i) ≡ true
  pub within : i ≤ length cells

-- ---- places

reserved-open : (cells : List Cell) (i : ℕ) → option_is is_reserved (slice_get cells i) ≡ true → IsOpen cells i
reserved-open [] i e = absurd (cc)
reserved-open (c ∷ cs) zero e = record { free = e; within = omega arith }
reserved-open (c ∷ cs) (suc i) e =
    let rest : IsOpen cs i = reserved-open cs i e in let le : i ≤ length cs = rest.within in record { free = rest.free; within = omega arith }

pub place-open : (cells : List Cell) (i : ℕ) → HasPlace cells i → IsOpen cells i
place-open cells i h =
    ⊎_elim (λ (e : i ≡ length cells). record { free = ap is_open (slice_get_past cells i (omega arith)); within = omega arith })
    (λ (e : IsTrue (option_is is_reserved (slice_get cells i))). reserved-open cells i e) h

pub open-next : (c : Cell) (cs : List Cell) (i : ℕ) → IsOpen (c ∷ cs) (suc i) → IsOpen cs i
open-next c cs i h = let le : suc i ≤ suc (length cs) = h.within in record { free = h.free; within = omega arith }

put-end : (cells : List Cell) (x : Cell) → cells ++ x ∷ [] ≡ put (length cells) x cells
put-end [] x = refl
put-end (c ∷ cs) x = ap (λ xs. c ∷ xs) (put-end cs x)

put-within : (cells : List Cell) (i : ℕ) (x : Cell) → i < length cells → slice_set cells i x ≡ put i x cells
put-within [] i x h = absurd (omega arith)
put-within (c ∷ cs) zero x h = refl
put-within (c ∷ cs) (suc i) x h = ap (λ xs. c ∷ xs) (put-within cs i x (omega arith))

pub put_at-put : (cells : List Cell) (i : ℕ) (x : Cell) → i ≤ length cells → put_at cells i x ≡ put i x cells
put_at-put cells i x h = at (i == length cells) refl
  where
    at : (b : Bool) → (i == length cells) ≡ b → (if b then cells ++ x ∷ [] else slice_set cells i x) ≡ put i x cells
    at true e = put-end cells x ∙ ap (λ (n : ℕ). put n x cells) (sym (eqb-true i (length cells) e))
    at false e = put-within cells i x (grind (arith, nat_tests))

pub length-put : (cells : List Cell) (i : ℕ) (x : Cell) → length (put i x cells) ≤ max (length cells) (suc i)
length-put [] zero x = omega arith
length-put (c ∷ cs) zero x = omega arith
length-put [] (suc i) x = omega arith
length-put (c ∷ cs) (suc i) x = let rest : length (put i x cs) ≤ max (length cs) (suc i) = length-put cs i x in omega arith

pub grown-put : (cells : List Cell) (i : ℕ) (x : Cell) → i ≤ length cells → suc i ≤ length (put i x cells)
grown-put [] zero x h = omega arith
grown-put (c ∷ cs) zero x h = omega arith
grown-put [] (suc i) x h = absurd (omega arith)
grown-put (c ∷ cs) (suc i) x h = let rest : suc i ≤ length (put i x cs) = grown-put cs i x (omega arith) in omega arith

pub get-same : (cells : List Cell) (i : ℕ) (x : Cell) → i ≤ length cells → slice_get (put i x cells) i ≡ Some x
get-same [] zero x h = refl
get-same (c ∷ cs) zero x h = refl
get-same [] (suc i) x h = absurd (omega arith)
get-same (c ∷ cs) (suc i) x h = get-same cs i x (omega arith)

pub get-other : (cells : List Cell) (i j : ℕ) (x : Cell) → (j ≡ i → ⊥) → slice_get (put i x cells) j ≡ slice_get cells j
get-other [] zero zero x apart = absurd (apart refl)
get-other [] zero (suc j) x apart = refl
get-other (c ∷ cs) zero zero x apart = absurd (apart refl)
get-other (c ∷ cs) zero (suc j) x apart = refl
get-other [] (suc i) j x apart = refl
get-other (c ∷ cs) (suc i) zero x apart = refl
get-other (c ∷ cs) (suc i) (suc j) x apart = get-other cs i j x (λ e. apart (ap suc e))

-- ---- fronts

pub take-before : (cells : List Cell) (i j : ℕ) (x : Cell) → j ≤ i → take j (put i x cells) ≡ take j cells
take-before cells i zero x h = refl
take-before cells zero (suc j) x h = absurd (omega arith)
take-before [] (suc i) (suc j) x h = refl
take-before (c ∷ cs) (suc i) (suc j) x h = ap (λ xs. c ∷ xs) (take-before cs i j x (omega arith))

take-none : (j : ℕ) → take {A = Cell} j [] ≡ []
take-none zero = refl
take-none (suc j) = refl

pub take-past : (cells : List Cell) (i j : ℕ) (x : Cell) → i < j → take j (put i x cells) ≡ put i x (take j cells)
take-past cells i zero x h = absurd (omega arith)
take-past [] zero (suc j) x h = ap (λ xs. x ∷ xs) (take-none j)
take-past (c ∷ cs) zero (suc j) x h = refl
take-past [] (suc i) (suc j) x h = refl
take-past (c ∷ cs) (suc i) (suc j) x h = ap (λ xs. c ∷ xs) (take-past cs i j x (omega arith))

pub take-next : (cells : List Cell) (i : ℕ) (x : Cell) → i ≤ length cells → take (suc i) (put i x cells) ≡ put i x (take i cells)
take-next [] zero x h = refl
take-next (c ∷ cs) zero x h = refl
take-next [] (suc i) x h = absurd (omega arith)
take-next (c ∷ cs) (suc i) x h = ap (λ xs. c ∷ xs) (take-next cs i x (omega arith))

pub open-take : (cells : List Cell) (i j : ℕ) → i < j → IsOpen cells i → IsOpen (take j cells) i
open-take cells i zero h o = absurd (omega arith)
open-take [] i (suc j) h o = o
open-take (c ∷ cs) zero (suc j) h o = record { free = o.free; within = omega arith }
open-take (c ∷ cs) (suc i) (suc j) h o =
    let rest : IsOpen (take j cs) i = open-take cs i j (omega arith) (open-next c cs i o) in let le : i ≤ length (take j cs) = rest.within in record { free = rest.free; within = omega arith }

pub open-front : (cells : List Cell) (i : ℕ) → i ≤ length cells → IsOpen (take i cells) i
open-front cells zero h = record { free = refl; within = omega arith }
open-front [] (suc i) h = absurd (omega arith)
open-front (c ∷ cs) (suc i) h =
    let rest : IsOpen (take i cs) i = open-front cs i (omega arith) in let le : i ≤ length (take i cs) = rest.within in record { free = rest.free; within = omega arith }

-- ---- events

-- a test that no event of the cell passes
abbrev pub Misses : (Stored → Bool) → Cell → Type 0
Misses t (Cell.Reserved a s w u) = Unit {0}
Misses t Cell.Void = Unit {0}
Misses t (Cell.Event r) = (j : ℕ) → t (record { index = j; record_of = r }) ≡ false

skip : (t : Stored → Bool) (k : ℕ) (x : Cell) (cs : List Cell) → Misses t x → filter t (events_from k (x ∷ cs)) ≡ filter t (events_from (suc k) cs)
skip t k (Cell.Reserved a s w u) cs m = refl
skip t k Cell.Void cs m = refl
skip t k (Cell.Event r) cs m = rw (m k) refl

-- what passes stays
pub filter-other : (t : Stored → Bool) (cells : List Cell) (k i : ℕ) (x : Cell) → IsOpen cells i → Misses t x → filter t (events_from k (put i x cells)) ≡ filter t (events_from k cells)
filter-other t [] k zero x o m = skip t k x [] m
filter-other t (Cell.Reserved a s w u ∷ cs) k zero x o m = skip t k x cs m
filter-other t (Cell.Void ∷ cs) k zero x o m = absurd (let e : false ≡ true = o.free in cc)
filter-other t (Cell.Event q ∷ cs) k zero x o m = absurd (let e : false ≡ true = o.free in cc)
filter-other t [] k (suc i) x o m = refl
filter-other t (Cell.Reserved a s w u ∷ cs) k (suc i) x o m = filter-other t cs (suc k) i x (open-next (Cell.Reserved a s w u) cs i o) m
filter-other t (Cell.Void ∷ cs) k (suc i) x o m = filter-other t cs (suc k) i x (open-next Cell.Void cs i o) m
filter-other t (Cell.Event q ∷ cs) k (suc i) x o m =
    ap (λ xs. if t (record { index = k; record_of = q }) then record { index = k; record_of = q } ∷ xs else xs) (filter-other t cs (suc k) i x (open-next (Cell.Event q) cs i o) m)

-- one more event passes
pub length-own : (t : Stored → Bool) (cells : List Cell) (k i : ℕ) (r : Record) → IsOpen cells i → ((j : ℕ) → t (record { index = j; record_of = r }) ≡ true)
    → length (filter t (events_from k (put i (Cell.Event r) cells))) ≡ suc (length (filter t (events_from k cells)))
length-own t [] k zero r o own = rw (own k) refl
length-own t (Cell.Reserved a s w u ∷ cs) k zero r o own = rw (own k) refl
length-own t (Cell.Void ∷ cs) k zero r o own = absurd (let e : false ≡ true = o.free in cc)
length-own t (Cell.Event q ∷ cs) k zero r o own = absurd (let e : false ≡ true = o.free in cc)
length-own t [] k (suc i) r o own = absurd (let le : suc i ≤ 0 = o.within in omega arith)
length-own t (Cell.Reserved a s w u ∷ cs) k (suc i) r o own = length-own t cs (suc k) i r (open-next (Cell.Reserved a s w u) cs i o) own
length-own t (Cell.Void ∷ cs) k (suc i) r o own = length-own t cs (suc k) i r (open-next Cell.Void cs i o) own
length-own t (Cell.Event q ∷ cs) k (suc i) r o own = at (t event) (filter t (events_from (suc k) (put i (Cell.Event r) cs))) (filter t (events_from (suc k) cs)) (length-own t cs (suc k) i r (open-next (Cell.Event q) cs i o) own)
  where
    event : Stored
    event = record { index = k; record_of = q }

    at : (b : Bool) (xs ys : List Stored) → length xs ≡ suc (length ys) → length (if b then event ∷ xs else xs) ≡ suc (length (if b then event ∷ ys else ys))
    at true xs ys e = ap suc e
    at false xs ys e = e

-- where all that pass stand before the place, and the event has the next number, all are numbered
pub numbered-own : (t : Stored → Bool) (cells : List Cell) (n k i : ℕ) (r : Record) → IsOpen cells i → ((j : ℕ) → t (record { index = j; record_of = r }) ≡ true)
    → length (filter t (events_from k (take i cells))) ≡ length (filter t (events_from k cells)) → r.seq ≡ n + length (filter t (events_from k cells))
    → AreNumbered n (filter t (events_from k cells)) → AreNumbered n (filter t (events_from k (put i (Cell.Event r) cells)))
numbered-own t [] n k zero r o own last next h = let is : r.seq ≡ n = omega arith in rw (own k) (is, tt)
numbered-own t (Cell.Reserved a s w u ∷ cs) n k zero r o own last next h =
    let none : filter t (events_from (suc k) cs) ≡ [] = none-left (filter t (events_from (suc k) cs)) (sym last) in
    let is : r.seq ≡ n = omega arith in rw (own k, none) (is, tt)
numbered-own t (Cell.Void ∷ cs) n k zero r o own last next h = absurd (let e : false ≡ true = o.free in cc)
numbered-own t (Cell.Event q ∷ cs) n k zero r o own last next h = absurd (let e : false ≡ true = o.free in cc)
numbered-own t [] n k (suc i) r o own last next h = absurd (let le : suc i ≤ 0 = o.within in omega arith)
numbered-own t (Cell.Reserved a s w u ∷ cs) n k (suc i) r o own last next h = numbered-own t cs n (suc k) i r (open-next (Cell.Reserved a s w u) cs i o) own last next h
numbered-own t (Cell.Void ∷ cs) n k (suc i) r o own last next h = numbered-own t cs n (suc k) i r (open-next Cell.Void cs i o) own last next h
numbered-own t (Cell.Event q ∷ cs) n k (suc i) r o own last next h =
    at (t event) (filter t (events_from (suc k) (take i cs))) (filter t (events_from (suc k) cs)) (filter t (events_from (suc k) (put i (Cell.Event r) cs))) last next h
    (λ m l e j. numbered-own t cs m (suc k) i r (open-next (Cell.Event q) cs i o) own l e j)
  where
    event : Stored
    event = record { index = k; record_of = q }

    at : (b : Bool) (front all later : List Stored) → length (if b then event ∷ front else front) ≡ length (if b then event ∷ all else all) → r.seq ≡ n + length (if b then event ∷ all else all)
        → AreNumbered n (if b then event ∷ all else all) → ((m : ℕ) → length front ≡ length all → r.seq ≡ m + length all → AreNumbered m all → AreNumbered m later) → AreNumbered n (if b then event ∷ later else later)
    at true front all later l e j again = (j.0, again (suc n) (omega arith) (omega arith) j.1)
    at false front all later l e j again = again n l e j
