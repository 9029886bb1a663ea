-- Records put where an append puts them keep the order of the log.
use Rattle.std.specs.Prelude.{◌≡◌, ℕ, zero, suc, ◌+◌, ◌<◌, ◌≤◌, Bool, true, false, List, [], ◌∷◌, map, length, take, drop, Option, Some, None, slice_get, if◌then◌else◌}
use Rattle.std.proofs.Common.{refl, ap, sym, ◌∙◌, subst, inl, inr, ⊎_elim, arith}
use Rattle.std.proofs.lemmas.List.{take_all}
use Rattle.std.proofs.lemmas.Option.{slice_get_within, slice_get_past}
use Rattle.ax_values.specs.Grammar.{Name}
use Rattle.ax_values.specs.declared.record.Record.{Record}
use Rattle.ax_values.specs.declared.cell.Cell.{Cell}
use Rattle.ax_log.specs.Log.{length_of, is_void, is_reserved, option_is}
use Rattle.ax_log.specs.Order.{IsReservedRight, IsOrdered, max_cells, has_few_fields}
use Rattle.std.specs.Prelude.{◌&&◌}
use Rattle.std.specs.List.{list_all}
use Rattle.ax_log.specs.Puts.{HasPlace, CanPutAll, puts_at}
use Rattle.ax_log.specs.Answers.{AreOf, aggregate_of, number_of, IsKeptFor, TakesKept, TakesEnd, HasCells, first_void, GoesOn}
use Rattle.ax_log.proofs.CellPutLaws.{put, IsOpen, is_open, grown-put, get-other, take-next, open-front}
use Rattle.ax_log.proofs.Order.{IsNext, length-next, ordered-event, can-more}

-- what an append fills
pub record IsFill (a : Name) (n i : ℕ) (rs : List Record) (cells : List Cell) : Type 0 where
  pub numbered : AreOf a n rs
  pub next : n ≡ length_of a cells
  pub free : (k : ℕ) → k < length rs → is_open (slice_get cells (i + k)) ≡ true
  pub within : i ≤ length cells
  pub last : length_of a (take i cells) ≡ length_of a cells
  pub room : i + length rs ≤ max_cells
  pub few : list_all has_few_fields rs ≡ true

first-few : (b c : Bool) → (b && c) ≡ true → (b ≡ true) × (c ≡ true)
first-few true c h = (refl, h)
first-few false c h = absurd (cc)

past-end : (cells : List Cell) (i : ℕ) → slice_get cells i ≡ None → length cells ≤ i
past-end [] i e = omega arith
past-end (c ∷ cs) zero e = absurd (cc)
past-end (c ∷ cs) (suc i) e = let rest : length cs ≤ i = past-end cs i e in omega arith

open-place : (cells : List Cell) (i : ℕ) → IsOpen cells i → HasPlace cells i
open-place cells i o = at (slice_get cells i) refl o.free
  where
    at : (c : Option Cell) → slice_get cells i ≡ c → is_open c ≡ true → HasPlace cells i
    at None e h = let past : length cells ≤ i = past-end cells i e in let le : i ≤ length cells = o.within in inl (omega arith)
    at (Some c) e h = inr (ap (option_is is_reserved) e ∙ h)

can-fill : (rs : List Record) (a : Name) (n i : ℕ) (cells : List Cell) → IsFill a n i rs cells → IsOrdered cells → CanPutAll cells (puts_at i (map Cell.Event rs))
can-fill [] a n i cells f h = tt
can-fill (r ∷ rs) a n i cells f h = can-more cells i (Cell.Event r) (puts_at (suc i) (map Cell.Event rs)) (open-place cells i o) ordered (can-fill rs a (suc n) (suc i) later rest ordered)
  where
    later : List Cell
    later = put i (Cell.Event r) cells

    own : r.aggregate ≡ a
    own = f.numbered.0

    o : IsOpen cells i
    o = let z : i + 0 ≡ i = omega arith in record { free = subst (λ (j : ℕ). is_open (slice_get cells j) ≡ true) z (f.free 0 (omega arith)); within = f.within }

    next : IsNext cells i r
    next = record {
      free = o;
      last = subst (λ (x : Name). length_of x (take i cells) ≡ length_of x cells) (sym own) f.last;
      seq_is = f.numbered.1 ∙ f.next ∙ ap (λ (x : Name). length_of x cells) (sym own);
      few = (first-few (has_few_fields r) (list_all has_few_fields rs) f.few).0;
    }

    below : i < max_cells
    below = let room : i + suc (length rs) ≤ max_cells = f.room in omega arith

    ordered : IsOrdered later
    ordered = ordered-event cells i r next below h

    more : length_of a later ≡ suc (length_of a cells)
    more = subst (λ (x : Name). length_of x later ≡ suc (length_of x cells)) own (length-next cells i r o)

    front : length_of a (take (suc i) later) ≡ suc (length_of a (take i cells))
    front = ap (λ (cs : List Cell). length_of a cs) (take-next cells i (Cell.Event r) f.within) ∙ subst (λ (x : Name). length_of x (put i (Cell.Event r) (take i cells)) ≡ suc (length_of x (take i cells))) own (length-next (take i cells) i r (open-front cells i f.within))

    rest : IsFill a (suc n) (suc i) rs later
    rest = record {
      numbered = f.numbered.2;
      next = ap suc f.next ∙ sym more;
      free = λ k lt. let at : suc i + k ≡ i + suc k = omega arith in ap is_open (get-other cells i (suc i + k) (Cell.Event r) (λ e. absurd (omega arith))) ∙ subst (λ (j : ℕ). is_open (slice_get cells j) ≡ true) (sym at) (f.free (suc k) (omega arith));
      within = grown-put cells i (Cell.Event r) f.within;
      last = front ∙ ap suc f.last ∙ sym more;
      room = (let room : i + suc (length rs) ≤ max_cells = f.room in omega arith);
      few = (first-few (has_few_fields r) (list_all has_few_fields rs) f.few).1;
    }

-- ---- the cells of an append

get-range : (cells : List Cell) (f n k : ℕ) → k < n → slice_get (take n (drop f cells)) k ≡ slice_get cells (f + k)
get-range [] zero (suc n) k lt = refl
get-range [] (suc f) (suc n) k lt = refl
get-range cells f zero k lt = absurd (omega arith)
get-range (c ∷ cs) zero (suc n) zero lt = refl
get-range (c ∷ cs) zero (suc n) (suc k) lt = get-range cs zero n k (omega arith) ∙ (let at : suc (0 + k) ≡ 0 + suc k = omega arith in ap (slice_get (c ∷ cs)) at)
get-range (c ∷ cs) (suc f) (suc n) k lt = get-range cs f (suc n) k lt ∙ (let at : suc (f + k) ≡ suc f + k = omega arith in ap (slice_get (c ∷ cs)) at)

no-void : (i : ℕ) (xs : List Cell) (k : ℕ) (c : Cell) → first_void i xs ≡ None → slice_get xs k ≡ Some c → is_void c ≡ false
no-void i [] k c e h = absurd (cc)
no-void i (x ∷ xs) k c e h = at (is_void x) refl e k h (λ j e' h'. no-void (suc i) xs j c e' h')
  where
    at : (b : Bool) → is_void x ≡ b → (if b then Some i else first_void (suc i) xs) ≡ None → (j : ℕ) → slice_get (x ∷ xs) j ≡ Some c → ((l : ℕ) → first_void (suc i) xs ≡ None → slice_get xs l ≡ Some c → is_void c ≡ false) → is_void c ≡ false
    at true v e j h again = absurd (cc)
    at false v e zero h again = let is : x ≡ c = cc in subst (λ (y : Cell). is_void y ≡ false) is v
    at false v e (suc j) h again = again j e h

kept-reserved : (a : Name) (s : ℕ) (o : Option Cell) → IsKeptFor a s o → ((c : Cell) → o ≡ Some c → is_void c ≡ false) → (w : Name) × (t : ℕ) × (o ≡ Some (Cell.Reserved a s w t))
kept-reserved a s None h f = absurd h
kept-reserved a s (Some Cell.Void) h f = absurd (let k : is_void Cell.Void ≡ false = f Cell.Void refl in cc)
kept-reserved a s (Some (Cell.Event r)) h f = absurd h
kept-reserved a s (Some (Cell.Reserved b u w t)) h f = (w, t, (let x : b ≡ a = h.0 in let y : u ≡ s = h.1 in rw (x, y) refl))

fill-kept : (cells : List Cell) (first : ℕ) (rs : List Record) → list_all has_few_fields rs ≡ true → 0 < length rs → TakesKept cells first rs → GoesOn cells first rs → IsOrdered cells → IsFill (aggregate_of rs) (number_of rs) first rs cells
fill-kept cells first rs few some p g h = record {
  numbered = p.numbered;
  next = sym g.next;
  free = λ k lt. ap is_open (cell k lt).2;
  within = (let lt : first + 0 < length cells = slice_get_within cells (first + 0) (Cell.Reserved (aggregate_of rs) (number_of rs) (cell 0 some).0 (cell 0 some).1) (cell 0 some).2 in omega arith);
  last = right.before (sym g.next);
  room = g.room;
  few = few;
}
  where
    cell : (k : ℕ) → k < length rs → (w : Name) × (t : ℕ) × (slice_get cells (first + k) ≡ Some (Cell.Reserved (aggregate_of rs) (number_of rs) w t))
    cell k lt = kept-reserved (aggregate_of rs) (number_of rs) (slice_get cells (first + k)) (p.kept k lt)
        (λ c e. no-void first (take (length rs) (drop first cells)) k c g.clear (get-range cells first (length rs) k lt ∙ e))

    right : IsReservedRight cells first (aggregate_of rs) (number_of rs)
    right = let z : first + 0 ≡ first = omega arith in subst (λ (j : ℕ). IsReservedRight cells j (aggregate_of rs) (number_of rs)) z
        (h.reserved (first + 0) (aggregate_of rs) (number_of rs) (cell 0 some).0 (cell 0 some).1 (cell 0 some).2)

fill-end : (cells : List Cell) (first : ℕ) (rs : List Record) → list_all has_few_fields rs ≡ true → TakesEnd cells first rs → GoesOn cells first rs → IsFill (aggregate_of rs) (length_of (aggregate_of rs) cells) first rs cells
fill-end cells first rs few p g =
    let e : first ≡ length cells = p.end in
    record {
      numbered = p.numbered;
      next = refl;
      free = λ k lt. ap is_open (slice_get_past cells (first + k) (omega arith));
      within = omega arith;
      last = ap (λ (cs : List Cell). length_of (aggregate_of rs) cs) (take_all first cells (omega arith));
      room = g.room;
      few = few;
    }

-- the records of an append that goes on with the stream may be put
pub can_append : (cells : List Cell) (first : ℕ) (rs : List Record) → list_all has_few_fields rs ≡ true → 0 < length rs → HasCells cells first rs → GoesOn cells first rs → IsOrdered cells → CanPutAll cells (puts_at first (map Cell.Event rs))
can_append cells first rs few some place g h =
    ⊎_elim (λ (p : TakesKept cells first rs). can-fill rs (aggregate_of rs) (number_of rs) first cells (fill-kept cells first rs few some p g h) h)
    (λ (p : TakesEnd cells first rs). can-fill rs (aggregate_of rs) (length_of (aggregate_of rs) cells) first cells (fill-end cells first rs few p g) h) place

pub first_within : (cells : List Cell) (first : ℕ) (rs : List Record) → 0 < length rs → HasCells cells first rs → first ≤ length cells
first_within cells first rs some place =
    ⊎_elim (λ (p : TakesKept cells first rs). kept-within (slice_get cells (first + 0)) refl (p.kept 0 some)) (λ (p : TakesEnd cells first rs). let e : first ≡ length cells = p.end in omega arith) place
  where
    kept-within : (o : Option Cell) → slice_get cells (first + 0) ≡ o → IsKeptFor (aggregate_of rs) (number_of rs) o → first ≤ length cells
    kept-within None e h = absurd h
    kept-within (Some c) e h = let lt : first + 0 < length cells = slice_get_within cells (first + 0) c e in omega arith
