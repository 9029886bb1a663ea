-- The events of a stream where they stand in the cells.
use Rattle.std.specs.Prelude.{◌≡◌, ℕ, zero, suc, ◌+◌, ◌<◌, Bool, true, false, List, [], ◌∷◌, map, length, filter, Some, slice_get, slice_index_or, if◌then◌else◌}
use Rattle.std.proofs.Common.{refl, ap, sym, ◌∙◌, subst, arith}
use Rattle.std.proofs.lemmas.Option.{slice_get-get_or, slice_get_within}
use Rattle.std.proofs.lemmas.Slice.Eq.{bytes_eq-Decides}
use Rattle.ax_values.specs.Grammar.{Name}
use Rattle.ax_values.specs.declared.cell.Cell.{Cell}
use Rattle.ax_log.specs.Log.{Stored, events_from, is_of, stream_of}

-- an event that passes stands in a cell
record Stands (t : Stored → Bool) (cells : List Cell) (n : ℕ) (e : Stored) : Type 0 where
  pub place : ℕ
  pub index_is : e.index ≡ n + place
  pub cell : slice_get cells place ≡ Some (Cell.Event e.record_of)
  pub own : t e ≡ true

one-on : (t : Stored → Bool) (c : Cell) (cells : List Cell) (n : ℕ) (e : Stored) → Stands t cells (suc n) e → Stands t (c ∷ cells) n e
one-on t c cells n e s = let i : e.index ≡ suc n + s.place = s.index_is in record { place = suc s.place; index_is = omega arith; cell = s.cell; own = s.own }

stands : (t : Stored → Bool) (cells : List Cell) (n k : ℕ) (e : Stored) → slice_get (filter t (events_from n cells)) k ≡ Some e → Stands t cells n e
stands t [] n k e at = absurd (cc)
stands t (Cell.Reserved a s w u ∷ cs) n k e at = one-on t (Cell.Reserved a s w u) cs n e (stands t cs (suc n) k e at)
stands t (Cell.Void ∷ cs) n k e at = one-on t Cell.Void cs n e (stands t cs (suc n) k e at)
stands t (Cell.Event r ∷ cs) n k e at = by (t event) refl k at (λ j h. stands t cs (suc n) j e h)
  where
    event : Stored
    event = record { index = n; record_of = r }

    by : (b : Bool) → t event ≡ b → (j : ℕ) → slice_get (if b then event ∷ filter t (events_from (suc n) cs) else filter t (events_from (suc n) cs)) j ≡ Some e
        → ((i : ℕ) → slice_get (filter t (events_from (suc n) cs)) i ≡ Some e → Stands t cs (suc n) e) → Stands t (Cell.Event r ∷ cs) n e
    by true own zero h again = let is : event ≡ e = same h in subst (Stands t (Cell.Event r ∷ cs) n) is (record { place = 0; index_is = omega arith; cell = refl; own = own })
      where
        same : Some event ≡ Some e → event ≡ e
        same f = cc
    by true own (suc j) h again = one-on t (Cell.Event r) cs n e (again j h)
    by false own j h again = one-on t (Cell.Event r) cs n e (again j h)

-- the k-th event of the aggregate is that of the cell at the index i
pub record IsEventAt (a : Name) (cells : List Cell) (k i : ℕ) : Type 0 where
  pub event : Stored
  pub at : slice_get (stream_of a cells) k ≡ Some event
  pub index_is : event.index ≡ i
  pub own : event.record_of.aggregate ≡ a
  pub cell : slice_get cells i ≡ Some (Cell.Event event.record_of)
  pub within : i < length cells

stands-at : (a : Name) (cells : List Cell) (k : ℕ) (e : Stored) → slice_get (stream_of a cells) k ≡ Some e → IsEventAt a cells k e.index
stands-at a cells k e at =
    let s : Stands (is_of a) cells 0 e = stands (is_of a) cells 0 k e at in
    let i : e.index ≡ 0 + s.place = s.index_is in
    let is : s.place ≡ e.index = omega arith in
    let cell : slice_get cells e.index ≡ Some (Cell.Event e.record_of) = subst (λ (j : ℕ). slice_get cells j ≡ Some (Cell.Event e.record_of)) is s.cell in
    record { event = e; at = at; index_is = refl; own = (bytes_eq-Decides e.record_of.aggregate a).0 s.own; cell = cell; within = slice_get_within cells e.index (Cell.Event e.record_of) cell }

-- each event of a stream stands in the cell at its index
pub stream_cell : (a : Name) (cells : List Cell) (k : ℕ) (e : Stored) → slice_get (stream_of a cells) k ≡ Some e → slice_get cells e.index ≡ Some (Cell.Event e.record_of)
stream_cell a cells k e at = let h : IsEventAt a cells k e.index = stands-at a cells k e at in stands-cell h
  where
    stands-cell : IsEventAt a cells k e.index → slice_get cells e.index ≡ Some (Cell.Event e.record_of)
    stands-cell h =
        let is : h.event ≡ e = same h.event (sym h.at ∙ at) in
        subst (λ (x : Stored). slice_get cells e.index ≡ Some (Cell.Event x.record_of)) is h.cell
      where
        same : (x : Stored) → Some x ≡ Some e → x ≡ e
        same x f = cc

-- the k-th index of a stream is that of its k-th event
pub stream_index : (a : Name) (cells : List Cell) (indexes : List ℕ) (k i : ℕ) → indexes ≡ map (λ (event : Stored). event.index) (stream_of a cells) → slice_get indexes k ≡ Some i → IsEventAt a cells k i
stream_index a cells indexes k i is at = from (mapped (stream_of a cells) k (ap (λ (xs : List ℕ). slice_get xs k) (sym is) ∙ at))
  where
    mapped : (es : List Stored) (j : ℕ) → slice_get (map (λ (event : Stored). event.index) es) j ≡ Some i → (e : Stored) × (slice_get es j ≡ Some e) × (e.index ≡ i)
    mapped [] j h = absurd (cc)
    mapped (e ∷ es) zero h = (e, refl, cc)
    mapped (e ∷ es) (suc j) h = mapped es j h

    from : (e : Stored) × (slice_get (stream_of a cells) k ≡ Some e) × (e.index ≡ i) → IsEventAt a cells k i
    from p = subst (IsEventAt a cells k) p.2 (stands-at a cells k p.0 p.1)

-- the same where the index was read in the code
pub stream_read : (a : Name) (cells : List Cell) (indexes : List ℕ) (k i : ℕ) → indexes ≡ map (λ (event : Stored). event.index) (stream_of a cells) → k < length indexes → i ≡ slice_index_or indexes k i → IsEventAt a cells k i
stream_read a cells indexes k i is within read = stream_index a cells indexes k i is (slice_get-get_or indexes k i within ∙ ap Some (sym read))
