-- An append keeps what holds of every state.
use Rattle.std.specs.Prelude.{◌≡◌, ℕ, zero, suc, ◌+◌, ◌-◌, ◌<◌, ◌≤◌, ◌⊎◌, ◌==◌, ◌&&◌, Bool, true, false, IfSome, List, [], ◌∷◌, map, length, take, drop, Option, Some, None, slice_get, slice_set, nat_le, nat_lt, if◌then◌else◌}
use Rattle.std.specs.List.{AllByRecursion}
use Rattle.std.proofs.Common.{refl, ap, sym, ◌∙◌, subst, inl, inr, ⊎_elim, arith}
use Rattle.std.proofs.lemmas.List.{length-map}
use Rattle.std.proofs.lemmas.Bool.Decides.{nat_tests}
use borrow.Author.Tests.{eqb-true, ltb-true, ltb-false}
use Rattle.ax_values.specs.Grammar.{Name}
use Rattle.ax_log.specs.Log.{length_of, put_cells}
use Rattle.ax_log.specs.Order.{IsOrdered, IsReservedRight, max_cells}
use Rattle.ax_log.specs.Puts.{CanPutAll, puts_at}
use Rattle.ax_log.specs.Answers.{AreOf, aggregate_of, number_of, IsKeptFor, TakesKept, first_void, void_among}
use Rattle.ax_log.proofs.Append.{can_append}
use Rattle.ax_log.proofs.CellsMade.{put_all-puts_at, IsOrdered-put_all}
use Rattle.ax_state.specs.Every.{AllFrom, option_or}
use Rattle.ax_state.specs.Setting.{name_at}
use Rattle.ax_state.specs.State.{State, Desk, Reservation, desk_at, empty_desk, with_cells}
use Rattle.ax_state.specs.Answer.{answer}
use Rattle.ax_state.specs.WellFormed.{IsWellFormed, IsReservation, IsHeldCell, HoldsCells, holds_cell}
use Rattle.ax_state.proofs.Lists.{AllFrom-get, AllFrom-others, same-place}
use Rattle.ax_state.proofs.Frames.{kept-cells}
use Rattle.ax_state.proofs.Desks.{kept-unreserved}
use Rattle.ax_state.proofs.Grow.{held-within}
use Rattle.ax_state.proofs.Fill.{Own, IsFill, fills-put, fill-growth, fills-reserved_by}
use Rattle.ax_step_log.specs.Logging.{append, appended, appended_unless, released, with_reservation}
use Rattle.ax_step_log.proofs.Released.{kept-voided}
use Rattle.ax_values.specs.declared.cell.Cell.{Cell}
use Rattle.ax_values.specs.declared.record.Record.{Record}
use Rattle.ax_journal.specs.declared.reply.Reply.{Reply}

-- ---- a conflict

-- a desk lets its reservation go
pub kept-released : (m : State) (actor : ℕ) (o : Option Reservation) → IsWellFormed m → IsWellFormed (with_reservation actor None (with_cells (released o m.cells) m))
kept-released m actor None h = kept-unreserved m actor h
kept-released m actor (Some r) h = kept-unreserved (with_cells (released (Some r) m.cells) m) actor (kept-voided m r.first (length r.records) h)

-- ---- the cells of a reservation

not-void : (i f n j : ℕ) (cells : List Cell) → first_void i (take n (drop f cells)) ≡ None → f ≤ j → j < f + n → slice_get cells j ≡ Some Cell.Void → ⊥
not-void i f zero j cells e low high h = absurd (omega arith)
not-void i f (suc n) j [] e low high h = absurd (cc)
not-void i zero (suc n) zero (Cell.Reserved a s w t ∷ cs) e low high h = absurd (cc)
not-void i zero (suc n) j (Cell.Void ∷ cs) e low high h = absurd (cc)
not-void i zero (suc n) zero (Cell.Event r ∷ cs) e low high h = absurd (cc)
not-void i zero (suc n) (suc j) (Cell.Reserved a s w t ∷ cs) e low high h = not-void (suc i) zero n j cs e (omega arith) (omega arith) h
not-void i zero (suc n) (suc j) (Cell.Event r ∷ cs) e low high h = not-void (suc i) zero n j cs e (omega arith) (omega arith) h
not-void i (suc f) (suc n) zero (c ∷ cs) e low high h = absurd (omega arith)
not-void i (suc f) (suc n) (suc j) (c ∷ cs) e low high h = not-void i f (suc n) j cs e (omega arith) (omega arith) h

-- a held cell that is not void is reserved
still-reserved : (a : Name) (s : ℕ) (w : Name) (o : Option Cell) → IsHeldCell a s w o → (o ≡ Some Cell.Void → ⊥) → (t : ℕ) × (o ≡ Some (Cell.Reserved a s w t))
still-reserved a s w None h f = absurd h
still-reserved a s w (Some Cell.Void) h f = absurd (f refl)
still-reserved a s w (Some (Cell.Event r)) h f = absurd h
still-reserved a s w (Some (Cell.Reserved b u v t)) h f = (t, rw (h.0, h.1, h.2) refl)

held-kept : (a : Name) (s : ℕ) (w : Name) (o : Option Cell) → IsHeldCell a s w o → IsKeptFor a s o
held-kept a s w None h = h
held-kept a s w (Some Cell.Void) h = tt
held-kept a s w (Some (Cell.Event r)) h = h
held-kept a s w (Some (Cell.Reserved b u v t)) h = (h.0, h.1)

first-number : (a : Name) (n : ℕ) (rs : List Record) → 0 < length rs → AreOf a n rs → number_of rs ≡ n
first-number a n [] some h = absurd (omega arith)
first-number a n (r ∷ rs) some h = h.1

own-of : (a : Name) (n : ℕ) (rs : List Record) → AreOf a n rs → AllByRecursion (Own a) rs
own-of a n [] h = tt
own-of a n (r ∷ rs) h = (h.0, own-of a (suc n) rs h.2)

-- what holds of the reservation of a desk
pub holds : (m : State) (actor : ℕ) (d : Desk) (r : Reservation) → slice_get m.desks actor ≡ Some d → d.reservation ≡ Some r → IsWellFormed m → IsReservation m.cells (name_at m.setting.actors actor) r
holds m actor d r desk has h = subst (λ (o : Option Reservation). IfSome o (IsReservation m.cells (name_at m.setting.actors actor))) has
    (AllFrom-get (λ k d. HoldsCells m.cells (name_at m.setting.actors k) d) 0 m.desks actor d h.reserved.each desk actor (omega arith))

pub within-held : (cells : List Cell) (actor : Name) (r : Reservation) → IsReservation cells actor r → r.first + length r.records ≤ length cells
within-held cells actor r h =
    let some : 0 < length r.records = h.some in
    let last : r.first + (length r.records - 1) < length cells = held-within (aggregate_of r.records) r.first_seq actor cells (r.first + (length r.records - 1)) (h.held (length r.records - 1) (omega arith)) in omega arith

pub number-held : (cells : List Cell) (actor : Name) (r : Reservation) → IsReservation cells actor r → number_of r.records ≡ r.first_seq
number-held cells actor r h = first-number (aggregate_of r.records) r.first_seq r.records h.some h.numbered

pub takes-held : (cells : List Cell) (actor : Name) (r : Reservation) → IsReservation cells actor r → TakesKept cells r.first r.records
takes-held cells actor r h = record {
  numbered = subst (λ (n : ℕ). AreOf (aggregate_of r.records) n r.records) (sym number) h.numbered;
  kept = λ k lt. subst (λ (n : ℕ). IsKeptFor (aggregate_of r.records) n (slice_get cells (r.first + k))) (sym number)
      (held-kept (aggregate_of r.records) r.first_seq actor (slice_get cells (r.first + k)) (h.held k lt));
}
  where
    number : number_of r.records ≡ r.first_seq
    number = number-held cells actor r h

-- what an append takes of a desk whose reservation has no void cell and goes on with the stream
pub record IsTaken (m : State) (actor : ℕ) (d : Desk) (r : Reservation) : Type 0 where
  pub desk : slice_get m.desks actor ≡ Some d
  pub has : d.reservation ≡ Some r
  pub clear : void_among m.cells r.first r.records ≡ None
  pub next : length_of (aggregate_of r.records) m.cells ≡ r.first_seq

holds-taken : (m : State) (actor : ℕ) (d : Desk) (r : Reservation) → IsTaken m actor d r → IsWellFormed m → IsReservation m.cells (name_at m.setting.actors actor) r
holds-taken m actor d r x h = holds m actor d r x.desk x.has h

reserved-taken : (m : State) (actor : ℕ) (d : Desk) (r : Reservation) → IsTaken m actor d r → IsWellFormed m → (k : ℕ) → k < length r.records
    → (t : ℕ) × (slice_get m.cells (r.first + k) ≡ Some (Cell.Reserved (aggregate_of r.records) r.first_seq (name_at m.setting.actors actor) t))
reserved-taken m actor d r x h k lt =
    still-reserved (aggregate_of r.records) r.first_seq (name_at m.setting.actors actor) (slice_get m.cells (r.first + k)) ((holds-taken m actor d r x h).held k lt) (not-void r.first r.first (length r.records) (r.first + k) m.cells x.clear (omega arith) (omega arith))

within-taken : (m : State) (actor : ℕ) (d : Desk) (r : Reservation) → IsTaken m actor d r → IsWellFormed m → r.first + length r.records ≤ length m.cells
within-taken m actor d r x h = within-held m.cells (name_at m.setting.actors actor) r (holds-taken m actor d r x h)

pub fill-taken : (m : State) (actor : ℕ) (d : Desk) (r : Reservation) → IsTaken m actor d r → IsWellFormed m → IsFill (aggregate_of r.records) r.first r.records m.cells
fill-taken m actor d r x h = record {
  own = own-of (aggregate_of r.records) r.first_seq r.records holds_cells.numbered;
  ready = λ k lt. rw (reserved-taken m actor d r x h k lt).1 refl;
  within = (let le : r.first + length r.records ≤ length m.cells = within-taken m actor d r x h in omega arith);
  last = right.before (sym x.next);
}
  where
    holds_cells : IsReservation m.cells (name_at m.setting.actors actor) r
    holds_cells = holds-taken m actor d r x h

    right : IsReservedRight m.cells r.first (aggregate_of r.records) r.first_seq
    right =
        let c = reserved-taken m actor d r x h 0 holds_cells.some in
        let at : r.first + 0 ≡ r.first = omega arith in
        subst (λ (i : ℕ). IsReservedRight m.cells i (aggregate_of r.records) r.first_seq) at (h.log.reserved (r.first + 0) (aggregate_of r.records) r.first_seq (name_at m.setting.actors actor) c.0 c.1)

ordered-taken : (m : State) (actor : ℕ) (d : Desk) (r : Reservation) → IsTaken m actor d r → IsWellFormed m → IsOrdered (put_cells r.first (map Cell.Event r.records) m.cells)
ordered-taken m actor d r x h =
    subst IsOrdered (put_all-puts_at (map Cell.Event r.records) r.first m.cells (let le : r.first + length r.records ≤ length m.cells = inside in omega arith)) (IsOrdered-put_all (puts_at r.first (map Cell.Event r.records)) m.cells can h.log)
  where
    holds_cells : IsReservation m.cells (name_at m.setting.actors actor) r
    holds_cells = holds-taken m actor d r x h

    inside : r.first + length r.records ≤ length m.cells
    inside = within-taken m actor d r x h

    number : number_of r.records ≡ r.first_seq
    number = number-held m.cells (name_at m.setting.actors actor) r holds_cells

    takes : TakesKept m.cells r.first r.records
    takes = takes-held m.cells (name_at m.setting.actors actor) r holds_cells

    can : CanPutAll m.cells (puts_at r.first (map Cell.Event r.records))
    can = can_append m.cells r.first r.records holds_cells.small holds_cells.some (inl takes)
        (record { clear = x.clear; next = x.next ∙ sym number; room = (let le : r.first + length r.records ≤ length m.cells = inside in let size : length m.cells ≤ max_cells = h.log.size in omega arith) }) h.log

-- ---- the records in the log

put-outside : (x i : ℕ) (new cells : List Cell) → i + length new ≤ length cells → (x < i) ⊎ (i + length new ≤ x) → slice_get (put_cells i new cells) x ≡ slice_get cells x
put-outside x zero [] [] le out = refl
put-outside x (suc i) [] [] le out = refl
put-outside x i (n ∷ ns) [] le out = absurd (omega arith)
put-outside x zero [] (c ∷ cs) le out = refl
put-outside zero zero (n ∷ ns) (c ∷ cs) le out = absurd (⊎_elim (λ (h : 0 < 0). omega arith) (λ (h : 0 + suc (length ns) ≤ 0). omega arith) out)
put-outside (suc x) zero (n ∷ ns) (c ∷ cs) le out = put-outside x zero ns cs (omega arith) (⊎_elim (λ (h : suc x < 0). absurd (omega arith)) (λ (h : 0 + suc (length ns) ≤ suc x). inr (omega arith)) out)
put-outside zero (suc i) new (c ∷ cs) le out = refl
put-outside (suc x) (suc i) new (c ∷ cs) le out = put-outside x i new cs (omega arith) (⊎_elim (λ (h : suc x < suc i). inl (omega arith)) (λ (h : suc i + length new ≤ suc x). inr (omega arith)) out)

within-test : (x first n : ℕ) → first ≤ x → x < first + n → (nat_le first x && nat_lt x (first + n)) ≡ true
within-test x first n h k = grind (arith, nat_tests)

pub kept-taken : (m : State) (actor : ℕ) (d : Desk) (r : Reservation) → IsTaken m actor d r → IsWellFormed m → IsWellFormed (with_reservation actor None (with_cells (put_cells r.first (map Cell.Event r.records) m.cells) m))
kept-taken m actor d r t h = kept-cells (with_reservation actor None m) later (record {
  growth = fill-growth a r.first r.records m.cells f;
  log = ordered-taken m actor d r t h;
  reserved = fills-reserved_by (Own a) m.clock m.cells later (fills-put (Own a) r.first r.records m.cells f.ready f.own) h.clock.reserved;
  held = each;
}) (kept-unreserved m actor h)
  where
    a : Name
    a = aggregate_of r.records

    f : IsFill a r.first r.records m.cells
    f = fill-taken m actor d r t h

    later : List Cell
    later = put_cells r.first (map Cell.Event r.records) m.cells

    desk : Desk
    desk = record (desk_at m actor) { reservation = None }

    inside : r.first + length r.records ≤ length m.cells
    inside = within-taken m actor d r t h

    outside : (k : ℕ) (x : Desk) (q : Reservation) (j : ℕ) → slice_get m.desks k ≡ Some x → x.reservation ≡ Some q → (k ≡ actor → ⊥) → j < length q.records → slice_get later (q.first + j) ≡ slice_get m.cells (q.first + j)
    outside k x q j e has_q ne lt = by (nat_lt (q.first + j) r.first) refl (nat_lt (q.first + j) (r.first + length r.records)) refl
      where
        n : length (map Cell.Event r.records) ≡ length r.records
        n = length-map r.records Cell.Event

        go : (q.first + j < r.first) ⊎ (r.first + length (map Cell.Event r.records) ≤ q.first + j) → slice_get later (q.first + j) ≡ slice_get m.cells (q.first + j)
        go o = put-outside (q.first + j) r.first (map Cell.Event r.records) m.cells (let l : length (map Cell.Event r.records) ≡ length r.records = n in let le : r.first + length r.records ≤ length m.cells = inside in omega arith) o

        by : (b : Bool) → nat_lt (q.first + j) r.first ≡ b → (c : Bool) → nat_lt (q.first + j) (r.first + length r.records) ≡ c → slice_get later (q.first + j) ≡ slice_get m.cells (q.first + j)
        by true s c u = go (inl (ltb-true (q.first + j) r.first s))
        by false s false u = go (inr (let l : length (map Cell.Event r.records) ≡ length r.records = n in let k : r.first + length r.records ≤ q.first + j = ltb-false (q.first + j) (r.first + length r.records) u in omega arith))
        by false s true u =
            let low : r.first ≤ q.first + j = ltb-false (q.first + j) r.first s in
            let high : q.first + j < r.first + length r.records = ltb-true (q.first + j) (r.first + length r.records) u in
            let mine : holds_cell (q.first + j) d.reservation ≡ true = rw t.has (within-test (q.first + j) r.first (length r.records) low high) in
            let theirs : holds_cell (q.first + j) x.reservation ≡ true = rw has_q (within-test (q.first + j) q.first (length q.records) (omega arith) (omega arith)) in
            absurd (ne (same-place (λ y. holds_cell (q.first + j) y.reservation) m.desks k actor x d (h.reserved.apart (q.first + j)) e theirs t.desk mine))

    each : AllFrom (λ k x. HoldsCells later (name_at m.setting.actors k) x) 0 (slice_set m.desks actor desk)
    each = AllFrom-others (λ k x. HoldsCells m.cells (name_at m.setting.actors k) x) (λ k x. HoldsCells later (name_at m.setting.actors k) x) 0 m.desks actor desk
        (λ k x e ne j. keep (name_at m.setting.actors (0 + k)) k x e ne x.reservation refl j) (λ k. tt) h.reserved.each
      where
        keep : (w : Name) (k : ℕ) (x : Desk) → slice_get m.desks k ≡ Some x → (k ≡ actor → ⊥) → (o : Option Reservation) → x.reservation ≡ o → IfSome o (IsReservation m.cells w) → IfSome o (IsReservation later w)
        keep w k x e ne None i j = tt
        keep w k x e ne (Some q) i j = record {
          some = j.some;
          numbered = j.numbered;
          small = j.small;
          held = λ c lt. subst (λ (o : Option Cell). IsHeldCell (aggregate_of q.records) q.first_seq w o) (sym (outside k x q c e i ne lt)) (j.held c lt);
        }

-- ---- the step

pub kept-append : (m : State) (actor : ℕ) → IsWellFormed m → IsWellFormed (append m actor).state
kept-append m actor h = by (slice_get m.desks actor) refl
  where
    unless : (d : Desk) (r : Reservation) → slice_get m.desks actor ≡ Some d → d.reservation ≡ Some r → (v : Option ℕ) → void_among m.cells r.first r.records ≡ v → IsWellFormed (appended_unless m actor r v).state
    unless d r at has (Some i) e = h
    unless d r at has None e = go (length_of (aggregate_of r.records) m.cells == r.first_seq) refl
      where
        go : (b : Bool) → (length_of (aggregate_of r.records) m.cells == r.first_seq) ≡ b
            → IsWellFormed (if b then answer (with_reservation actor None (with_cells (put_cells r.first (map Cell.Event r.records) m.cells) m)) (Reply.Appended r.first_seq (length r.records)) else answer (with_reservation actor None (with_cells (released (Some r) m.cells) m)) (Reply.Conflict r.first_seq (length_of (aggregate_of r.records) m.cells))).state
        go true k = kept-taken m actor d r (record { desk = at; has = has; clear = e; next = eqb-true (length_of (aggregate_of r.records) m.cells) r.first_seq k }) h
        go false k = kept-released m actor (Some r) h

    of : (d : Desk) → slice_get m.desks actor ≡ Some d → (o : Option Reservation) → d.reservation ≡ o → IsWellFormed (appended m actor o).state
    of d at None e = h
    of d at (Some r) e = unless d r at e (void_among m.cells r.first r.records) refl

    by : (o : Option Desk) → slice_get m.desks actor ≡ o → IsWellFormed (appended m actor (desk_at m actor).reservation).state
    by None e = let none : (desk_at m actor).reservation ≡ None = ap (λ (o : Option Desk). (option_or empty_desk o).reservation) e in rw none h
    by (Some d) e = let is : desk_at m actor ≡ d = ap (option_or empty_desk) e in subst (λ (x : Desk). IsWellFormed (appended m actor x.reservation).state) (sym is) (of d e d.reservation refl)
