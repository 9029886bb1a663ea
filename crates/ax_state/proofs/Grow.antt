-- Cells that grow without a new event: reserved ones may become void, and cells come at the end.
use Rattle.std.specs.Prelude.{◌≡◌, ℕ, zero, suc, ◌+◌, ◌<◌, ◌≤◌, ◌⊎◌, true, not, IsTrue, List, [], ◌∷◌, ◌++◌, length, take, Option, Some, None, slice_get, filter, IfSome}
use Rattle.std.specs.List.{AllByRecursion, list_all}
use Rattle.std.proofs.Common.{refl, ap, sym, ◌∙◌, subst, subst₂, inl, ⊎_elim, arith}
use Rattle.std.proofs.lemmas.List.{take_all}
use Rattle.ax_values.specs.Grammar.{Name}
use Rattle.ax_laws.proofs.Tests.{both, and-true}
use Rattle.ax_log.specs.Log.{Stored, events_from, is_of, length_of, is_reserved, is_settled, option_is}
use Rattle.ax_log.specs.Order.{AreNumbered, IsReservedRight, IsOrdered, is_small, max_cells}
use Rattle.ax_log.specs.Answers.{aggregate_of}
use Rattle.ax_log.proofs.Order.{IsQuiet}
use Rattle.ax_state.specs.Setting.{name_at}
use Rattle.ax_state.specs.State.{State, Desk, Reservation, with_cells}
use Rattle.ax_state.specs.WellFormed.{IsWellFormed, PassPrefix, reserved_by, IsHeldCell, IsReservation, HoldsCells}
use Rattle.ax_state.proofs.Lists.{AllFrom-map}
use Rattle.ax_state.proofs.Growth.{IsGrowth}
use Rattle.ax_state.proofs.Frames.{kept-cells}
use Rattle.ax_values.specs.declared.cell.Cell.{Cell}

abbrev pub Becomes : Cell → Cell → Type 0
Becomes (Cell.Reserved a s w t) d = (d ≡ Cell.Reserved a s w t) ⊎ (d ≡ Cell.Void)
Becomes Cell.Void d = d ≡ Cell.Void
Becomes (Cell.Event r) d = d ≡ Cell.Event r

abbrev pub Grows : List Cell → List Cell → Type 0
Grows [] later = AllByRecursion IsQuiet later
Grows (c ∷ cs) [] = ⊥
Grows (c ∷ cs) (d ∷ ds) = Becomes c d × Grows cs ds

pub becomes-same : (c : Cell) → Becomes c c
becomes-same (Cell.Reserved a s w t) = inl refl
becomes-same Cell.Void = refl
becomes-same (Cell.Event r) = refl

pub grows-same : (cells : List Cell) → Grows cells cells
grows-same [] = tt
grows-same (c ∷ cs) = (becomes-same c, grows-same cs)

quiet-append : (cs ds : List Cell) → AllByRecursion IsQuiet cs → AllByRecursion IsQuiet ds → AllByRecursion IsQuiet (cs ++ ds)
quiet-append [] ds h j = j
quiet-append (c ∷ cs) ds h j = (h.0, quiet-append cs ds h.1 j)

pub grows-append : (cells later more : List Cell) → Grows cells later → AllByRecursion IsQuiet more → Grows cells (later ++ more)
grows-append [] later more g q = quiet-append later more g q
grows-append (c ∷ cs) [] more g q = absurd g
grows-append (c ∷ cs) (d ∷ ds) more g q = (g.0, grows-append cs ds more g.1 q)

-- ---- what growing keeps

quiet-events : (k i : ℕ) (cells : List Cell) → AllByRecursion IsQuiet cells → events_from k (take i cells) ≡ []
quiet-events k zero cells h = refl
quiet-events k (suc i) [] h = refl
quiet-events k (suc i) (Cell.Reserved a s w t ∷ cs) h = quiet-events (suc k) i cs h.1
quiet-events k (suc i) (Cell.Void ∷ cs) h = quiet-events (suc k) i cs h.1
quiet-events k (suc i) (Cell.Event r ∷ cs) h = absurd h.0

-- one cell of a list makes no other event than what it becomes
step-events : (k : ℕ) (c d : Cell) (cs ds : List Cell) → Becomes c d → events_from (suc k) ds ≡ events_from (suc k) cs → events_from k (d ∷ ds) ≡ events_from k (c ∷ cs)
step-events k (Cell.Reserved a s w t) d cs ds b e =
    ⊎_elim (λ (x : d ≡ Cell.Reserved a s w t). rw x e) (λ (x : d ≡ Cell.Void). rw x e) b
step-events k Cell.Void d cs ds b e = rw b e
step-events k (Cell.Event r) d cs ds b e = rw b (ap (λ es. record { index = k; record_of = r } ∷ es) e)

grows-take : (k i : ℕ) (cells later : List Cell) → Grows cells later → events_from k (take i later) ≡ events_from k (take i cells)
grows-take k zero cells later g = refl
grows-take k (suc i) [] later g = quiet-events k (suc i) later g
grows-take k (suc i) (c ∷ cs) [] g = absurd g
grows-take k (suc i) (c ∷ cs) (d ∷ ds) g = step-events k c d (take i cs) (take i ds) g.0 (grows-take (suc k) i cs ds g.1)

quiet-all : (k : ℕ) (cells : List Cell) → AllByRecursion IsQuiet cells → events_from k cells ≡ []
quiet-all k [] h = refl
quiet-all k (Cell.Reserved a s w t ∷ cs) h = quiet-all (suc k) cs h.1
quiet-all k (Cell.Void ∷ cs) h = quiet-all (suc k) cs h.1
quiet-all k (Cell.Event r ∷ cs) h = absurd h.0

pub grows-events : (k : ℕ) (cells later : List Cell) → Grows cells later → events_from k later ≡ events_from k cells
grows-events k [] later g = quiet-all k later g
grows-events k (c ∷ cs) [] g = absurd g
grows-events k (c ∷ cs) (d ∷ ds) g = step-events k c d cs ds g.0 (grows-events (suc k) cs ds g.1)

grows-length : (cells later : List Cell) → Grows cells later → length cells ≤ length later
grows-length [] later g = omega arith
grows-length (c ∷ cs) [] g = absurd g
grows-length (c ∷ cs) (d ∷ ds) g = let ih : length cs ≤ length ds = grows-length cs ds g.1 in omega arith

-- each event has a cell
pub events-few : (k : ℕ) (cells : List Cell) → length (events_from k cells) ≤ length cells
events-few k [] = omega arith
events-few k (Cell.Event r ∷ cells) = let ih : length (events_from (suc k) cells) ≤ length cells = events-few (suc k) cells in omega arith
events-few k (Cell.Reserved a s w t ∷ cells) = let ih : length (events_from (suc k) cells) ≤ length cells = events-few (suc k) cells in omega arith
events-few k (Cell.Void ∷ cells) = let ih : length (events_from (suc k) cells) ≤ length cells = events-few (suc k) cells in omega arith

abbrev Follows : Option Cell → Option Cell → Type 0
Follows None d = Unit {0}
Follows (Some c) None = ⊥
Follows (Some c) (Some d) = Becomes c d

grows-at : (cells later : List Cell) (i : ℕ) → Grows cells later → Follows (slice_get cells i) (slice_get later i)
grows-at [] later i g = tt
grows-at (c ∷ cs) [] i g = absurd g
grows-at (c ∷ cs) (d ∷ ds) zero g = g.0
grows-at (c ∷ cs) (d ∷ ds) (suc i) g = grows-at cs ds i g.1

get-none : {A : Type 0} (xs : List A) (i : ℕ) → slice_get xs i ≡ None → length xs ≤ i
get-none [] i e = omega arith
get-none (x ∷ xs) zero e = absurd (cc)
get-none (x ∷ xs) (suc i) e = let ih : length xs ≤ i = get-none xs i e in omega arith

-- ---- settled cells

becomes-settled : (c d : Cell) → Becomes c d → not (is_reserved c) ≡ true → not (is_reserved d) ≡ true
becomes-settled (Cell.Reserved a s w t) d b h = absurd (cc)
becomes-settled Cell.Void d b h = rw b refl
becomes-settled (Cell.Event r) d b h = rw b refl

settled-at : (x y : Option Cell) → Follows x y → option_is (λ c. not (is_reserved c)) x ≡ true → option_is (λ c. not (is_reserved c)) y ≡ true
settled-at None y f h = absurd (cc)
settled-at (Some c) None f h = absurd f
settled-at (Some c) (Some d) f h = becomes-settled c d f h

grows-settled : (cells later : List Cell) (i : ℕ) → Grows cells later → IsTrue (is_settled cells i) → IsTrue (is_settled later i)
grows-settled cells later i g h = settled-at (slice_get cells i) (slice_get later i) (grows-at cells later i g) h

pub grows-growth : (cells later : List Cell) → Grows cells later → IsGrowth cells later
grows-growth cells later g = record {
  settled = λ i e. grows-settled cells later i g e;
  longer = grows-length cells later g;
  prefixes = λ test s a h. subst (λ (es : List Stored). PassPrefix test es a) (sym (grows-events 0 cells later g)) h;
  filtered = λ test s. ap (filter (λ e. test e.record_of.aggregate e.index)) (grows-events 0 cells later g);
}

-- ---- reservations

pub held-within : (a : Name) (s : ℕ) (w : Name) (cells : List Cell) (i : ℕ) → IsHeldCell a s w (slice_get cells i) → i < length cells
held-within a s w [] i h = absurd h
held-within a s w (c ∷ cs) zero h = omega arith
held-within a s w (c ∷ cs) (suc i) h = let ih : i < length cs = held-within a s w cs i h in omega arith

becomes-held : (a : Name) (s : ℕ) (w : Name) (c d : Cell) → Becomes c d → IsHeldCell a s w (Some c) → IsHeldCell a s w (Some d)
becomes-held a s w (Cell.Reserved b u v t) d e h =
    ⊎_elim (λ (x : d ≡ Cell.Reserved b u v t). rw x h) (λ (x : d ≡ Cell.Void). rw x tt) e
becomes-held a s w Cell.Void d e h = rw e tt
becomes-held a s w (Cell.Event r) d e h = absurd h

held-at : (a : Name) (s : ℕ) (w : Name) (x y : Option Cell) → Follows x y → IsHeldCell a s w x → IsHeldCell a s w y
held-at a s w None y f h = absurd h
held-at a s w (Some c) None f h = absurd f
held-at a s w (Some c) (Some d) f h = becomes-held a s w c d f h

holds-grows : (cells later : List Cell) → Grows cells later → (actor : Name) (d : Desk) → HoldsCells cells actor d → HoldsCells later actor d
holds-grows cells later g actor d h = at d.reservation h
  where
    at : (o : Option Reservation) → IfSome o (IsReservation cells actor) → IfSome o (IsReservation later actor)
    at None h = tt
    at (Some r) h = record {
      some = h.some;
      numbered = h.numbered;
      small = h.small;
      held = λ k lt. held-at (aggregate_of r.records) r.first_seq actor (slice_get cells (r.first + k)) (slice_get later (r.first + k)) (grows-at cells later (r.first + k) g) (h.held k lt);
    }

-- ---- order

quiet-small : (cells : List Cell) → AllByRecursion IsQuiet cells → list_all is_small cells ≡ true
quiet-small [] h = refl
quiet-small (Cell.Reserved a s w t ∷ cs) h = quiet-small cs h.1
quiet-small (Cell.Void ∷ cs) h = quiet-small cs h.1
quiet-small (Cell.Event r ∷ cs) h = absurd h.0

becomes-small : (c d : Cell) → Becomes c d → is_small c ≡ true → is_small d ≡ true
becomes-small (Cell.Reserved a s w t) d b h = ⊎_elim (λ (x : d ≡ Cell.Reserved a s w t). rw x refl) (λ (x : d ≡ Cell.Void). rw x refl) b
becomes-small Cell.Void d b h = rw b refl
becomes-small (Cell.Event r) d b h = rw b h

grows-small : (cells later : List Cell) → Grows cells later → list_all is_small cells ≡ true → list_all is_small later ≡ true
grows-small [] later g h = quiet-small later g
grows-small (c ∷ cs) [] g h = absurd g
grows-small (c ∷ cs) (d ∷ ds) g h =
    let b = both (is_small c) (list_all is_small cs) h in and-true (is_small d) (list_all is_small ds) (becomes-small c d g.0 b.0) (grows-small cs ds g.1 b.1)

-- where the cells beyond are reserved by the present length, index order and sequence order agree
pub ordered-grows : (cells later : List Cell) → Grows cells later → length later ≤ max_cells
    → ((i : ℕ) (a : Name) (s : ℕ) (w : Name) (t : ℕ) → slice_get later i ≡ Some (Cell.Reserved a s w t) → (length cells ≤ i) → s ≡ length_of a cells)
    → IsOrdered cells → IsOrdered later
ordered-grows cells later g size fresh h = record {
  numbered = subst (λ (es : List Stored). (a : Name) → AreNumbered 0 (filter (is_of a) es)) (sym (grows-events 0 cells later g)) h.numbered;
  reserved = λ i a s w t e. here i a s w t e (slice_get cells i) refl;
  size = size;
  small = grows-small cells later g h.small;
}
  where
    lengths : (a : Name) (i : ℕ) → length_of a (take i later) ≡ length_of a (take i cells)
    lengths a i = ap (λ (es : List Stored). length (filter (is_of a) es)) (grows-take 0 i cells later g)

    same : (a : Name) → length_of a later ≡ length_of a cells
    same a = ap (λ (es : List Stored). length (filter (is_of a) es)) (grows-events 0 cells later g)

    reserved-was : (c : Cell) (a : Name) (s : ℕ) (w : Name) (t : ℕ) → Becomes c (Cell.Reserved a s w t) → c ≡ Cell.Reserved a s w t
    reserved-was (Cell.Reserved b u v r) a s w t f = ⊎_elim (λ (x : Cell.Reserved a s w t ≡ Cell.Reserved b u v r). sym x) (λ (x : Cell.Reserved a s w t ≡ Cell.Void). absurd (cc)) f
    reserved-was Cell.Void a s w t f = absurd (cc)
    reserved-was (Cell.Event r) a s w t f = absurd (cc)

    here : (i : ℕ) (a : Name) (s : ℕ) (w : Name) (t : ℕ) → slice_get later i ≡ Some (Cell.Reserved a s w t) → (x : Option Cell) → slice_get cells i ≡ x → IsReservedRight later i a s
    here i a s w t e None x =
        let past : length cells ≤ i = get-none cells i x in
        let is : s ≡ length_of a cells = fresh i a s w t e past in
        let all : take i cells ≡ cells = take_all i cells past in
        record {
          bound = (let l : length_of a later ≡ length_of a cells = same a in omega arith);
          before = λ k. lengths a i ∙ ap (λ (cs : List Cell). length_of a cs) all ∙ sym (same a);
        }
    here i a s w t e (Some c) x =
        let f : Follows (Some c) (Some (Cell.Reserved a s w t)) = subst₂ (λ (p q : Option Cell). Follows p q) x e (grows-at cells later i g) in
        let r : IsReservedRight cells i a s = h.reserved i a s w t (x ∙ ap Some (reserved-was c a s w t f)) in
        record {
          bound = (let l : length_of a later ≡ length_of a cells = same a in let k : s ≤ length_of a cells = r.bound in omega arith);
          before = λ k. lengths a i ∙ r.before (k ∙ same a) ∙ sym (same a);
        }

-- ---- the whole

pub kept-grown : (m : State) (later : List Cell) → Grows m.cells later → IsOrdered later → AllByRecursion (reserved_by m.clock) later → IsWellFormed m → IsWellFormed (with_cells later m)
kept-grown m later g ordered moments h = kept-cells m later (record {
  growth = grows-growth m.cells later g;
  log = ordered;
  reserved = moments;
  held = AllFrom-map (λ k d. HoldsCells m.cells (name_at m.setting.actors k) d) (λ k d. HoldsCells later (name_at m.setting.actors k) d) (λ k d. holds-grows m.cells later g (name_at m.setting.actors k) d) 0 m.desks h.reserved.each;
}) h
