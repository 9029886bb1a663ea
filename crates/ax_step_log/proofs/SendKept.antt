-- A send keeps what holds of every state.
use Rattle.std.specs.Prelude.{◌≡◌, ℕ, zero, suc, ◌+◌, ◌-◌, ◌<◌, ◌≤◌, ◌&&◌, Bool, true, false, IfSome, List, [], ◌∷◌, ◌++◌, length, Option, Some, None, slice_get, slice_set, replicate, is_some, nat_lt, nat_le, if◌then◌else◌}
use Rattle.std.specs.List.{AllByRecursion, list_all}
use Rattle.std.proofs.Common.{refl, ap, sym, ◌∙◌, subst, arith, length-append}
use Rattle.std.proofs.lemmas.List.{length-replicate}
use Rattle.std.proofs.lemmas.Bool.Decides.{nat_tests}
use borrow.Author.Tests.{ltb-true, ltb-false}
use Rattle.ax_values.specs.Grammar.{Name}
use Rattle.ax_values.specs.Words.{Payload}
use Rattle.ax_laws.proofs.Tests.{both, and-true}
use Rattle.ax_log.specs.Log.{length_of}
use Rattle.ax_log.specs.Order.{max_cells, has_few_fields}
use Rattle.ax_log.specs.Answers.{AreOf, aggregate_of}
use Rattle.ax_log.proofs.Order.{IsQuiet}
use Rattle.ax_sheet.specs.Sheet.{command_named}
use Rattle.ax_sheet.specs.Commands.{Command}
use Rattle.ax_sheet.specs.Decision.{decision}
use Rattle.ax_state.specs.Every.{AllFrom, count, one, option_or}
use Rattle.ax_state.specs.Setting.{name_at}
use Rattle.ax_state.specs.State.{State, Desk, Reservation, desk_at, actor_name, with_cells}
use Rattle.ax_state.specs.Positions.{aggregate_state}
use Rattle.ax_state.specs.Answer.{Answer, answer}
use Rattle.ax_state.specs.WellFormed.{IsWellFormed, HoldsCells, IsReservation, reserved_by, holds_cell}
use Rattle.ax_state.proofs.Lists.{AllFrom-set, count-set, count-none, one-most}
use Rattle.ax_state.proofs.Desks.{kept-reservation}
use Rattle.ax_state.proofs.Grow.{Grows, held-within, grows-append, ordered-grows, kept-grown}
use Rattle.ax_step_log.specs.Logging.{send, sent_decided, no_command, sent_events, with_reservation, released, reserved_cells, reservation_of, as_records}
use Rattle.ax_step_log.specs.SendParts.{EventsFit, few_fields}
use Rattle.ax_step_log.proofs.Decisions.{decision-fits, command-fits}
use Rattle.ax_step_log.proofs.Released.{grows-released, length-released, reserved-released}
use Rattle.ax_values.specs.declared.cell.Cell.{Cell}
use Rattle.ax_upcast.specs.declared.event.Event.{Event}
use Rattle.ax_sheet.specs.declared.decision.Decided.{Decided}
use Rattle.ax_journal.specs.declared.reply.Reply.{Reply}

-- ---- the cells

pub quiet-replicate : (n : ℕ) (a : Name) (s : ℕ) (w : Name) (t : ℕ) → AllByRecursion IsQuiet (replicate n (Cell.Reserved a s w t))
quiet-replicate zero a s w t = tt
quiet-replicate (suc n) a s w t = (tt, quiet-replicate n a s w t)

get-replicate : {A : Type 0} (n k : ℕ) (x y : A) → slice_get (replicate n x) k ≡ Some y → x ≡ y
get-replicate zero k x y e = absurd (cc)
get-replicate (suc n) zero x y e = cc
get-replicate (suc n) (suc k) x y e = get-replicate n k x y e

get-replicate-in : {A : Type 0} (n k : ℕ) (x : A) → k < n → slice_get (replicate n x) k ≡ Some x
get-replicate-in zero k x lt = absurd (omega arith)
get-replicate-in (suc n) zero x lt = refl
get-replicate-in (suc n) (suc k) x lt = get-replicate-in n k x (omega arith)

get-append : {A : Type 0} (xs ys : List A) (i : ℕ) → length xs ≤ i → slice_get (xs ++ ys) i ≡ slice_get ys (i - length xs)
get-append [] ys i h = ap (slice_get ys) (let e : i ≡ i - 0 = omega arith in e)
get-append (x ∷ xs) ys zero h = absurd (omega arith)
get-append (x ∷ xs) ys (suc i) h =
    let le : length xs ≤ i = omega arith in let e : i - length xs ≡ suc i - suc (length xs) = omega arith in get-append xs ys i le ∙ ap (slice_get ys) e

reserved-append : (now n : ℕ) (a : Name) (s : ℕ) (w : Name) (cells : List Cell) → AllByRecursion (reserved_by now) cells → AllByRecursion (reserved_by now) (cells ++ replicate n (Cell.Reserved a s w now))
reserved-append now zero a s w [] h = tt
reserved-append now (suc n) a s w [] h = (omega arith, reserved-append now n a s w [] tt)
reserved-append now n a s w (c ∷ cs) h = (h.0, reserved-append now n a s w cs h.1)

-- ---- the reservation

length-as_records : (a : Name) (n : ℕ) (es : List Event) → length (as_records a n es) ≡ length es
length-as_records a n [] = refl
length-as_records a n (e ∷ es) = ap suc (length-as_records a (suc n) es)

are-of : (a : Name) (n : ℕ) (es : List Event) → AreOf a n (as_records a n es)
are-of a n [] = tt
are-of a n (e ∷ es) = (refl, refl, are-of a (suc n) es)

few-records : (a : Name) (n : ℕ) (es : List Event) → list_all few_fields es ≡ true → list_all has_few_fields (as_records a n es) ≡ true
few-records a n [] h = refl
few-records a n (e ∷ es) h =
    let b = both (few_fields e) (list_all few_fields es) h in and-true (few_fields e) (list_all has_few_fields (as_records a (suc n) es)) b.0 (few-records a (suc n) es b.1)

first-as_records : (a : Name) (n : ℕ) (es : List Event) → 0 < length es → aggregate_of (as_records a n es) ≡ a
first-as_records a n [] h = absurd (omega arith)
first-as_records a n (e ∷ es) h = refl

-- ---- no other desk holds a cell beyond

test-false : (i first n len : ℕ) → ((k : ℕ) → k < n → first + k < len) → len ≤ i → (nat_le first i && nat_lt i (first + n)) ≡ false
test-false i first n len h past = at (nat_le first i) refl (nat_lt i (first + n)) refl
  where
    at : (b : Bool) → nat_le first i ≡ b → (c : Bool) → nat_lt i (first + n) ≡ c → (b && c) ≡ false
    at false e c d = refl
    at true e false d = refl
    at true e true d =
        let below : i < first + n = ltb-true i (first + n) d in
        let above : first ≤ i = grind (arith, nat_tests, e) in
        let here : first + (i - first) < len = h (i - first) (omega arith) in absurd (omega arith)

beyond : (cells : List Cell) (actor : Name) (d : Desk) (i : ℕ) → HoldsCells cells actor d → length cells ≤ i → holds_cell i d.reservation ≡ false
beyond cells actor d i h past = at d.reservation h
  where
    at : (o : Option Reservation) → IfSome o (IsReservation cells actor) → holds_cell i o ≡ false
    at None h = refl
    at (Some r) h = test-false i r.first (length r.records) (length cells) (λ k lt. held-within (aggregate_of r.records) r.first_seq actor cells (r.first + k) (h.held k lt)) past

all-beyond : (cells : List Cell) (actors : List Name) (n : ℕ) (desks : List Desk) (i : ℕ) → AllFrom (λ k d. HoldsCells cells (name_at actors k) d) n desks → length cells ≤ i
    → AllByRecursion (λ d. holds_cell i d.reservation ≡ false) desks
all-beyond cells actors n [] i h past = tt
all-beyond cells actors n (d ∷ ds) i h past = (beyond cells (name_at actors n) d i h.0 past, all-beyond cells actors (suc n) ds i h.1 past)

-- ---- the whole

pub kept-reserved : (m : State) (actor : ℕ) (a : Name) (es : List Event) → EventsFit es → length m.cells + length es ≤ max_cells → IsWellFormed m
    → IsWellFormed (with_reservation actor (Some (reservation_of m a es)) (with_cells (reserved_cells m actor a (length es)) m))
kept-reserved m actor a es fit room h = kept-reservation (with_cells later m) actor (Some r) (record { each = each; apart = apart }) grown
  where
    seq : ℕ
    seq = length_of a m.cells

    who : Name
    who = actor_name m actor

    old : Option Reservation
    old = (desk_at m actor).reservation

    voids : List Cell
    voids = released old m.cells

    cell : Cell
    cell = Cell.Reserved a seq who m.clock

    later : List Cell
    later = voids ++ replicate (length es) cell

    r : Reservation
    r = reservation_of m a es

    desk : Desk
    desk = record (desk_at m actor) { reservation = Some r }

    g : Grows m.cells later
    g = grows-append m.cells voids (replicate (length es) cell) (grows-released old m.cells) (quiet-replicate (length es) a seq who m.clock)

    length-voids : length voids ≡ length m.cells
    length-voids = length-released old m.cells

    size : length later ≤ max_cells
    size =
        let l : length later ≡ length voids + length (replicate (length es) cell) = length-append voids (replicate (length es) cell) in
        let n : length (replicate (length es) cell) ≡ length es = length-replicate {A = Cell} (length es) cell in let v : length voids ≡ length m.cells = length-voids in omega arith

    fresh : (i : ℕ) (b : Name) (s : ℕ) (w : Name) (t : ℕ) → slice_get later i ≡ Some (Cell.Reserved b s w t) → length m.cells ≤ i → s ≡ length_of b m.cells
    fresh i b s w t e past =
        let v : length voids ≡ length m.cells = length-voids in
        let at : slice_get later i ≡ slice_get (replicate (length es) cell) (i - length voids) = get-append voids (replicate (length es) cell) i (omega arith) in
        let is : cell ≡ Cell.Reserved b s w t = get-replicate (length es) (i - length voids) cell (Cell.Reserved b s w t) (sym at ∙ e) in
        let ab : a ≡ b = cc in let us : seq ≡ s = cc in sym us ∙ ap (λ (x : Name). length_of x m.cells) ab

    cell-at : (k : ℕ) → k < length r.records → slice_get later (length m.cells + k) ≡ Some cell
    cell-at k lt =
        let v : length voids ≡ length m.cells = length-voids in
        let n : length r.records ≡ length es = length-as_records a seq es in
        let at : slice_get later (length m.cells + k) ≡ slice_get (replicate (length es) cell) (length m.cells + k - length voids) = get-append voids (replicate (length es) cell) (length m.cells + k) (omega arith) in
        at ∙ get-replicate-in (length es) (length m.cells + k - length voids) cell (omega arith)

    mine : HoldsCells later (name_at m.setting.actors actor) desk
    mine =
        let is : aggregate_of r.records ≡ a = first-as_records a seq es fit.some in
        let n : length r.records ≡ length es = length-as_records a seq es in
        let k : 0 < length es = fit.some in
        record {
          some = omega arith;
          numbered = subst (λ (x : Name). AreOf x seq r.records) (sym is) (are-of a seq es);
          small = few-records a seq es fit.fields;
          held = λ k lt. rw (is, cell-at k lt) (refl, refl, refl);
        }

    grown : IsWellFormed (with_cells later m)
    grown = kept-grown m later g (ordered-grows m.cells later g size fresh h.log) (reserved-append m.clock (length es) a seq who voids (reserved-released m.clock old m.cells h.clock.reserved)) h

    each : AllFrom (λ k d. HoldsCells later (name_at m.setting.actors k) d) 0 (slice_set m.desks actor desk)
    each = AllFrom-set (λ k d. HoldsCells later (name_at m.setting.actors k) d) 0 m.desks actor desk grown.reserved.each
        (λ k e. let same : actor ≡ k = omega arith in subst (λ (i : ℕ). HoldsCells later (name_at m.setting.actors i) desk) same mine)

    apart : (i : ℕ) → count (λ d. holds_cell i d.reservation) (slice_set m.desks actor desk) ≤ 1
    apart i = at (nat_lt i (length m.cells)) refl
      where
        more : count (λ d. holds_cell i d.reservation) (slice_set m.desks actor desk) ≤ count (λ d. holds_cell i d.reservation) m.desks + one (holds_cell i (Some r))
        more = count-set (λ d. holds_cell i d.reservation) m.desks actor desk

        at : (b : Bool) → nat_lt i (length m.cells) ≡ b → count (λ d. holds_cell i d.reservation) (slice_set m.desks actor desk) ≤ 1
        at true e =
            let lt : i < length m.cells = ltb-true i (length m.cells) e in
            let none : nat_le (length m.cells) i ≡ false = grind (arith, nat_tests) in
            let zero : one (holds_cell i (Some r)) ≡ 0 = ap (λ (b : Bool). one (b && nat_lt i (length m.cells + length r.records))) none in
            let was : count (λ d. holds_cell i d.reservation) m.desks ≤ 1 = h.reserved.apart i in omega (arith, more)
        at false e =
            let past : length m.cells ≤ i = ltb-false i (length m.cells) e in
            let none : count (λ d. holds_cell i d.reservation) m.desks ≡ 0 = count-none (λ d. holds_cell i d.reservation) m.desks (all-beyond m.cells m.setting.actors 0 m.desks i h.reserved.each past) in
            let bit : one (holds_cell i (Some r)) ≤ 1 = one-most (holds_cell i (Some r)) in omega (arith, more)

kept-events : (m : State) (actor : ℕ) (a : Name) (es : List Event) → EventsFit es → IsWellFormed m → IsWellFormed (sent_events m actor a es).state
kept-events m actor a es fit h = at (nat_lt max_cells (length m.cells + length es)) refl
  where
    done : Answer
    done = answer (with_reservation actor (Some (reservation_of m a es)) (with_cells (reserved_cells m actor a (length es)) m)) (Reply.Reserved (length m.cells) (length es) (length_of a m.cells))

    at : (b : Bool) → nat_lt max_cells (length m.cells + length es) ≡ b → IsWellFormed (if b then answer m Reply.LogFull else done).state
    at true e = h
    at false e = kept-reserved m actor a es fit (ltb-false max_cells (length m.cells + length es) e) h

pub kept-send : (m : State) (actor : ℕ) (a command : Name) (args : Payload) → is_some (command_named m.setting.sheet command) ≡ true → IsWellFormed m → IsWellFormed (send m actor a command args).state
kept-send m actor a command args declared h = by (command_named m.setting.sheet command) refl declared
  where
    at : (c : Command) → command_named m.setting.sheet command ≡ Some c → (d : Decided) → decision c args (aggregate_state m a) ≡ d → IsWellFormed (sent_decided m actor a d).state
    at c f (Decided.Guard n) e = h
    at c f (Decided.Events es) e =
        kept-events m actor a es (decision-fits (length m.setting.sheet.aggregate.fields) c args (aggregate_state m a) es (command-fits m.setting.sheet command c h.sheet f) e) h

    by : (o : Option Command) → command_named m.setting.sheet command ≡ o → is_some o ≡ true → IsWellFormed (sent_decided m actor a (decision (option_or no_command o) args (aggregate_state m a))).state
    by None f some = absurd (cc)
    by (Some c) f some = at c f (decision c args (aggregate_state m a)) refl
