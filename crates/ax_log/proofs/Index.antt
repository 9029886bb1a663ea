-- What the index says of an aggregate's events, and what stays of it when a cell is put.
use Rattle.std.specs.Prelude.{◌≡◌, ℕ, zero, suc, ◌+◌, ◌<◌, ◌≤◌, ◌⊎◌, ◌==◌, Bool, true, false, List, [], ◌∷◌, ◌++◌, length, filter, take, Option, Some, None, slice_get, slice_set, if◌then◌else◌}
use Rattle.std.proofs.Common.{refl, ap, sym, ◌∙◌, subst, ⊎_elim, arith}
use Rattle.std.proofs.lemmas.Bool.{cases_lt}
use Rattle.std.proofs.lemmas.Bool.Decides.{nat_tests}
use borrow.Author.Tests.{eqb-true}
use Rattle.std.proofs.lemmas.List.{take-take, length-take}
use Rattle.std.proofs.lemmas.Slice.Eq.{bytes_eq-Decides}
use Rattle.ax_laws.proofs.Options.{some-is}
use Rattle.ax_values.specs.Grammar.{Name}
use Rattle.ax_values.specs.declared.record.Record.{Record}
use Rattle.ax_values.specs.declared.cell.Cell.{Cell}
use Rattle.ax_log.specs.Log.{Stored, events_from, is_of, stream_of, length_of, option_is, put_at}
use Rattle.ax_log.specs.Order.{AreNumbered, IsOrdered}
use Rattle.ax_log.specs.Puts.{CanPut}
use Rattle.ax_log.specs.Index.{has_event_of, IsLast, last_of, IsIndexed, last_after, before_of}
use Rattle.ax_log.proofs.CellPutLaws.{put, IsOpen, is_open, place-open, put_at-put, grown-put, get-same, get-other, take-before, take-past, open-next, open-take, Misses, filter-other}

-- ---- events of a test

-- what is numbered from two numbers is nothing
numbered-twice : (n : ℕ) (es : List Stored) → AreNumbered n es → AreNumbered (suc n) es → [] ≡ es
numbered-twice n [] h j = refl
numbered-twice n (e ∷ es) h j = let a : e.record_of.seq ≡ n = h.0 in let b : e.record_of.seq ≡ suc n = j.0 in absurd (omega arith)

-- where an event is put and all stay numbered, no event that passes stands from there on
none-behind : (t : Stored → Bool) (cells : List Cell) (n k i : ℕ) (r : Record) → IsOpen cells i → ((j : ℕ) → t (record { index = j; record_of = r }) ≡ true)
    → AreNumbered n (filter t (events_from k cells)) → AreNumbered n (filter t (events_from k (put i (Cell.Event r) cells)))
    → filter t (events_from k (take i cells)) ≡ filter t (events_from k cells)
none-behind t [] n k zero r o own h j = refl
none-behind t (Cell.Reserved a s w u ∷ cs) n k zero r o own h j =
    let later : AreNumbered n (if true then record { index = k; record_of = r } ∷ filter t (events_from (suc k) cs) else filter t (events_from (suc k) cs)) =
    subst (λ (b : Bool). AreNumbered n (if b then record { index = k; record_of = r } ∷ filter t (events_from (suc k) cs) else filter t (events_from (suc k) cs))) (own k) j in
    numbered-twice n (filter t (events_from (suc k) cs)) h later.1
none-behind t (Cell.Void ∷ cs) n k zero r o own h j = absurd (let e : false ≡ true = o.free in cc)
none-behind t (Cell.Event q ∷ cs) n k zero r o own h j = absurd (let e : false ≡ true = o.free in cc)
none-behind t [] n k (suc i) r o own h j = refl
none-behind t (Cell.Reserved a s w u ∷ cs) n k (suc i) r o own h j = none-behind t cs n (suc k) i r (open-next (Cell.Reserved a s w u) cs i o) own h j
none-behind t (Cell.Void ∷ cs) n k (suc i) r o own h j = none-behind t cs n (suc k) i r (open-next Cell.Void cs i o) own h j
none-behind t (Cell.Event q ∷ cs) n k (suc i) r o own h j =
    at (t event) (filter t (events_from (suc k) (take i cs))) (filter t (events_from (suc k) cs)) (filter t (events_from (suc k) (put i (Cell.Event r) cs))) h j
    (λ m x y. none-behind t cs m (suc k) i r (open-next (Cell.Event q) cs i o) own x y)
  where
    event : Stored
    event = record { index = k; record_of = q }

    at : (b : Bool) (front all later : List Stored) → AreNumbered n (if b then event ∷ all else all) → AreNumbered n (if b then event ∷ later else later)
        → ((m : ℕ) → AreNumbered m all → AreNumbered m later → front ≡ all) → (if b then event ∷ front else front) ≡ (if b then event ∷ all else all)
    at true front all later x y again = ap (λ es. event ∷ es) (again (suc n) x.1 y.1)
    at false front all later x y again = again n x y

tail-same : {A : Type 0} (x : A) (xs ys : List A) → x ∷ xs ≡ x ∷ ys → xs ≡ ys
tail-same x xs ys e = cc

-- where all events that pass stand before i, one that passes does
stands-before : (t : Stored → Bool) (cells : List Cell) (k i j : ℕ) (q : Record) → ((m : ℕ) → t (record { index = m; record_of = q }) ≡ true)
    → filter t (events_from k (take i cells)) ≡ filter t (events_from k cells) → slice_get cells j ≡ Some (Cell.Event q) → j < i
stands-before t [] k i j q own e at = absurd (cc)
stands-before t (c ∷ cs) k (suc i) zero q own e at = omega arith
stands-before t (c ∷ cs) k zero zero q own e at = absurd (none (own k) e (same at))
  where
    same : Some c ≡ Some (Cell.Event q) → c ≡ Cell.Event q
    same h = cc

    none : t (record { index = k; record_of = q }) ≡ true → [] ≡ filter t (events_from k (c ∷ cs)) → c ≡ Cell.Event q → ⊥
    none own-k h is =
        let g : [] ≡ filter t (events_from k (Cell.Event q ∷ cs)) = subst (λ (x : Cell). [] ≡ filter t (events_from k (x ∷ cs))) is h in
        let f : [] ≡ record { index = k; record_of = q } ∷ filter t (events_from (suc k) cs) =
        subst (λ (b : Bool). [] ≡ (if b then record { index = k; record_of = q } ∷ filter t (events_from (suc k) cs) else filter t (events_from (suc k) cs))) own-k g in
        cc
stands-before t (Cell.Reserved a s w u ∷ cs) k zero (suc j) q own e at = let lt : j < 0 = stands-before t cs (suc k) zero j q own e at in absurd (omega arith)
stands-before t (Cell.Void ∷ cs) k zero (suc j) q own e at = let lt : j < 0 = stands-before t cs (suc k) zero j q own e at in absurd (omega arith)
stands-before t (Cell.Event p ∷ cs) k zero (suc j) q own e at = absurd (none (t (record { index = k; record_of = p })) e (λ h. stands-before t cs (suc k) zero j q own h at))
  where
    none : (b : Bool) → [] ≡ (if b then record { index = k; record_of = p } ∷ filter t (events_from (suc k) cs) else filter t (events_from (suc k) cs)) → ([] ≡ filter t (events_from (suc k) cs) → j < 0) → ⊥
    none true h again = cc
    none false h again = let lt : j < 0 = again h in omega arith
stands-before t (Cell.Reserved a s w u ∷ cs) k (suc i) (suc j) q own e at = let lt : j < i = stands-before t cs (suc k) i j q own e at in omega arith
stands-before t (Cell.Void ∷ cs) k (suc i) (suc j) q own e at = let lt : j < i = stands-before t cs (suc k) i j q own e at in omega arith
stands-before t (Cell.Event p ∷ cs) k (suc i) (suc j) q own e at =
    let lt : j < i = rest (t event) (filter t (events_from (suc k) (take i cs))) (filter t (events_from (suc k) cs)) e (λ h. stands-before t cs (suc k) i j q own h at) in omega arith
  where
    event : Stored
    event = record { index = k; record_of = p }

    rest : (b : Bool) (front all : List Stored) → (if b then event ∷ front else front) ≡ (if b then event ∷ all else all) → (front ≡ all → j < i) → j < i
    rest true front all h again = again (tail-same event front all h)
    rest false front all h again = again h

-- the events of a front with one more cell, that has an event that passes
one-more : (t : Stored → Bool) (cells : List Cell) (k i : ℕ) (q : Record) → ((m : ℕ) → t (record { index = m; record_of = q }) ≡ true) → slice_get cells i ≡ Some (Cell.Event q)
    → filter t (events_from k (take (suc i) cells)) ≡ filter t (events_from k (take i cells)) ++ record { index = k + i; record_of = q } ∷ []
one-more t [] k i q own at = absurd (cc)
one-more t (c ∷ cs) k zero q own at = first (same at) (own k)
  where
    same : Some c ≡ Some (Cell.Event q) → c ≡ Cell.Event q
    same h = cc

    first : c ≡ Cell.Event q → t (record { index = k; record_of = q }) ≡ true → filter t (events_from k (c ∷ [])) ≡ record { index = k + 0; record_of = q } ∷ []
    first is own-k =
        let z : k ≡ k + 0 = omega arith in
        ap (λ (x : Cell). filter t (events_from k (x ∷ []))) is ∙ ap (λ (b : Bool). if b then record { index = k; record_of = q } ∷ [] else []) own-k ∙ ap (λ (n : ℕ). record { index = n; record_of = q } ∷ []) z
one-more t (Cell.Reserved a s w u ∷ cs) k (suc i) q own at = one-more t cs (suc k) i q own at ∙ (let z : suc k + i ≡ k + suc i = omega arith in ap (λ (n : ℕ). filter t (events_from (suc k) (take i cs)) ++ record { index = n; record_of = q } ∷ []) z)
one-more t (Cell.Void ∷ cs) k (suc i) q own at = one-more t cs (suc k) i q own at ∙ (let z : suc k + i ≡ k + suc i = omega arith in ap (λ (n : ℕ). filter t (events_from (suc k) (take i cs)) ++ record { index = n; record_of = q } ∷ []) z)
one-more t (Cell.Event p ∷ cs) k (suc i) q own at =
    (let z : suc k + i ≡ k + suc i = omega arith in rest (t event) (filter t (events_from (suc k) (take (suc i) cs))) (filter t (events_from (suc k) (take i cs))) (one-more t cs (suc k) i q own at ∙ ap (λ (n : ℕ). filter t (events_from (suc k) (take i cs)) ++ record { index = n; record_of = q } ∷ []) z))
  where
    event : Stored
    event = record { index = k; record_of = p }

    rest : (b : Bool) (more front : List Stored) → more ≡ front ++ record { index = k + suc i; record_of = q } ∷ []
        → (if b then event ∷ more else more) ≡ (if b then event ∷ front else front) ++ record { index = k + suc i; record_of = q } ∷ []
    rest true more front h = ap (λ es. event ∷ es) h
    rest false more front h = h

-- the number of the last of numbered events
numbered-last : (n : ℕ) (es : List Stored) (e : Stored) → AreNumbered n (es ++ e ∷ []) → e.record_of.seq ≡ n + length es
numbered-last n [] e h = let a : e.record_of.seq ≡ n = h.0 in omega arith
numbered-last n (x ∷ es) e h = let a : e.record_of.seq ≡ suc n + length es = numbered-last (suc n) es e h.1 in omega arith

length-one-more : {A : Type 0} (xs : List A) (x : A) → length (xs ++ x ∷ []) ≡ suc (length xs)
length-one-more [] x = refl
length-one-more (y ∷ ys) x = ap suc (length-one-more ys x)

-- ---- cells with an event of an aggregate

-- the event in such a cell
pub event-in : (a : Name) (o : Option Cell) → option_is (has_event_of a) o ≡ true → (r : Record) × (o ≡ Some (Cell.Event r)) × (r.aggregate ≡ a)
event-in a None h = absurd (cc)
event-in a (Some (Cell.Reserved b s w t)) h = absurd (cc)
event-in a (Some Cell.Void) h = absurd (cc)
event-in a (Some (Cell.Event r)) h = (r, refl, (bytes_eq-Decides r.aggregate a).0 h)

is-own : (a : Name) (r : Record) → r.aggregate ≡ a → (j : ℕ) → is_of a (record { index = j; record_of = r }) ≡ true
is-own a r e j = (bytes_eq-Decides r.aggregate a).1 e

misses-other : (a : Name) (x : Cell) → has_event_of a x ≡ false → Misses (is_of a) x
misses-other a (Cell.Reserved b s w t) h = tt
misses-other a Cell.Void h = tt
misses-other a (Cell.Event r) h = λ j. h

-- ---- the last event of an aggregate

-- the events that end with it
pub up_to_last : (a : Name) (cells : List Cell) (k : ℕ) (r : Record) → slice_get cells k ≡ Some (Cell.Event r) → r.aggregate ≡ a
    → stream_of a (take (suc k) cells) ≡ stream_of a (take k cells) ++ record { index = k; record_of = r } ∷ []
up_to_last a cells k r at own =
    let z : 0 + k ≡ k = omega arith in
    one-more (is_of a) cells 0 k r (is-own a r own) at ∙ ap (λ (n : ℕ). stream_of a (take k cells) ++ record { index = n; record_of = r } ∷ []) z

-- where there is none, the stream has no events, and else as many as its number says
pub none_long : (a : Name) (cells : List Cell) → IsLast a cells 0 → length_of a cells ≡ 0
none_long a cells h = ap (λ (es : List Stored). length es) (sym h.all)

pub last_long : (a : Name) (cells : List Cell) (k : ℕ) (r : Record) → IsLast a cells (suc k) → AreNumbered 0 (stream_of a cells) → slice_get cells k ≡ Some (Cell.Event r) → suc r.seq ≡ length_of a cells
last_long a cells k r h n at = suc-seq
  where
    found : (q : Record) × (slice_get cells k ≡ Some (Cell.Event q)) × (q.aggregate ≡ a)
    found = event-in a (slice_get cells k) (h.own k refl)

    same : Some (Cell.Event found.0) ≡ Some (Cell.Event r) → found.0 ≡ r
    same e = cc

    own : r.aggregate ≡ a
    own = ap (λ (q : Record). q.aggregate) (sym (same (sym found.1 ∙ at))) ∙ found.2

    is : stream_of a cells ≡ stream_of a (take k cells) ++ record { index = k; record_of = r } ∷ []
    is = sym h.all ∙ up_to_last a cells k r at own

    suc-seq : suc r.seq ≡ length_of a cells
    suc-seq =
        let s : r.seq ≡ 0 + length (stream_of a (take k cells)) = numbered-last 0 (stream_of a (take k cells)) (record { index = k; record_of = r }) (subst (AreNumbered 0) is n) in
        let l : length_of a cells ≡ suc (length (stream_of a (take k cells))) = ap (λ (es : List Stored). length es) is ∙ length-one-more (stream_of a (take k cells)) (record { index = k; record_of = r }) in
        omega arith

-- the cell of a last event holds an event
pub last_within : (a : Name) (cells : List Cell) (k : ℕ) → IsLast a cells (suc k) → (r : Record) × (slice_get cells k ≡ Some (Cell.Event r)) × (r.aggregate ≡ a)
last_within a cells k h = event-in a (slice_get cells k) (h.own k refl)

-- ---- a cell is put

-- a cell without an event of the aggregate leaves its events in every front
stream-other : (cells : List Cell) (i : ℕ) (x : Cell) (a : Name) (j : ℕ) → IsOpen cells i → Misses (is_of a) x → stream_of a (take j (put i x cells)) ≡ stream_of a (take j cells)
stream-other cells i x a j o m =
    ⊎_elim (λ (h : i < j). ap (λ (cs : List Cell). stream_of a cs) (take-past cells i j x h) ∙ filter-other (is_of a) (take j cells) 0 i x (open-take cells i j h o) m)
    (λ (h : j ≤ i). ap (λ (cs : List Cell). stream_of a cs) (take-before cells i j x h)) (cases_lt i j)

-- an open place has no event
open-empty : (a : Name) (o : Option Cell) → is_open o ≡ true → option_is (has_event_of a) o ≡ true → ⊥
open-empty a None h e = cc
open-empty a (Some (Cell.Reserved b s w t)) h e = cc
open-empty a (Some Cell.Void) h e = cc
open-empty a (Some (Cell.Event r)) h e = cc

longer-put : (cells : List Cell) (i : ℕ) (x : Cell) → length cells ≤ length (put i x cells)
longer-put [] zero x = omega arith
longer-put (c ∷ cs) zero x = omega arith
longer-put [] (suc i) x = omega arith
longer-put (c ∷ cs) (suc i) x = let rest : length cs ≤ length (put i x cs) = longer-put cs i x in omega arith

-- the last event of another aggregate stays the last
last-other : (cells : List Cell) (i : ℕ) (x : Cell) (a : Name) (l : ℕ) → IsOpen cells i → Misses (is_of a) x → IsLast a cells l → IsLast a (put i x cells) l
last-other cells i x a l o m h = record {
  within = (let le : l ≤ length cells = h.within in let more : length cells ≤ length (put i x cells) = longer-put cells i x in omega arith);
  all = stream-other cells i x a l o m ∙ h.all ∙ sym (filter-other (is_of a) cells 0 i x o m);
  own = λ k e. ap (option_is (has_event_of a)) (get-other cells i k x (λ same. open-empty a (slice_get cells i) o.free (ap (λ (j : ℕ). option_is (has_event_of a) (slice_get cells j)) (sym same) ∙ h.own k e))) ∙ h.own k e;
}

-- an event behind all events of its aggregate is the last
last-own : (cells : List Cell) (i : ℕ) (r : Record) (a : Name) → IsOpen cells i → r.aggregate ≡ a → stream_of a (take (suc i) (put i (Cell.Event r) cells)) ≡ stream_of a (put i (Cell.Event r) cells) → IsLast a (put i (Cell.Event r) cells) (suc i)
last-own cells i r a o own e = record {
  within = grown-put cells i (Cell.Event r) o.within;
  all = e;
  own = λ k same. (let is : k ≡ i = omega arith in ap (λ (j : ℕ). option_is (has_event_of a) (slice_get (put i (Cell.Event r) cells) j)) is) ∙ ap (option_is (has_event_of a)) (get-same cells i (Cell.Event r) o.within) ∙ (bytes_eq-Decides r.aggregate a).1 own;
}

-- where all its events stand before the place, one put there is the last
last-put : (t : Stored → Bool) (cells : List Cell) (k i : ℕ) (r : Record) → IsOpen cells i → filter t (events_from k (take i cells)) ≡ filter t (events_from k cells)
    → filter t (events_from k (take (suc i) (put i (Cell.Event r) cells))) ≡ filter t (events_from k (put i (Cell.Event r) cells))
last-put t [] k zero r o e = refl
last-put t (Cell.Reserved a s w u ∷ cs) k zero r o e =
    ap (λ (es : List Stored). if t (record { index = k; record_of = r }) then record { index = k; record_of = r } ∷ es else es) e
last-put t (Cell.Void ∷ cs) k zero r o e = absurd (let f : false ≡ true = o.free in cc)
last-put t (Cell.Event q ∷ cs) k zero r o e = absurd (let f : false ≡ true = o.free in cc)
last-put t [] k (suc i) r o e = refl
last-put t (Cell.Reserved a s w u ∷ cs) k (suc i) r o e = last-put t cs (suc k) i r (open-next (Cell.Reserved a s w u) cs i o) e
last-put t (Cell.Void ∷ cs) k (suc i) r o e = last-put t cs (suc k) i r (open-next Cell.Void cs i o) e
last-put t (Cell.Event q ∷ cs) k (suc i) r o e =
    rest (t event) (filter t (events_from (suc k) (take i cs))) (filter t (events_from (suc k) cs)) (filter t (events_from (suc k) (take (suc i) (put i (Cell.Event r) cs)))) (filter t (events_from (suc k) (put i (Cell.Event r) cs))) e
    (λ h. last-put t cs (suc k) i r (open-next (Cell.Event q) cs i o) h)
  where
    event : Stored
    event = record { index = k; record_of = q }

    rest : (b : Bool) (front all more later : List Stored) → (if b then event ∷ front else front) ≡ (if b then event ∷ all else all) → (front ≡ all → more ≡ later) → (if b then event ∷ more else more) ≡ (if b then event ∷ later else later)
    rest true front all more later h again = ap (λ es. event ∷ es) (again (tail-same event front all h))
    rest false front all more later h again = again h

pub get-front : {A : Type 0} (xs : List A) (i k : ℕ) → k < i → slice_get (take i xs) k ≡ slice_get xs k
get-front xs zero k h = absurd (omega arith)
get-front [] (suc i) k h = refl
get-front (x ∷ xs) (suc i) zero h = refl
get-front (x ∷ xs) (suc i) (suc k) h = get-front xs i k (omega arith)

-- the last event of all is the last of a front that has all events of the aggregate
last-front : (a : Name) (cells : List Cell) (i l : ℕ) → stream_of a (take i cells) ≡ stream_of a cells → IsLast a cells l → IsLast a (take i cells) l
last-front a cells i l e h = record {
  within = (let le : l ≤ length cells = h.within in let size = length-take {A = Cell} i cells in omega (arith, le, size, below));
  all = ap (λ (cs : List Cell). stream_of a cs) (take-take l i cells below) ∙ h.all ∙ sym e;
  own = λ k is. ap (option_is (has_event_of a)) (get-front cells i k (before k is)) ∙ h.own k is;
}
  where
    before : (k : ℕ) → l ≡ suc k → k < i
    before k is =
        let found : (q : Record) × (slice_get cells k ≡ Some (Cell.Event q)) × (q.aggregate ≡ a) = event-in a (slice_get cells k) (h.own k is) in
        stands-before (is_of a) cells 0 i k found.0 (is-own a found.0 found.2) e found.1

    at-most : (m : ℕ) → l ≡ m → l ≤ i
    at-most zero is = omega arith
    at-most (suc k) is = let lt : k < i = before k is in omega arith

    below : l ≤ i
    below = at-most l refl

-- ---- a number is put beside it

get-end : {A : Type 0} (xs : List A) (x : A) (j : ℕ) → j ≡ length xs → slice_get (xs ++ x ∷ []) j ≡ Some x
get-end [] x zero e = refl
get-end [] x (suc j) e = absurd (omega arith)
get-end (y ∷ ys) x zero e = absurd (omega arith)
get-end (y ∷ ys) x (suc j) e = get-end ys x j (omega arith)

get-end-other : {A : Type 0} (xs : List A) (x : A) (j : ℕ) → (j ≡ length xs → ⊥) → slice_get (xs ++ x ∷ []) j ≡ slice_get xs j
get-end-other [] x zero apart = absurd (apart refl)
get-end-other [] x (suc j) apart = refl
get-end-other (y ∷ ys) x zero apart = refl
get-end-other (y ∷ ys) x (suc j) apart = get-end-other ys x j (λ e. apart (ap suc e))

get-set : {A : Type 0} (xs : List A) (i : ℕ) (x : A) → i < length xs → slice_get (slice_set xs i x) i ≡ Some x
get-set [] i x h = absurd (omega arith)
get-set (y ∷ ys) zero x h = refl
get-set (y ∷ ys) (suc i) x h = get-set ys i x (omega arith)

get-set-other : {A : Type 0} (xs : List A) (i : ℕ) (x : A) (j : ℕ) → (j ≡ i → ⊥) → slice_get (slice_set xs i x) j ≡ slice_get xs j
get-set-other [] i x j apart = refl
get-set-other (y ∷ ys) zero x zero apart = absurd (apart refl)
get-set-other (y ∷ ys) zero x (suc j) apart = refl
get-set-other (y ∷ ys) (suc i) x zero apart = refl
get-set-other (y ∷ ys) (suc i) x (suc j) apart = get-set-other ys i x j (λ e. apart (ap suc e))

length-set : {A : Type 0} (xs : List A) (i : ℕ) (x : A) → length (slice_set xs i x) ≡ length xs
length-set [] i x = refl
length-set (y ∷ ys) zero x = refl
length-set (y ∷ ys) (suc i) x = ap suc (length-set ys i x)

put_at-same : {A : Type 0} (xs : List A) (i : ℕ) (x : A) → i ≤ length xs → slice_get (put_at xs i x) i ≡ Some x
put_at-same xs i x h = at (i == length xs) refl
  where
    at : (b : Bool) → (i == length xs) ≡ b → slice_get (if b then xs ++ x ∷ [] else slice_set xs i x) i ≡ Some x
    at true e = get-end xs x i (eqb-true i (length xs) e)
    at false e = get-set xs i x (grind (arith, nat_tests))

put_at-other : {A : Type 0} (xs : List A) (i : ℕ) (x : A) (j : ℕ) → (j ≡ i → ⊥) → slice_get (put_at xs i x) j ≡ slice_get xs j
put_at-other xs i x j apart = at (i == length xs) refl
  where
    at : (b : Bool) → (i == length xs) ≡ b → slice_get (if b then xs ++ x ∷ [] else slice_set xs i x) j ≡ slice_get xs j
    at true e = get-end-other xs x j (λ same. apart (same ∙ sym (eqb-true i (length xs) e)))
    at false e = get-set-other xs i x j apart

put_at-long : {A B : Type 0} (xs : List A) (ys : List B) (i : ℕ) (x : A) (y : B) → length xs ≡ length ys → length (put_at xs i x) ≡ length (put_at ys i y)
put_at-long xs ys i x y e = at (i == length xs) (i == length ys) (ap (λ (n : ℕ). i == n) e)
  where
    at : (b c : Bool) → b ≡ c → length (if b then xs ++ x ∷ [] else slice_set xs i x) ≡ length (if c then ys ++ y ∷ [] else slice_set ys i y)
    at true true same = length-one-more xs x ∙ ap suc e ∙ sym (length-one-more ys y)
    at false false same = length-set xs i x ∙ e ∙ sym (length-set ys i y)
    at true false same = absurd (cc)
    at false true same = absurd (cc)

-- ---- the index after a put

-- without cells there is nothing to index
pub index_none : IsIndexed [] [] []
index_none = record { long = refl; linked = λ i r l e. absurd (cc); lasts = λ a. record { within = omega arith; all = refl; own = λ k e. absurd (omega arith) } }

pub index_put : (cells : List Cell) (before : List ℕ) (last later : List (Name × ℕ)) (i : ℕ) (x : Cell) → CanPut cells (record { index = i; cell = x }) → IsOrdered cells → IsIndexed cells before last
    → ((a : Name) → last_of a later ≡ last_after i x a (last_of a last)) → IsIndexed (put_at cells i x) (put_at before i (before_of x last)) later
index_put cells before last later i x can h index lasts = record {
  long = put_at-long before cells i (before_of x last) x index.long;
  linked = λ j r l e f. subst (λ (cs : List Cell). IsLast r.aggregate (take j cs) l) (sym is) (linked j r l (ap (λ (cs : List Cell). slice_get cs j) (sym is) ∙ e) f (cases_lt i j) (cases_lt j i));
  lasts = λ a. subst (λ (cs : List Cell). IsLast a cs (last_of a later)) (sym is) (kept a (has_event_of a x) refl);
}
  where
    o : IsOpen cells i
    o = place-open cells i can.place

    is : put_at cells i x ≡ put i x cells
    is = put_at-put cells i x o.within

    -- of an aggregate that the cell has an event of all others stand before
    behind : (a : Name) → has_event_of a x ≡ true → (r : Record) × (x ≡ Cell.Event r) × (r.aggregate ≡ a) × (stream_of a (take i cells) ≡ stream_of a cells)
    behind a e =
        let found : (r : Record) × (Some x ≡ Some (Cell.Event r)) × (r.aggregate ≡ a) = event-in a (Some x) e in
        let cell : x ≡ Cell.Event found.0 = same found.0 found.1 in
        (found.0, cell, found.2, none-behind (is_of a) cells 0 0 i found.0 o (is-own a found.0 found.2) (h.numbered a) (subst (λ (y : Cell). AreNumbered 0 (stream_of a (put i y cells))) cell (subst (λ (cs : List Cell). AreNumbered 0 (stream_of a cs)) is (can.after.numbered a))))
      where
        same : (r : Record) → Some x ≡ Some (Cell.Event r) → x ≡ Cell.Event r
        same r f = cc

    kept : (a : Name) (b : Bool) → has_event_of a x ≡ b → IsLast a (put i x cells) (last_of a later)
    kept a true e =
        let b : (r : Record) × (x ≡ Cell.Event r) × (r.aggregate ≡ a) × (stream_of a (take i cells) ≡ stream_of a cells) = behind a e in
        subst (IsLast a (put i x cells)) (sym (lasts a ∙ ap (λ (t : Bool). if t then suc i else last_of a last) e))
        (subst (λ (y : Cell). IsLast a (put i y cells) (suc i)) (sym b.1) (last-own cells i b.0 a o b.2 (last-put (is_of a) cells 0 i b.0 o b.3)))
    kept a false e =
        subst (IsLast a (put i x cells)) (sym (lasts a ∙ ap (λ (t : Bool). if t then suc i else last_of a last) e))
        (last-other cells i x a (last_of a last) o (misses-other a x e) (index.lasts a))

    linked : (j : ℕ) (r : Record) (l : ℕ) → slice_get (put i x cells) j ≡ Some (Cell.Event r) → slice_get (put_at before i (before_of x last)) j ≡ Some l → (i < j) ⊎ (j ≤ i) → (j < i) ⊎ (i ≤ j) → IsLast r.aggregate (take j (put i x cells)) l
    linked j r l e f above below =
        ⊎_elim (λ (p : i < j). past p (has_event_of r.aggregate x) refl)
        (λ (p : j ≤ i). ⊎_elim (λ (q : j < i). front q) (λ (q : i ≤ j). here (omega arith)) below) above
      where
        old : (j ≡ i → ⊥) → IsLast r.aggregate (take j cells) l
        old apart = index.linked j r l (sym (get-other cells i j x apart) ∙ e) (sym (put_at-other before i (before_of x last) j apart) ∙ f)

        front : j < i → IsLast r.aggregate (take j (put i x cells)) l
        front q = subst (λ (cs : List Cell). IsLast r.aggregate cs l) (sym (take-before cells i j x (omega arith))) (old (λ same. absurd (omega arith)))

        past : i < j → (b : Bool) → has_event_of r.aggregate x ≡ b → IsLast r.aggregate (take j (put i x cells)) l
        past p true own =
            let b : (q : Record) × (x ≡ Cell.Event q) × (q.aggregate ≡ r.aggregate) × (stream_of r.aggregate (take i cells) ≡ stream_of r.aggregate cells) = behind r.aggregate own in
            let lt : j < i = stands-before (is_of r.aggregate) cells 0 i j r (is-own r.aggregate r refl) b.3 (sym (get-other cells i j x (λ same. absurd (omega arith))) ∙ e) in
            absurd (omega arith)
        past p false own =
            subst (λ (cs : List Cell). IsLast r.aggregate cs l) (sym (take-past cells i j x p)) (last-other (take j cells) i x r.aggregate l (open-take cells i j p o) (misses-other r.aggregate x own) (old (λ same. absurd (omega arith))))

        here : j ≡ i → IsLast r.aggregate (take j (put i x cells)) l
        here same =
            let cell : x ≡ Cell.Event r = some-is x (Cell.Event r) (sym (get-same cells i x o.within) ∙ ap (slice_get (put i x cells)) (sym same) ∙ e) in
            let long : i ≤ length before = (let le : i ≤ length cells = o.within in let eq : length before ≡ length cells = index.long in omega arith) in
            let number : before_of x last ≡ l = some-is (before_of x last) l (sym (put_at-same before i (before_of x last) long) ∙ ap (slice_get (put_at before i (before_of x last))) (sym same) ∙ f) in
            let is-last : last_of r.aggregate last ≡ l = ap (λ (y : Cell). before_of y last) (sym cell) ∙ number in
            let own : has_event_of r.aggregate x ≡ true = ap (has_event_of r.aggregate) cell ∙ (bytes_eq-Decides r.aggregate r.aggregate).1 refl in
            subst (λ (cs : List Cell). IsLast r.aggregate cs l) (sym (ap (λ (n : ℕ). take n (put i x cells)) same ∙ take-before cells i i x (omega arith)))
            (last-front r.aggregate cells i l (behind r.aggregate own).3 (subst (IsLast r.aggregate cells) is-last (index.lasts r.aggregate)))

-- the index speaks of heads alone
pub index_heads : (cells : List Cell) (before : List ℕ) (last later : List (Name × ℕ)) → IsIndexed cells before last → ((a : Name) → last_of a later ≡ last_of a last) → IsIndexed cells before later
index_heads cells before last later h same = record { long = h.long; linked = h.linked; lasts = λ a. subst (IsLast a cells) (sym (same a)) (h.lasts a) }
