-- Prefixes of streams: what all below a bound adds to one.
use Rattle.std.proofs.Common.{◌≡◌, ℕ, suc, ◌+◌, ◌≤◌, ◌&&◌, ◌||◌, Bool, true, false, not, IsTrue, List, [], ◌∷◌, map, filter, slice_get, if◌then◌else◌, refl, ap, ◌∙◌, arith, nat_lt}
use Rattle.std.specs.List.{AllByRecursion, list_all}
use Rattle.std.proofs.lemmas.Bool.Decides.{nat_tests}
use Rattle.ax_values.specs.Grammar.{Name}
use Rattle.ax_laws.proofs.Tests.{both, not-true}
use Rattle.ax_log.specs.Log.{Stored, events_from, events, stream_in, is_of, is_reserved, is_settled, option_is}
use Rattle.ax_state.specs.WellFormed.{is_prefix_test}
use Rattle.ax_state.proofs.Lists.{All-filter}
use Rattle.ax_values.specs.declared.cell.Cell.{Cell}

-- indexes rise, from n on
abbrev pub Rising : ℕ → List Stored → Type 0
Rising n [] = Unit {0}
Rising n (e ∷ es) = (n ≤ e.index) × Rising (suc e.index) es

rising-lower : (n m : ℕ) (es : List Stored) → n ≤ m → Rising m es → Rising n es
rising-lower n m [] le h = tt
rising-lower n m (e ∷ es) le h = (let a : m ≤ e.index = h.0 in omega arith, h.1)

rising-events : (k : ℕ) (cells : List Cell) → Rising k (events_from k cells)
rising-events k [] = tt
rising-events k (Cell.Reserved a s w t ∷ cells) = rising-lower k (suc k) (events_from (suc k) cells) (omega arith) (rising-events (suc k) cells)
rising-events k (Cell.Void ∷ cells) = rising-lower k (suc k) (events_from (suc k) cells) (omega arith) (rising-events (suc k) cells)
rising-events k (Cell.Event r ∷ cells) = (omega arith, rising-events (suc k) cells)

rising-filter : (t : Stored → Bool) (n : ℕ) (es : List Stored) → Rising n es → Rising n (filter t es)
rising-filter t n [] h = tt
rising-filter t n (e ∷ es) h =
    elim (t e) as (λ b. Rising n (if b then e ∷ filter t es else filter t es))
    [ true ↦ (h.0, rising-filter t (suc e.index) es h.1) | false ↦ rising-lower n (suc e.index) (filter t es) (let a : n ≤ e.index = h.0 in omega arith) (rising-filter t (suc e.index) es h.1) ]

pub rising-stream : (a : Name) (cells : List Cell) → Rising 0 (stream_in a (events cells))
rising-stream a cells = rising-filter (is_of a) 0 (events cells) (rising-events 0 cells)

-- the cells of events are settled
settled-from : (k : ℕ) (cells all : List Cell) → ((j : ℕ) → slice_get all (k + j) ≡ slice_get cells j) → AllByRecursion (λ e. IsTrue (is_settled all e.index)) (events_from k cells)
settled-from k [] all h = tt
settled-from k (Cell.Reserved a s w t ∷ cells) all h = settled-from (suc k) cells all (λ j. let e : suc k + j ≡ k + suc j = omega arith in ap (slice_get all) e ∙ h (suc j))
settled-from k (Cell.Void ∷ cells) all h = settled-from (suc k) cells all (λ j. let e : suc k + j ≡ k + suc j = omega arith in ap (slice_get all) e ∙ h (suc j))
settled-from k (Cell.Event r ∷ cells) all h = (
  (let e : k ≡ k + 0 = omega arith in ap (option_is (λ c. not (is_reserved c))) (ap (slice_get all) e ∙ h 0)),
  settled-from (suc k) cells all (λ j. let e : suc k + j ≡ k + suc j = omega arith in ap (slice_get all) e ∙ h (suc j)),
)

pub settled-stream : (a : Name) (cells : List Cell) → AllByRecursion (λ e. IsTrue (is_settled cells e.index)) (stream_in a (events cells))
settled-stream a cells = All-filter (λ e. IsTrue (is_settled cells e.index)) (is_of a) (events cells) (settled-from 0 cells cells (λ j. let e : 0 + j ≡ j = omega arith in ap (slice_get cells) e))

all-fail : (bs : List Bool) → list_all not bs ≡ true → is_prefix_test bs ≡ true
all-fail [] h = refl
all-fail (true ∷ bs) h = absurd (cc)
all-fail (false ∷ bs) h = h

past-bound : (old : ℕ → Bool) (b n : ℕ) (es : List Stored) → Rising n es → b ≤ n → list_all not (map (λ e. old e.index) es) ≡ true → list_all not (map (λ e. old e.index || nat_lt e.index b) es) ≡ true
past-bound old b n [] r le h = refl
past-bound old b n (e ∷ es) r le h =
    let k = both (not (old e.index)) (list_all not (map (λ e. old e.index) es)) h in
    let a : n ≤ e.index = r.0 in
    let no_bound : nat_lt e.index b ≡ false = grind (arith, nat_tests) in
    let no_old : old e.index ≡ false = not-true (old e.index) k.0 in
    ap (λ c. not (c || nat_lt e.index b) && list_all not (map (λ e. old e.index || nat_lt e.index b) es)) no_old
    ∙ ap (λ c. not c && list_all not (map (λ e. old e.index || nat_lt e.index b) es)) no_bound
    ∙ past-bound old b (suc e.index) es r.1 (omega arith) k.1

prefix-by : (old : ℕ → Bool) (b : ℕ) (e : Stored) (es : List Stored) (c d : Bool) → nat_lt e.index b ≡ d → Rising (suc e.index) es → is_prefix_test (c ∷ map (λ e. old e.index) es) ≡ true
    → (is_prefix_test (map (λ e. old e.index) es) ≡ true → is_prefix_test (map (λ e. old e.index || nat_lt e.index b) es) ≡ true)
    → is_prefix_test ((c || d) ∷ map (λ e. old e.index || nat_lt e.index b) es) ≡ true
prefix-by old b e es true d k r h again = again h
prefix-by old b e es false true k r h again = again (all-fail (map (λ e. old e.index) es) h)
prefix-by old b e es false false k r h again = past-bound old b (suc e.index) es r (let le : b ≤ e.index = grind (arith, nat_tests, k) in omega arith) h

-- a prefix, with all below a bound, is a prefix
pub prefix-grows : (old : ℕ → Bool) (b n : ℕ) (es : List Stored) → Rising n es → is_prefix_test (map (λ e. old e.index) es) ≡ true → is_prefix_test (map (λ e. old e.index || nat_lt e.index b) es) ≡ true
prefix-grows old b n [] r h = refl
prefix-grows old b n (e ∷ es) r h = prefix-by old b e es (old e.index) (nat_lt e.index b) refl r.1 h (prefix-grows old b (suc e.index) es r.1)

-- tests that agree on the events
pub same-tests : (f g : ℕ → Bool) (es : List Stored) → AllByRecursion (λ e. f e.index ≡ g e.index) es → map (λ e. f e.index) es ≡ map (λ e. g e.index) es
same-tests f g [] h = refl
same-tests f g (e ∷ es) h = ap (λ b. b ∷ map (λ e. f e.index) es) h.0 ∙ ap (λ bs. g e.index ∷ bs) (same-tests f g es h.1)
