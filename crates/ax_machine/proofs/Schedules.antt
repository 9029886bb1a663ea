-- Schedules that fit queues: each number stands as often as its queue has orders, and no other number stands.
use Rattle.std.proofs.Common.{◌≡◌, ℕ, zero, suc, ◌+◌, ◌<◌, ◌==◌, ◌&&◌, nat_lt, nat_le, Bool, true, false, cond, List, [], ◌∷◌, length, filter, take, drop, get_or, if◌then◌else◌, refl, ap, sym, ◌∙◌, arith, length-append}
use Rattle.std.specs.Prelude.{Some, slice_get}
use Rattle.std.specs.List.{list_all}
use Rattle.std.proofs.lemmas.Bool.Decides.{nat_tests}
use Rattle.std.proofs.lemmas.List.{drop_more, take-append-drop}
use Rattle.std.proofs.lemmas.List.Sums.{sum_by-cons, sum_by-append}
use Rattle.std.proofs.lemmas.Option.{slice_get-get_or}
use Rattle.ax_laws.proofs.Tests.{both, and-true}
use Rattle.ax_laws.proofs.Lists.{all-at, length-filter}
use Rattle.ax_journal.specs.declared.order.Order.{Order}
use Rattle.ax_script.specs.Plans.{IsSchedule}
use Rattle.ax_script.specs.Queues.{queue_of, all_of, times_of, schedule_fits}

-- ---- how often a number stands

pub times-cons : (n x : ℕ) (xs : List ℕ) → times_of n (x ∷ xs) ≡ cond (x == n) 1 0 + times_of n xs
times-cons n x xs = sum_by-cons (λ k. cond (k == n) 1 0) x xs

pub fits-at : {A : Type 0} (queues : List (List A)) (n k : ℕ) (schedule : List ℕ) → schedule_fits n queues schedule ≡ true → k < length queues → times_of (n + k) schedule ≡ length (queue_of queues k)
fits-at [] n k schedule h lt = absurd (omega (arith, lt))
fits-at (q ∷ queues) n zero schedule h lt =
    let here = (both (times_of n schedule == length q) (schedule_fits (n + 1) queues schedule) h).0 in
    let same : n + 0 ≡ n = omega arith in
    let is : times_of n schedule ≡ length q = grind (arith, nat_tests, here) in
    ap (λ m. times_of m schedule) same ∙ is
fits-at (q ∷ queues) n (suc k) schedule h lt =
    let later = (both (times_of n schedule == length q) (schedule_fits (n + 1) queues schedule) h).1 in
    let same : n + suc k ≡ (n + 1) + k = omega arith in
    ap (λ m. times_of m schedule) same ∙ fits-at queues (n + 1) k schedule later (omega (arith, lt))

-- ---- no other number

-- from k on, n numbers
abbrev among : ℕ → ℕ → ℕ → Bool
among k n x = nat_le k x && nat_lt x (k + n)

abbrev counted : (ℕ → Bool) → List ℕ → ℕ
counted test xs = length (filter test xs)

counted-cons : (test : ℕ → Bool) (x : ℕ) (xs : List ℕ) → counted test (x ∷ xs) ≡ cond (test x) 1 0 + counted test xs
counted-cons test x xs = at (test x)
  where
    at : (b : Bool) → length (if b then x ∷ filter test xs else filter test xs) ≡ cond b 1 0 + counted test xs
    at true = omega arith
    at false = omega arith

one-more : (k n x : ℕ) → cond (among k (suc n) x) 1 0 ≡ cond (x == k) 1 0 + cond (among (k + 1) n x) 1 0
one-more k n x = grind (arith, nat_tests)

counted-more : (k n : ℕ) (xs : List ℕ) → counted (among k (suc n)) xs ≡ times_of k xs + counted (among (k + 1) n) xs
counted-more k n [] = refl
counted-more k n (x ∷ xs) =
    let a = counted-cons (among k (suc n)) x xs in
    let b = counted-cons (among (k + 1) n) x xs in
    let c = times-cons k x xs in
    let d = one-more k n x in
    let ih = counted-more k n xs in omega (arith, a, b, c, d, ih)

none-counted : (k : ℕ) (xs : List ℕ) → counted (among k 0) xs ≡ 0
none-counted k [] = refl
none-counted k (x ∷ xs) =
    let a = counted-cons (among k 0) x xs in
    let no : cond {A = ℕ} (among k 0 x) 1 0 ≡ 0 = grind (arith, nat_tests) in
    let ih = none-counted k xs in omega (arith, a, no, ih)

-- as many numbers stand there as the queues have parts
fits-counted : {A : Type 0} (queues : List (List A)) (n : ℕ) (schedule : List ℕ) → schedule_fits n queues schedule ≡ true → counted (among n (length queues)) schedule ≡ length (all_of queues)
fits-counted [] n schedule h = none-counted n schedule
fits-counted (q ∷ queues) n schedule h =
    let parts = both (times_of n schedule == length q) (schedule_fits (n + 1) queues schedule) h in
    let here : times_of n schedule ≡ length q = grind (arith, nat_tests, parts.0) in
    let ih = fits-counted queues (n + 1) schedule parts.1 in
    let more = counted-more n (length queues) schedule in omega (arith, more, here, ih, length-append q (all_of queues))

-- where a filter keeps as many as there are, all pass
all-kept : (test : ℕ → Bool) (xs : List ℕ) → counted test xs ≡ length xs → list_all test xs ≡ true
all-kept test [] h = refl
all-kept test (x ∷ xs) h = at (test x) refl (all-kept test xs)
  where
    at : (b : Bool) → test x ≡ b → (counted test xs ≡ length xs → list_all test xs ≡ true) → (test x && list_all test xs) ≡ true
    at true e later =
        let a = counted-cons test x xs in
        let c : cond {A = ℕ} (test x) 1 0 ≡ 1 = ap (λ b. cond b 1 0) e in
        and-true (test x) (list_all test xs) e (later (omega (arith, a, c, h)))
    at false e later =
        let a = counted-cons test x xs in
        let c : cond {A = ℕ} (test x) 1 0 ≡ 0 = ap (λ b. cond b 1 0) e in
        let few = length-filter test xs in absurd (omega (arith, a, c, h, few))

-- what stands in a schedule is the number of a queue
pub stands-within : (queues : List (List Order)) (schedule : List ℕ) (i k : ℕ) → IsSchedule queues schedule → slice_get schedule i ≡ Some k → k < length queues
stands-within queues schedule i k h e =
    let all = all-kept (among 0 (length queues)) schedule (fits-counted queues 0 schedule h.fits ∙ sym h.whole) in
    let it = all-at (among 0 (length queues)) schedule i k all e in
    let low = (both (nat_le 0 k) (nat_lt k (0 + length queues)) it).1 in grind (arith, nat_tests, low)

-- a number stands more often in all of the schedule than before a place of its own
times-before : (k d i : ℕ) (schedule : List ℕ) → i < length schedule → get_or schedule i d ≡ k → times_of k (take i schedule) < times_of k schedule
times-before k d i schedule lt e =
    let whole = ap (times_of k) (sym (take-append-drop i schedule)) in
    let parts = sum_by-append (λ x. cond (x == k) 1 0) (take i schedule) (drop i schedule) in
    let after = ap (times_of k) (drop_more schedule i d lt) ∙ times-cons k (get_or schedule i d) (drop (i + 1) schedule) in
    let own : cond {A = ℕ} (get_or schedule i d == k) 1 0 ≡ 1 = let t : (get_or schedule i d == k) ≡ true = grind (arith, nat_tests, e) in ap (λ b. cond b 1 0) t in
    omega (arith, whole, parts, after, own)

-- at each place the actor has more orders than it stood before
pub order-left : (queues : List (List Order)) (schedule : List ℕ) (i d : ℕ) → IsSchedule queues schedule → i < length schedule
    → times_of (get_or schedule i d) (take i schedule) < length (queue_of queues (get_or schedule i d))
order-left queues schedule i d h lt =
    let k = get_or schedule i d in
    let within : k < length queues = stands-within queues schedule i k h (slice_get-get_or schedule i d lt) in
    let all : times_of k schedule ≡ length (queue_of queues k) = ap (λ n. times_of n schedule) (let same : k ≡ 0 + k = omega arith in same) ∙ fits-at queues 0 k schedule h.fits within in
    omega (arith, times-before k d i schedule lt refl, all)
