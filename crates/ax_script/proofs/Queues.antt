-- The steps of all actors and their schedule, where one actor gets more.
use Rattle.std.proofs.Common.{◌≡◌, ℕ, zero, suc, ◌+◌, ◌<◌, ◌==◌, nat_lt, nat_le, Bool, true, false, cond, ◌&&◌, List, [], ◌∷◌, ◌++◌, length, replicate, set, refl, sym, ap, ◌∙◌, length-append, arith}
use Rattle.std.specs.List.{list_all, count_by}
use Rattle.std.proofs.lemmas.Bool.Decides.{nat_tests}
use Rattle.std.proofs.lemmas.List.Sums.{sum_by-cons, sum_by-append}
use Rattle.ax_laws.proofs.Tests.{both, and-true}
use Rattle.ax_script.specs.Queues.{queue_of, all_of, times_of, schedule_fits}
use Rattle.ax_laws.proofs.Lists.{all-append}

-- the queues, with more at the end of one
abbrev pub added : {A : Type 0} → List (List A) → ℕ → List A → List (List A)
added queues k more = set queues k (queue_of queues k ++ more)

all-parts : {A : Type 0} (test : A → Bool) (xs ys : List A) → list_all test (xs ++ ys) ≡ true → (list_all test xs ≡ true) × (list_all test ys ≡ true)
all-parts test [] ys h = (refl, h)
all-parts test (x ∷ xs) ys h =
    let p = both (test x) (list_all test (xs ++ ys)) h in
    let q = all-parts test xs ys p.1 in
    (and-true (test x) (list_all test xs) p.0 q.0, q.1)

-- ---- all of them

-- a measure that adds up over lists
pub sum-added : {A : Type 0} (f : List A → ℕ) (adds : (xs ys : List A) → f (xs ++ ys) ≡ f xs + f ys) (queues : List (List A)) (k : ℕ) (more : List A) → k < length queues →
    f (all_of (added queues k more)) ≡ f (all_of queues) + f more
sum-added f adds [] k more h = absurd (omega arith)
sum-added f adds (q ∷ queues) zero more h = omega (arith, adds (q ++ more) (all_of queues), adds q more, adds q (all_of queues))
sum-added f adds (q ∷ queues) (suc k) more h =
    let ih = sum-added f adds queues k more (omega arith) in omega (arith, adds q (all_of (added queues k more)), adds q (all_of queues), ih)

pub all-added : {A : Type 0} (test : A → Bool) (queues : List (List A)) (k : ℕ) (more : List A) → list_all test (all_of queues) ≡ true → list_all test more ≡ true →
    list_all test (all_of (added queues k more)) ≡ true
all-added test [] k more h m = refl
all-added test (q ∷ queues) zero more h m =
    let p = all-parts test q (all_of queues) h in all-append test (q ++ more) (all_of queues) (all-append test q more p.0 m) p.1
all-added test (q ∷ queues) (suc k) more h m =
    let p = all-parts test q (all_of queues) h in all-append test q (all_of (added queues k more)) p.0 (all-added test queues k more p.1 m)

-- a test of each queue, which the queue with more passes too
pub each-added : {A : Type 0} (test : List A → Bool) (queues : List (List A)) (k : ℕ) (more : List A) → list_all test queues ≡ true →
    (test (queue_of queues k) ≡ true → test (queue_of queues k ++ more) ≡ true) → list_all test (added queues k more) ≡ true
each-added test [] k more h pass = refl
each-added test (q ∷ queues) zero more h pass =
    let p = both (test q) (list_all test queues) h in and-true (test (q ++ more)) (list_all test queues) (pass p.0) p.1
each-added test (q ∷ queues) (suc k) more h pass =
    let p = both (test q) (list_all test queues) h in and-true (test q) (list_all test (added queues k more)) p.0 (each-added test queues k more p.1 pass)

pub length-added : {A : Type 0} (queues : List (List A)) (k : ℕ) (more : List A) → length (added queues k more) ≡ length queues
length-added [] k more = refl
length-added (q ∷ queues) zero more = refl
length-added (q ∷ queues) (suc k) more = ap suc (length-added queues k more)

pub all_of-empty : {A : Type 0} (queues : List (List A)) → all_of (queues ++ [] ∷ []) ≡ all_of queues
all_of-empty [] = refl
all_of-empty (q ∷ queues) = ap (λ t. q ++ t) (all_of-empty queues)

-- ---- schedules

times-replicate : (n k m : ℕ) → times_of n (replicate m k) ≡ cond (k == n) m 0
times-replicate n k zero = sym (at (k == n))
  where
    at : (b : Bool) → cond {A = ℕ} b 0 0 ≡ 0
    at true = refl
    at false = refl
times-replicate n k (suc m) = sum_by-cons (λ x. cond (x == n) 1 0) k (replicate m k) ∙ at (k == n) (times-replicate n k m)
  where
    at : (b : Bool) → times_of n (replicate m k) ≡ cond b m 0 → cond b 1 0 + times_of n (replicate m k) ≡ cond b (suc m) 0
    at true ih = omega (arith, ih)
    at false ih = omega (arith, ih)

-- with a number more often
times-more : (n k m : ℕ) (schedule : List ℕ) (b : Bool) → (k == n) ≡ b → times_of n (schedule ++ replicate m k) ≡ times_of n schedule + cond b m 0
times-more n k m schedule b e =
    sum_by-append (λ x. cond (x == n) 1 0) schedule (replicate m k) ∙ ap (λ t. times_of n schedule + t) (times-replicate n k m ∙ ap (λ b. cond b m 0) e)

fits-both : (a b c d : ℕ) (s t : Bool) → ((a == b) && s) ≡ true → (a ≡ b → c ≡ d) → (s ≡ true → t ≡ true) → ((c == d) && t) ≡ true
fits-both a b c d s t h e f =
    let p = both (a == b) s h in
    let same : a ≡ b = grind (arith, nat_tests, p.0) in
    let equal : c ≡ d = e same in
    and-true (c == d) t (grind (arith, nat_tests, equal)) (f p.1)

-- a number below those of the queues changes nothing
fits-other : {A : Type 0} (queues : List (List A)) (n p m : ℕ) (schedule : List ℕ) → p < n → schedule_fits n queues schedule ≡ true → schedule_fits n queues (schedule ++ replicate m p) ≡ true
fits-other [] n p m schedule lt h = refl
fits-other (q ∷ queues) n p m schedule lt h =
    let later = schedule ++ replicate m p in
    let other : (p == n) ≡ false = grind (arith, nat_tests) in
    fits-both (times_of n schedule) (length q) (times_of n later) (length q) (schedule_fits (n + 1) queues schedule) (schedule_fits (n + 1) queues later) h
    (λ e. times-more n p m schedule false other ∙ omega (arith, e)) (fits-other queues (n + 1) p m schedule (omega (arith, lt)))

-- a queue gets more, and the schedule its number as often
pub fits-added : {A : Type 0} (queues : List (List A)) (n k : ℕ) (more : List A) (schedule : List ℕ) → k < length queues → schedule_fits n queues schedule ≡ true →
    schedule_fits n (added queues k more) (schedule ++ replicate (length more) (n + k)) ≡ true
fits-added [] n k more schedule lt h = refl
fits-added (q ∷ queues) n zero more schedule lt h =
    let place : n + 0 ≡ n = omega arith in
    let same : (n == n) ≡ true = grind (arith, nat_tests) in
    let later = schedule ++ replicate (length more) n in
    rw place (fits-both (times_of n schedule) (length q) (times_of n later) (length (q ++ more)) (schedule_fits (n + 1) queues schedule) (schedule_fits (n + 1) queues later) h
    (λ e. times-more n n (length more) schedule true same ∙ omega (arith, e, length-append q more)) (fits-other queues (n + 1) n (length more) schedule (omega arith)))
fits-added (q ∷ queues) n (suc k) more schedule lt h =
    let other : ((n + suc k) == n) ≡ false = grind (arith, nat_tests) in
    let place : n + suc k ≡ n + 1 + k = omega arith in
    let later = schedule ++ replicate (length more) (n + suc k) in
    fits-both (times_of n schedule) (length q) (times_of n later) (length q) (schedule_fits (n + 1) queues schedule) (schedule_fits (n + 1) (added queues k more) later) h
    (λ e. times-more n (n + suc k) (length more) schedule false other ∙ omega (arith, e)) (λ s. rw place (fits-added queues (n + 1) k more schedule (omega (arith, lt)) s))

-- how many numbers are n or more
abbrev from_count : ℕ → List ℕ → ℕ
from_count n schedule = count_by (λ k. nat_le n k) schedule

from-one : (n k : ℕ) (x : Bool) → nat_le n k ≡ x → (y : Bool) → (k == n) ≡ y → (z : Bool) → nat_le (n + 1) k ≡ z → cond (nat_le n k) 1 0 ≡ cond (k == n) 1 0 + cond (nat_le (n + 1) k) 1 0
from-one n k true e true f true g = absurd (grind (arith, nat_tests))
from-one n k true e true f false g = rw (e, f, g) refl
from-one n k true e false f true g = rw (e, f, g) refl
from-one n k true e false f false g = absurd (grind (arith, nat_tests))
from-one n k false e true f z g = absurd (grind (arith, nat_tests))
from-one n k false e false f true g = absurd (grind (arith, nat_tests))
from-one n k false e false f false g = rw (e, f, g) refl

from-step : (n : ℕ) (schedule : List ℕ) → from_count n schedule ≡ times_of n schedule + from_count (n + 1) schedule
from-step n [] = refl
from-step n (k ∷ ks) =
    let a = sum_by-cons (λ x. cond (nat_le n x) 1 0) k ks in
    let b = sum_by-cons (λ x. cond (x == n) 1 0) k ks in
    let c = sum_by-cons (λ x. cond (nat_le (n + 1) x) 1 0) k ks in
    omega (arith, a, b, c, from-step n ks, from-one n k (nat_le n k) refl (k == n) refl (nat_le (n + 1) k) refl)

none-from : (n : ℕ) (schedule : List ℕ) → list_all (λ k. nat_lt k n) schedule ≡ true → from_count n schedule ≡ 0
none-from n [] h = refl
none-from n (k ∷ ks) h =
    let p = both (nat_lt k n) (list_all (λ k. nat_lt k n) ks) h in
    let low : nat_le n k ≡ false = grind (arith, nat_tests, p.0) in
    sum_by-cons (λ x. cond (nat_le n x) 1 0) k ks ∙ (ap (λ b. cond b 1 0 + from_count n ks) low ∙ omega (arith, none-from n ks p.1))

all-from : (schedule : List ℕ) → from_count 0 schedule ≡ length schedule
all-from [] = refl
all-from (k ∷ ks) =
    let low : nat_le 0 k ≡ true = grind (arith, nat_tests) in
    sum_by-cons (λ x. cond (nat_le 0 x) 1 0) k ks ∙ (ap (λ b. cond b 1 0 + from_count 0 ks) low ∙ omega (arith, all-from ks))

from-fits : {A : Type 0} (queues : List (List A)) (n : ℕ) (schedule : List ℕ) → schedule_fits n queues schedule ≡ true → list_all (λ k. nat_lt k (n + length queues)) schedule ≡ true →
    from_count n schedule ≡ length (all_of queues)
from-fits [] n schedule h low = none-from n schedule (ap (λ m. list_all (λ k. nat_lt k m) schedule) (omega arith) ∙ low)
from-fits (q ∷ queues) n schedule h low =
    let p = both (times_of n schedule == length q) (schedule_fits (n + 1) queues schedule) h in
    let same : times_of n schedule ≡ length q = grind (arith, nat_tests, p.0) in
    let end : n + 1 + length queues ≡ n + suc (length queues) = omega arith in
    let ih = from-fits queues (n + 1) schedule p.1 (ap (λ m. list_all (λ k. nat_lt k m) schedule) end ∙ low) in
    omega (arith, from-step n schedule, same, ih, length-append q (all_of queues))

-- a schedule that fits, and has no number without a queue, is as long as all queues
pub fits-whole : {A : Type 0} (queues : List (List A)) (schedule : List ℕ) → schedule_fits 0 queues schedule ≡ true → list_all (λ k. nat_lt k (length queues)) schedule ≡ true →
    length schedule ≡ length (all_of queues)
fits-whole queues schedule h low = sym (all-from schedule) ∙ from-fits queues 0 schedule h (ap (λ m. list_all (λ k. nat_lt k m) schedule) (omega arith) ∙ low)

-- an empty queue more, whose number does not stand in an empty schedule
pub fits-empty : {A : Type 0} (queues : List (List A)) (n : ℕ) → schedule_fits n queues [] ≡ true → schedule_fits n (queues ++ [] ∷ []) [] ≡ true
fits-empty [] n h = refl
fits-empty (q ∷ queues) n h =
    let p = both (times_of n [] == length q) (schedule_fits (n + 1) queues []) h in
    and-true (times_of n [] == length q) (schedule_fits (n + 1) (queues ++ [] ∷ []) []) p.0 (fits-empty queues (n + 1) p.1)
