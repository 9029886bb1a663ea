-- What each actor has left of its orders, and the orders that it performs next.
use Rattle.std.proofs.Common.{◌≡◌, ℕ, zero, suc, ◌+◌, ◌<◌, List, [], ◌∷◌, length, drop, Option, Some, None, refl, ap, sym, ◌∙◌, arith, length-append}
use Rattle.std.specs.Prelude.{slice_get, slice_set}
use Rattle.std.proofs.lemmas.List.{length-set}
use Rattle.std.proofs.lemmas.Option.{slice_get_within}
use Rattle.ax_laws.proofs.Options.{none-some}
use Rattle.ax_script.specs.Queues.{queue_of, all_of, times_of, option_or}
use Rattle.ax_journal.specs.declared.order.Order.{Order}
use Rattle.ax_machine.specs.Run.{first_of, rest_of, first_left, left_after, left_by, next_order}

-- of each actor's orders, those are left that come after as many as it stood before
pub record AreLeft (orders : List (List Order)) (before : List ℕ) (queues : List (List Order)) : Type 0 where
  pub each : length queues ≡ length orders
  pub rest : (k : ℕ) (queue : List Order) → slice_get queues k ≡ Some queue → queue ≡ drop (times_of k before) (queue_of orders k)

-- ---- lists

first-drop : (n : ℕ) (xs : List Order) → first_of (drop n xs) ≡ slice_get xs n
first-drop zero [] = refl
first-drop zero (x ∷ xs) = refl
first-drop (suc n) [] = refl
first-drop (suc n) (x ∷ xs) = first-drop n xs

pub first-there : (q : List Order) → 0 < length q → (o : Order) × (first_of q ≡ Some o)
first-there [] h = absurd (omega (arith, h))
first-there (x ∷ q) h = (x, refl)

pub first-is : (q : List Order) (o : Order) → first_of q ≡ Some o → q ≡ o ∷ rest_of q
first-is [] o e = absurd (cc)
first-is (x ∷ q) o e = let is : x ≡ o = cc in ap (λ y. y ∷ q) is

-- the queue of a number that stands there
pub queue-there : (queues : List (List Order)) (a : ℕ) (queue : List Order) → slice_get queues a ≡ Some queue → queue_of queues a ≡ queue
queue-there queues a queue e = ap (option_or []) e

-- ---- after a turn

set-same : (queues : List (List Order)) (a : ℕ) (q : List Order) → a < length queues → queue_of (slice_set queues a q) a ≡ q
set-same [] a q lt = absurd (omega (arith, lt))
set-same (x ∷ queues) zero q lt = refl
set-same (x ∷ queues) (suc a) q lt = set-same queues a q (omega (arith, lt))

set-other : (queues : List (List Order)) (a k : ℕ) (q : List Order) → (k ≡ a → ⊥) → queue_of (slice_set queues a q) k ≡ queue_of queues k
set-other [] a k q ne = refl
set-other (x ∷ queues) zero zero q ne = absurd (ne refl)
set-other (x ∷ queues) zero (suc k) q ne = refl
set-other (x ∷ queues) (suc a) zero q ne = refl
set-other (x ∷ queues) (suc a) (suc k) q ne = set-other queues a k q (λ (e : k ≡ a). ne (ap suc e))

past-none : (queues : List (List Order)) (a : ℕ) → slice_get queues a ≡ None → queue_of queues a ≡ []
past-none queues a e = ap (option_or []) e

-- the actor's own queue
pub left-own : (queues : List (List Order)) (a : ℕ) (o : Order) → first_left queues a ≡ Some o → queue_of queues a ≡ o ∷ queue_of (left_after queues a) a
left-own queues a o e = at (slice_get queues a) refl
  where
    at : (q : Option (List Order)) → slice_get queues a ≡ q → queue_of queues a ≡ o ∷ queue_of (left_by queues a q) a
    at None f = absurd (none-some o (sym (ap first_of (past-none queues a f)) ∙ e))
    at (Some q) f =
        let lt : a < length queues = slice_get_within queues a q f in
        first-is (queue_of queues a) o e ∙ ap (λ r. o ∷ r) (ap rest_of (queue-there queues a q f) ∙ sym (set-same queues a (rest_of q) lt))

-- the queues of the others
pub left-other : (queues : List (List Order)) (a k : ℕ) → (k ≡ a → ⊥) → queue_of (left_after queues a) k ≡ queue_of queues k
left-other queues a k ne = at (slice_get queues a)
  where
    at : (q : Option (List Order)) → queue_of (left_by queues a q) k ≡ queue_of queues k
    at None = refl
    at (Some q) = set-other queues a k (rest_of q) ne

pub left-actors : (queues : List (List Order)) (a : ℕ) → length (left_after queues a) ≡ length queues
left-actors queues a = at (slice_get queues a)
  where
    at : (q : Option (List Order)) → length (left_by queues a q) ≡ length queues
    at None = refl
    at (Some q) = length-set queues a (rest_of q)

set-count : (queues : List (List Order)) (a : ℕ) (o : Order) (q : List Order) → slice_get queues a ≡ Some (o ∷ q) → length (all_of (slice_set queues a q)) + 1 ≡ length (all_of queues)
set-count [] a o q e = absurd (cc)
set-count (x ∷ queues) zero o q e =
    let is : x ≡ o ∷ q = cc in
    let one : length x ≡ length q + 1 = ap length is ∙ omega arith in
    omega (arith, one, length-append q (all_of queues), length-append x (all_of queues))
set-count (x ∷ queues) (suc a) o q e =
    let ih = set-count queues a o q e in omega (arith, ih, length-append x (all_of (slice_set queues a q)), length-append x (all_of queues))

-- one order less is left
pub left-count : (queues : List (List Order)) (a : ℕ) (o : Order) → first_left queues a ≡ Some o → length (all_of (left_after queues a)) + 1 ≡ length (all_of queues)
left-count queues a o e = at (slice_get queues a) refl
  where
    at : (q : Option (List Order)) → slice_get queues a ≡ q → length (all_of (left_by queues a q)) + 1 ≡ length (all_of queues)
    at None f = absurd (none-some o (sym (ap first_of (past-none queues a f)) ∙ e))
    at (Some q) f =
        let is : q ≡ o ∷ rest_of q = first-is q o (sym (ap first_of (queue-there queues a q f)) ∙ e) in
        set-count queues a o (rest_of q) (f ∙ ap Some is)

-- ---- the next order

none-past : {A B : Type 0} (xs : List A) (ys : List B) (k : ℕ) → length xs ≡ length ys → slice_get xs k ≡ None → slice_get ys k ≡ None
none-past [] [] k l e = refl
none-past [] (y ∷ ys) k l e = absurd (omega (arith, l))
none-past (x ∷ xs) [] k l e = refl
none-past (x ∷ xs) (y ∷ ys) zero l e = absurd (cc)
none-past (x ∷ xs) (y ∷ ys) (suc k) l e = none-past xs ys k (omega (arith, l)) e

-- what comes first of what is left is the order of that turn
pub first-next : (orders : List (List Order)) (before : List ℕ) (queues : List (List Order)) (a : ℕ) → AreLeft orders before queues → first_left queues a ≡ next_order orders before a
first-next orders before queues a h = at (slice_get queues a) refl
  where
    at : (o : Option (List Order)) → slice_get queues a ≡ o → first_of (option_or [] o) ≡ next_order orders before a
    at (Some queue) e = ap first_of (h.rest a queue e) ∙ first-drop (times_of a before) (queue_of orders a)
    at None e =
        let queue : queue_of orders a ≡ [] = ap (option_or []) (none-past queues orders a h.each e) in
        ap (λ (q : List Order). slice_get q (times_of a before)) (sym queue)
