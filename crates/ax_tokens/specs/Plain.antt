-- Plain tokens: sets of indexes, each written as a bound and the gaps below it.
use Rattle.std.specs.Prelude.{ℕ, zero, suc, ◌==◌, Bool, not, ◌&&◌, ◌||◌, List, [], ◌∷◌, filter, max, nat_lt, if◌then◌else◌}
use Rattle.std.specs.List.{list_all, list_any}
use Rattle.std.specs.Str.{bytes_eq}
use Rattle.ax_values.specs.Words.{rises}
use Rattle.ax_values.specs.declared.cell.Cell.{Cell}
use Rattle.ax_log.specs.Log.{is_settled}

-- the set of the indexes below `next` that are no gaps
pub record Plain : Type 0 where
  pub next : ℕ
  pub gaps : List ℕ

abbrev pub contains : List ℕ → ℕ → Bool
contains xs i = list_any (λ x. x == i) xs

abbrev pub has : Plain → ℕ → Bool
has p i = nat_lt i p.next && not (contains p.gaps i)

-- gaps rise, lie below `next`, and the number before `next` is no gap
abbrev pub is_canonical_plain : Plain → Bool
is_canonical_plain p = rises nat_lt p.gaps && list_all (λ g. nat_lt (suc g) p.next) p.gaps

abbrev pub nothing : Plain
nothing = record { next = 0; gaps = [] }

-- ---- the plain token of a set

-- n numbers, from k on
abbrev pub numbers_from : ℕ → ℕ → List ℕ
numbers_from k zero = []
numbers_from k (suc n) = k ∷ numbers_from (suc k) n

-- the numbers below n, rising
abbrev pub below : ℕ → List ℕ
below n = numbers_from 0 n

-- one more than the last number below n that passes the test, or 0
abbrev pub end_of : (ℕ → Bool) → ℕ → ℕ
end_of test zero = 0
end_of test (suc n) = if test n then suc n else end_of test n

-- the plain token of the indexes below the bound that pass the test
abbrev pub plain_of : (ℕ → Bool) → ℕ → Plain
plain_of test bound = record { next = end_of test bound; gaps = filter (λ i. not (test i)) (below (end_of test bound)) }

-- ---- changes

abbrev pub union : Plain → Plain → Plain
union p q = plain_of (λ i. has p i || has q i) (max p.next q.next)

-- whether the index is below a bound, and its cell not reserved
abbrev pub settles : List Cell → ℕ → ℕ → Bool
settles cells b i = nat_lt i b && is_settled cells i

-- the indexes of p, and those below b whose cells are not reserved
abbrev pub advanced_plain : List Cell → ℕ → Plain → Plain
advanced_plain cells b p = plain_of (λ i. has p i || settles cells b i) (max p.next b)

-- ---- tests

-- whether p has all that q has
abbrev pub includes : Plain → Plain → Bool
includes p q = list_all (has p) (filter (has q) (below q.next))

abbrev pub same_plain : Plain → Plain → Bool
same_plain p q = (p.next == q.next) && bytes_eq p.gaps q.gaps
