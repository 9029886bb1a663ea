-- The steps of each actor, and schedules of them.
use Rattle.std.specs.Prelude.{ℕ, ◌+◌, ◌==◌, Bool, true, ◌&&◌, List, [], ◌∷◌, ◌++◌, length, Option, Some, None, slice_get}
use Rattle.std.specs.List.{count_by}

abbrev pub option_or : {A : Type 0} → A → Option A → A
option_or x None = x
option_or x (Some y) = y

-- the queue of a number, or none
abbrev pub queue_of : {A : Type 0} → List (List A) → ℕ → List A
queue_of queues k = option_or [] (slice_get queues k)

-- all of them, one queue after another
abbrev pub all_of : {A : Type 0} → List (List A) → List A
all_of [] = []
all_of (queue ∷ queues) = queue ++ all_of queues

-- how often a number stands there
abbrev pub times_of : ℕ → List ℕ → ℕ
times_of n schedule = count_by (λ k. k == n) schedule

-- each queue's number stands as often as it has parts, the first one having the number n
abbrev pub schedule_fits : {A : Type 0} → ℕ → List (List A) → List ℕ → Bool
schedule_fits n [] schedule = true
schedule_fits n (queue ∷ queues) schedule = (times_of n schedule == length queue) && schedule_fits (n + 1) queues schedule
