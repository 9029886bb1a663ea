-- Attempts in parts, what they leave of the setting and the counter of fences, and what a journal shows of them.
use Rattle.std.proofs.Common.{◌≡◌, ℕ, zero, suc, ◌+◌, ◌*◌, ◌<◌, ◌≤◌, ◌^◌, Bool, true, false, cond, List, [], ◌∷◌, ◌++◌, length, map, filter, Option, Some, None, IsTrue, if◌then◌else◌, refl, ap, sym, ◌∙◌, append_assoc, arith}
use Rattle.std.specs.List.{AllByRecursion, list_all}
use Rattle.std.proofs.lemmas.List.{map-append}
use Rattle.std.proofs.lemmas.List.Elements.{filter-append}
use Rattle.std.proofs.lemmas.Option.{slice_get_past}
use Rattle.ax_laws.proofs.Lists.{append-none}
use Rattle.ax_values.specs.Grammar.{Name}
use Rattle.ax_values.specs.Words.{same_name}
use Rattle.ax_sheet.specs.Declarations.{names_differ}
use Rattle.ax_state.specs.Setting.{name_at}
use Rattle.ax_state.specs.State.{State}
use Rattle.ax_state.specs.Answer.{answer}
use Rattle.ax_script.specs.Judging.{actor_place}
use Rattle.ax_script.specs.Queues.{all_of, times_of, option_or}
use Rattle.ax_journal.specs.declared.entry.Entry.{Entry}
use Rattle.ax_journal.specs.declared.order.Order.{Order}
use Rattle.ax_journal.specs.declared.reply.Reply.{Reply}
use Rattle.ax_machine.specs.Run.{IsPerformed, Attempt, step, attempted, entry_of, entries, state_after_all, attempt_if, next_order, fails_at, attempts, schedule_of, orders_by}
use Rattle.ax_machine.proofs.Known.{all-queued}
use Rattle.ax_machine.proofs.Names.{place-is}
use Rattle.ax_machine.proofs.Schedules.{times-cons}
use Rattle.ax_machine.proofs.Stays.{Stays, stays}

-- ---- attempts in two parts

pub entries-append : (m : State) (xs ys : List Attempt) → entries m (xs ++ ys) ≡ entries m xs ++ entries (state_after_all m xs) ys
entries-append m [] ys = refl
entries-append m (x ∷ xs) ys = ap (λ (r : List Entry). entry_of m x ∷ r) (entries-append (attempted m x).state xs ys)

pub state-append : (m : State) (xs ys : List Attempt) → state_after_all m (xs ++ ys) ≡ state_after_all (state_after_all m xs) ys
state-append m [] ys = refl
state-append m (x ∷ xs) ys = state-append (attempted m x).state xs ys

if-append : (a : ℕ) (b : Bool) (o : Option Order) (xs ys : List Attempt) → attempt_if a b o (xs ++ ys) ≡ attempt_if a b o xs ++ ys
if-append a b None xs ys = refl
if-append a b (Some o) xs ys = refl

pub attempts-append : (queues : List (List Order)) (faults : List Bool) (before xs ys : List ℕ) → attempts queues faults before (xs ++ ys) ≡ attempts queues faults before xs ++ attempts queues faults (before ++ xs) ys
attempts-append queues faults before [] ys = ap (λ b. attempts queues faults b ys) (sym (append-none before))
attempts-append queues faults before (a ∷ xs) ys =
    let after : List ℕ = before ++ a ∷ [] in
    let parts : attempts queues faults after (xs ++ ys) ≡ attempts queues faults after xs ++ attempts queues faults (before ++ a ∷ xs) ys =
    attempts-append queues faults after xs ys ∙ ap (λ b. attempts queues faults after xs ++ attempts queues faults b ys) (append_assoc before (a ∷ []) xs) in
    ap (attempt_if a (fails_at faults (length before)) (next_order queues before a)) parts
    ∙ if-append a (fails_at faults (length before)) (next_order queues before a) (attempts queues faults after xs) (attempts queues faults (before ++ a ∷ xs) ys)

-- ---- faults

-- flags that agree at each place give the same attempts
pub attempts-same : (queues : List (List Order)) (f g : List Bool) (before left : List ℕ) → ((k : ℕ) → fails_at f k ≡ fails_at g k) → attempts queues f before left ≡ attempts queues g before left
attempts-same queues f g before [] h = refl
attempts-same queues f g before (a ∷ left) h =
    ap (λ b. attempt_if a b (next_order queues before a) (attempts queues f (before ++ a ∷ []) left)) (h (length before))
    ∙ ap (attempt_if a (fails_at g (length before)) (next_order queues before a)) (attempts-same queues f g (before ++ a ∷ []) left h)

-- a place more that does not fail
pub fails-more : (faults : List Bool) (k : ℕ) → fails_at (faults ++ false ∷ []) k ≡ fails_at faults k
fails-more [] zero = refl
fails-more [] (suc k) = refl
fails-more (f ∷ faults) zero = refl
fails-more (f ∷ faults) (suc k) = fails-more faults k

pub fails-past : (faults : List Bool) (k : ℕ) → length faults ≤ k → fails_at faults k ≡ false
fails-past faults k past = ap (option_or false) (slice_get_past faults k past)

-- ---- of all attempts

pub few-attempts : (queues : List (List Order)) (faults : List Bool) (before left : List ℕ) → length (attempts queues faults before left) ≤ length left
few-attempts queues faults before [] = omega arith
few-attempts queues faults before (a ∷ left) = at (next_order queues before a) (few-attempts queues faults (before ++ a ∷ []) left)
  where
    at : (o : Option Order) → length (attempts queues faults (before ++ a ∷ []) left) ≤ length left
        → length (attempt_if a (fails_at faults (length before)) o (attempts queues faults (before ++ a ∷ []) left)) ≤ suc (length left)
    at None h = omega arith
    at (Some o) h = omega arith

-- a test that all queued orders pass
pub all-attempts : (test : Order → Bool) (queues : List (List Order)) (faults : List Bool) (before left : List ℕ) → list_all test (all_of queues) ≡ true
    → AllByRecursion (λ x. IsTrue (test x.order)) (attempts queues faults before left)
all-attempts test queues faults before [] h = tt
all-attempts test queues faults before (k ∷ left) h = at (next_order queues before k) refl (all-attempts test queues faults (before ++ k ∷ []) left h)
  where
    at : (o : Option Order) → next_order queues before k ≡ o → AllByRecursion (λ x. IsTrue (test x.order)) (attempts queues faults (before ++ k ∷ []) left)
        → AllByRecursion (λ x. IsTrue (test x.order)) (attempt_if k (fails_at faults (length before)) o (attempts queues faults (before ++ k ∷ []) left))
    at None e later = later
    at (Some o) e later = (all-queued test queues k (times_of k before) o h e, later)

-- what attempts leave: the setting, and a counter that has risen by less than 2 ^ 32 at each
pub record Leaves (m n : State) (count : ℕ) : Type 0 where
  pub setting : n.setting ≡ m.setting
  pub fence : n.fence ≤ m.fence + 2 ^ 32 * count

leaves-attempt : (m : State) (x : Attempt) → IsPerformed x.order → Leaves m (attempted m x).state 1
leaves-attempt m x h = at x.faulted (stays m x.actor x.order h)
  where
    at : (b : Bool) → Stays m (step m x.actor x.order) → Leaves m (if b then answer m Reply.KeeperFailed else step m x.actor x.order).state 1
    at true s = record { setting = refl; fence = omega arith }
    at false s = record { setting = s.setting; fence = let lt = s.fence in omega (arith, lt) }

pub leaves-all : (m : State) (xs : List Attempt) → AllByRecursion (λ x. IsPerformed x.order) xs → Leaves m (state_after_all m xs) (length xs)
leaves-all m [] h = record { setting = refl; fence = omega arith }
leaves-all m (x ∷ xs) h =
    let one = leaves-attempt m x h.0 in
    let rest = leaves-all (attempted m x).state xs h.1 in
    let a = one.fence in
    let b = rest.fence in
    record { setting = rest.setting ∙ one.setting; fence = omega (arith, a, b) }

-- ---- what a journal shows

pub orders-append : (name : Name) (xs ys : List Entry) → orders_by name (xs ++ ys) ≡ orders_by name xs ++ orders_by name ys
orders-append name xs ys = ap (map (λ (e : Entry). e.order)) (filter-append (λ (e : Entry). same_name e.actor name) xs ys) ∙ map-append (λ (e : Entry). e.order) (filter (λ (e : Entry). same_name e.actor name) xs) (filter (λ (e : Entry). same_name e.actor name) ys)

-- an actor stands in the schedule of a journal as often as the journal has orders of its name
pub times-by : (actors : List Name) (k : ℕ) → names_differ actors ≡ true → k < length actors → (journal : List Entry) → times_of k (schedule_of actors journal) ≡ length (orders_by (name_at actors k) journal)
times-by actors k d lt [] = refl
times-by actors k d lt (e ∷ journal) =
    times-cons k (actor_place actors e.actor) (schedule_of actors journal)
    ∙ (ap (λ b. cond b 1 0 + times_of k (schedule_of actors journal)) (place-is actors k e.actor d lt) ∙ at (same_name e.actor (name_at actors k)) (times-by actors k d lt journal))
  where
    at : (b : Bool) → times_of k (schedule_of actors journal) ≡ length (orders_by (name_at actors k) journal)
        → cond b 1 0 + times_of k (schedule_of actors journal) ≡ length (map (λ (e : Entry). e.order) (if b then e ∷ filter (λ e. same_name e.actor (name_at actors k)) journal else filter (λ e. same_name e.actor (name_at actors k)) journal))
    at true ih = omega (arith, ih)
    at false ih = omega (arith, ih)
