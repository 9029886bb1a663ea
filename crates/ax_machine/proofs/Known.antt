-- Names that are declared, where steps look them up.
use Rattle.std.proofs.Common.{◌≡◌, ℕ, zero, suc, ◌<◌, Bool, true, false, not, ◌||◌, ◌&&◌, List, [], ◌∷◌, ◌++◌, length, map, Some, IsTrue, if◌then◌else◌, refl, ap, sym, ◌∙◌, arith}
use Rattle.std.specs.Prelude.{Option, None, is_some, slice_get}
use Rattle.std.specs.List.{list_all, list_any}
use Rattle.std.proofs.lemmas.Slice.Eq.{bytes_eq-Decides}
use Rattle.ax_values.specs.Grammar.{Name}
use Rattle.ax_values.specs.Words.{Payload, same_name, place_where}
use Rattle.ax_laws.proofs.Lists.{all-at}
use Rattle.ax_laws.proofs.Tests.{both, not-true}
use Rattle.ax_log.specs.Log.{option_is}
use Rattle.ax_segments.specs.Segments.{Segment}
use Rattle.ax_sheet.specs.Commands.{Command}
use Rattle.ax_sheet.specs.Sheet.{command_named}
use Rattle.ax_sheet.specs.Declarations.{same_flag, names_differ, Processor}
use Rattle.ax_state.specs.Setting.{Setting, IsSetting, processor_number, is_projection}
use Rattle.ax_script.specs.Judging.{is_known, is_processor, fits_found, has_processor}
use Rattle.ax_script.specs.Queues.{queue_of, all_of}
use Rattle.ax_journal.specs.declared.order.Order.{Order}
use Rattle.ax_machine.specs.Run.{IsKnown}

-- a place where the test passes
place-within : {A : Type 0} (test : A → Bool) (xs : List A) → list_any test xs ≡ true → place_where test xs < length xs
place-within test [] h = absurd (cc)
place-within test (x ∷ xs) h = at (test x) h (place-within test xs)
  where
    at : (t : Bool) → (t || list_any test xs) ≡ true → (list_any test xs ≡ true → place_where test xs < length xs) → (if t then 0 else suc (place_where test xs)) < suc (length xs)
    at true e ih = omega arith
    at false e ih = let lt : place_where test xs < length xs = ih e in omega (arith, lt)

or-right : (a b : Bool) → b ≡ true → (a || b) ≡ true
or-right true b h = refl
or-right false b h = h

-- a projection under a name has that name
also-named : (n : Name) (qs : List Processor) (a : Name) → n ≡ a → has_processor qs false a ≡ true → list_any (λ b. same_name n b) (map (λ q. q.name) qs) ≡ true
also-named n [] a e h = absurd (cc)
also-named n (q ∷ qs) a e h = at (same_name q.name a) refl h (also-named n qs a e)
  where
    at : (t : Bool) → same_name q.name a ≡ t → ((t && same_flag q.saga false) || has_processor qs false a) ≡ true → (has_processor qs false a ≡ true → list_any (λ b. same_name n b) (map (λ q. q.name) qs) ≡ true) → (same_name n q.name || list_any (λ b. same_name n b) (map (λ q. q.name) qs)) ≡ true
    at true f h later = ap (λ b. b || list_any (λ b. same_name n b) (map (λ q. q.name) qs)) ((bytes_eq-Decides n q.name).1 (e ∙ sym ((bytes_eq-Decides q.name a).0 f)))
    at false f h later = or-right (same_name n q.name) (list_any (λ b. same_name n b) (map (λ q. q.name) qs)) (later h)

-- among distinct names the first one is the projection
first-projection : (qs : List Processor) (a : Name) → names_differ (map (λ q. q.name) qs) ≡ true → has_processor qs false a ≡ true → option_is (λ q. not q.saga) (slice_get qs (processor_number qs a)) ≡ true
first-projection [] a d h = absurd (cc)
first-projection (q ∷ qs) a d h = at (same_name q.name a) refl h (first-projection qs a)
  where
    names : List Name
    names = map (λ q. q.name) qs

    parts : (not (list_any (λ b. same_name q.name b) names) ≡ true) × (names_differ names ≡ true)
    parts = both (not (list_any (λ b. same_name q.name b) names)) (names_differ names) d

    alone : same_name q.name a ≡ true → has_processor qs false a ≡ true → ⊥
    alone e more =
        let twice : list_any (λ b. same_name q.name b) names ≡ true = also-named q.name qs a ((bytes_eq-Decides q.name a).0 e) more in
        let once : list_any (λ b. same_name q.name b) names ≡ false = not-true (list_any (λ b. same_name q.name b) names) parts.0 in
        let clash : true ≡ false = sym twice ∙ once in cc

    here : (s : Bool) → same_name q.name a ≡ true → ((true && same_flag s false) || has_processor qs false a) ≡ true → not s ≡ true
    here false e h = refl
    here true e h = absurd (alone e h)

    at : (t : Bool) → same_name q.name a ≡ t → ((t && same_flag q.saga false) || has_processor qs false a) ≡ true → (names_differ names ≡ true → has_processor qs false a ≡ true → option_is (λ q. not q.saga) (slice_get qs (processor_number qs a)) ≡ true) → option_is (λ q. not q.saga) (slice_get (q ∷ qs) (if t then 0 else suc (processor_number qs a))) ≡ true
    at true e h later = here q.saga e h
    at false e h later = later parts.1 h

-- ---- of a known order

known-command : (o : Option Command) (args : Payload) → fits_found o args ≡ true → is_some o ≡ true
known-command None args h = h
known-command (Some found) args h = refl

pub known-send : (setting : Setting) (a c : Name) (args : Payload) → IsKnown setting (Order.Send a c args) → is_some (command_named setting.sheet c) ≡ true
unfolding is_known
known-send setting a c args h = known-command (command_named setting.sheet c) args h

abbrev IsNumbered : Setting → Name → Type 0
IsNumbered setting p = processor_number setting.processors p < length setting.processors

known-processor : (setting : Setting) (p : Name) → is_processor setting.processors p ≡ true → IsNumbered setting p
known-processor setting p h = place-within (λ q. same_name q.name p) setting.processors h

pub known-claim : (setting : Setting) (p : Name) (s : Segment) → IsKnown setting (Order.Claim p s) → IsNumbered setting p
unfolding is_known
known-claim setting p s h = known-processor setting p h

pub known-extend : (setting : Setting) (p : Name) (s : Segment) → IsKnown setting (Order.Extend p s) → IsNumbered setting p
unfolding is_known
known-extend setting p s h = known-processor setting p h

pub known-release : (setting : Setting) (p : Name) (s : Segment) → IsKnown setting (Order.Release p s) → IsNumbered setting p
unfolding is_known
known-release setting p s h = known-processor setting p h

pub known-split : (setting : Setting) (p : Name) (s : Segment) → IsKnown setting (Order.Split p s) → IsNumbered setting p
unfolding is_known
known-split setting p s h = known-processor setting p h

pub known-merge : (setting : Setting) (p : Name) (s : Segment) → IsKnown setting (Order.Merge p s) → IsNumbered setting p
unfolding is_known
known-merge setting p s h = known-processor setting p h

pub known-tokens : (setting : Setting) (p : Name) → IsKnown setting (Order.ShowTokens p) → IsNumbered setting p
unfolding is_known
known-tokens setting p h = known-processor setting p h

pub known-fetch : (setting : Setting) (p : Name) (s : Segment) (n : ℕ) → IsSetting setting → IsKnown setting (Order.Fetch p s n) → IsTrue (is_projection setting (processor_number setting.processors p))
unfolding is_known
known-fetch setting p s n h k = first-projection setting.processors p h.processors.differ k

pub known-rows : (setting : Setting) (p : Name) → IsSetting setting → IsKnown setting (Order.ShowRows p) → IsTrue (is_projection setting (processor_number setting.processors p))
unfolding is_known
known-rows setting p h k = first-projection setting.processors p h.processors.differ k

-- ---- in queues

all-front : {A : Type 0} (test : A → Bool) (xs ys : List A) → list_all test (xs ++ ys) ≡ true → (list_all test xs ≡ true) × (list_all test ys ≡ true)
all-front test [] ys h = (refl, h)
all-front test (x ∷ xs) ys h =
    let p = both (test x) (list_all test (xs ++ ys)) h in
    let q = all-front test xs ys p.1 in
    (ap (λ b. b && list_all test xs) p.0 ∙ q.0, q.1)

-- what holds of all that is queued holds of each
pub all-queued : {A : Type 0} (test : A → Bool) (queues : List (List A)) (k n : ℕ) (x : A) → list_all test (all_of queues) ≡ true → slice_get (queue_of queues k) n ≡ Some x → test x ≡ true
all-queued test [] k n x h e = absurd (cc)
all-queued test (q ∷ queues) zero n x h e = all-at test q n x (all-front test q (all_of queues) h).0 e
all-queued test (q ∷ queues) (suc k) n x h e = all-queued test queues k n x (all-front test q (all_of queues) h).1 e

-- a queue with something in it is one of them
pub queued-within : {A : Type 0} (queues : List (List A)) (k n : ℕ) (x : A) → slice_get (queue_of queues k) n ≡ Some x → k < length queues
queued-within [] k n x e = absurd (cc)
queued-within (q ∷ queues) zero n x e = omega arith
queued-within (q ∷ queues) (suc k) n x e = let lt : k < length queues = queued-within queues k n x e in omega (arith, lt)
