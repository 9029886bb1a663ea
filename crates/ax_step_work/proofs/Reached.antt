-- How far tokens reach, and the events of the cells between.
use Rattle.std.proofs.Common.{◌≡◌, ℕ, suc, ◌<◌, ◌≤◌, ◌&&◌, Bool, true, false, not, Option, refl, ap, ◌∙◌, arith}
use borrow.Author.Tests.{lt-ltb}
use Rattle.ax_log.specs.Log.{Stored}
use Rattle.ax_segments.specs.Segments.{Segment, matches}
use Rattle.ax_segments.specs.Sequences.{hash_in}
use Rattle.ax_values.specs.Grammar.{Name}
use Rattle.ax_tokens.specs.Plain.{Plain, contains, has, is_canonical_plain}
use Rattle.ax_tokens.specs.Tokens.{Token, covers}
use Rattle.ax_tokens.proofs.Sets.{gaps-below}
use Rattle.ax_tokens.proofs.Gaps.{canonical-below}
use Rattle.ax_state.specs.Batches.{is_fetched}
use Rattle.ax_step_work.specs.Working.{is_new}
use Rattle.ax_step_work.specs.Reach.{IsCoveredBetween, IsOpenFrom}
use Rattle.ax_laws.proofs.Tests.{and-false}

-- ---- a plain part

-- the number before `next` is in the set
pub last-is : (p : Plain) (i : ℕ) → is_canonical_plain p ≡ true → p.next ≡ suc i → has p i ≡ true
last-is p i h e = ap (λ c. c && not (contains p.gaps i)) (lt-ltb i p.next (omega arith)) ∙ ap not (none (contains p.gaps i) refl)
  where
    none : (b : Bool) → contains p.gaps i ≡ b → b ≡ false
    none true c = absurd (let low : suc i < p.next = gaps-below p.next p.gaps i (canonical-below p h) c in omega arith)
    none false c = refl

-- ---- what is new, and what is fetched

nothing-after : (m n : Bool) → (m && (n && false)) ≡ false
nothing-after true true = refl
nothing-after true false = refl
nothing-after false n = refl

pub new-covered : (whole : Option Name) (s : Segment) (t : Token) (a n : ℕ) → IsCoveredBetween t a n → (e : Stored) → a ≤ e.index → e.index < n → is_new whole s t e ≡ false
new-covered whole s t a n h e le lt =
    ap (λ c. matches s (hash_in whole e.record_of.aggregate) && not c) (h s.mask (hash_in whole e.record_of.aggregate) e.index le lt) ∙ and-false (matches s (hash_in whole e.record_of.aggregate))

pub fetched-covered : (whole : Option Name) (s : Segment) (old new : Token) (a n : ℕ) → IsCoveredBetween old a n → (e : Stored) → a ≤ e.index → e.index < n → is_fetched whole s old new e ≡ false
fetched-covered whole s old new a n h e le lt =
    ap (λ c. matches s (hash_in whole e.record_of.aggregate) && (covers new s.mask (hash_in whole e.record_of.aggregate) e.index && not c)) (h s.mask (hash_in whole e.record_of.aggregate) e.index le lt)
    ∙ nothing-after (matches s (hash_in whole e.record_of.aggregate)) (covers new s.mask (hash_in whole e.record_of.aggregate) e.index)

pub fetched-open : (whole : Option Name) (s : Segment) (old new : Token) (n : ℕ) → IsOpenFrom new n → (e : Stored) → n ≤ e.index → is_fetched whole s old new e ≡ false
fetched-open whole s old new n h e le =
    ap (λ c. matches s (hash_in whole e.record_of.aggregate) && (c && not (covers old s.mask (hash_in whole e.record_of.aggregate) e.index))) (h s.mask (hash_in whole e.record_of.aggregate) e.index le)
    ∙ and-false (matches s (hash_in whole e.record_of.aggregate))
