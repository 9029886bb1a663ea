-- No processor is whole yet, and none but a saga processor asks for tokens without gaps. This is the one place that sees it.
use Rattle.std.proofs.Common.{◌≡◌, ℕ, Bool, true, false, not, IsTrue, Option, Some, None, slice_get, refl}
use Rattle.ax_log.specs.Log.{option_is}
use Rattle.ax_sheet.specs.Declarations.{Processor}
use Rattle.ax_state.specs.Setting.{Setting, is_projection, is_saga, whole_at, needs_no_gaps}

pub not-whole : (s : Setting) (p : ℕ) → whole_at s p ≡ None
unfolding whole_at
not-whole s p = refl

-- a processor is of a projection or of a saga
pub not-both-kinds : (s : Setting) (p : ℕ) → IsTrue (is_projection s p) → IsTrue (is_saga s p) → ⊥
not-both-kinds s p h k = at (slice_get s.processors p) h k
  where
    by : (b : Bool) → not b ≡ true → b ≡ true → ⊥
    by true h k = cc
    by false h k = cc

    at : (o : Option Processor) → option_is (λ q. not q.saga) o ≡ true → option_is (λ q. q.saga) o ≡ true → ⊥
    at None h k = cc
    at (Some q) h k = by q.saga h k

pub gaps-allowed : (s : Setting) (p : ℕ) → IsTrue (is_projection s p) → IsTrue (needs_no_gaps s p) → ⊥
unfolding needs_no_gaps
gaps-allowed s p h k = not-both-kinds s p h k
