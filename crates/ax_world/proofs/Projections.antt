-- The rules of a processor that is one of a projection.
use Rattle.std.proofs.Common.{◌≡◌, ℕ, zero, suc, ◌<◌, Bool, true, false, not, List, [], ◌∷◌, length, Option, IsTrue, is_some, slice_get, get_or, if◌then◌else◌, sym, ap, ◌∙◌, arith}
use Rattle.std.specs.List.{list_all}
use Rattle.ax_laws.proofs.Tests.{both}
use Rattle.ax_log.specs.Log.{option_is}
use Rattle.ax_rules.specs.Rules.{Rules}
use Rattle.ax_state.specs.Every.{option_or}
use Rattle.ax_state.specs.Setting.{Setting, IsSetting, is_projection, processor_at, no_processor}
use Rattle.ax_sheet.specs.Sheet.{Sheet, projection_named, saga_named}
use Rattle.ax_sheet.specs.Declarations.{is_of_sheet, Processor}

rules-among : (sheet : Sheet) (qs : List Processor) (p : ℕ) → list_all (is_of_sheet sheet) qs ≡ true → option_is (λ q. not q.saga) (slice_get qs p) ≡ true → is_some (projection_named sheet (option_or no_processor (slice_get qs p)).name) ≡ true
rules-among sheet [] p h k = absurd (cc)
rules-among sheet (q ∷ qs) zero h k = at q.saga k (both (is_of_sheet sheet q) (list_all (is_of_sheet sheet) qs) h).0
  where
    at : (b : Bool) → not b ≡ true → (if b then is_some (saga_named sheet q.name) else is_some (projection_named sheet q.name)) ≡ true → is_some (projection_named sheet q.name) ≡ true
    at true k h = absurd (cc)
    at false k h = h
rules-among sheet (q ∷ qs) (suc p) h k = rules-among sheet qs p (both (is_of_sheet sheet q) (list_all (is_of_sheet sheet) qs) h).1 k

-- each projection processor has its rules
pub has-rules : (s : Setting) (p : ℕ) → IsSetting s → IsTrue (is_projection s p) → is_some (projection_named s.sheet (processor_at s p).name) ≡ true
has-rules s p h k = rules-among s.sheet s.processors p h.processors.of_sheet k

index-is : (qs : List Processor) (p : ℕ) (q : Processor) → p < length qs → q ≡ get_or qs p q → option_or no_processor (slice_get qs p) ≡ q
index-is [] p q h e = absurd (omega arith)
index-is (x ∷ xs) zero q h e = sym e
index-is (x ∷ xs) (suc p) q h e = index-is xs p q (omega arith) e

pub projection-within : (qs : List Processor) (p : ℕ) → option_is (λ q. not q.saga) (slice_get qs p) ≡ true → p < length qs
projection-within [] p h = absurd (cc)
projection-within (x ∷ xs) zero h = omega arith
projection-within (x ∷ xs) (suc p) h = let ih : p < length xs = projection-within xs p h in omega arith

-- the processor that is read
pub read-processor : (s : Setting) (p : ℕ) (q : Processor) (read : List Processor) → p < length s.processors → q ≡ get_or read p q → read ≡ s.processors → processor_at s p ≡ q
read-processor s p q read h e same = index-is s.processors p q h (e ∙ ap (λ qs. get_or qs p q) same)

pub named-rules : (s : Setting) (p : ℕ) (q : Processor) (read : List Processor) (sheet : Sheet) (o : Option Rules) → IsTrue (is_projection s p) → q ≡ get_or read p q → read ≡ s.processors → sheet ≡ s.sheet → o ≡ projection_named sheet q.name
    → projection_named s.sheet (processor_at s p).name ≡ o
named-rules s p q read sheet o h e same is k =
    ap (λ (x : Processor). projection_named s.sheet x.name) (read-processor s p q read (projection-within s.processors p h) e same) ∙ ap (λ sh. projection_named sh q.name) (sym is) ∙ sym k
