-- A handler leaves a row with as many numbers as it had.
use Rattle.std.proofs.Common.{◌≡◌, List, [], ◌∷◌, length, Result, Ok, Err, sym, ap, ◌∙◌}
use Rattle.std.specs.Prelude.{ℤ}
use Rattle.std.specs.List.{slice_set}
use Rattle.std.proofs.lemmas.List.{length-set}
use Rattle.ax_values.specs.Words.{Payload}
use Rattle.ax_rules.specs.Expr.{Row, value_of}
use Rattle.ax_rules.specs.Nodes.{expr_of}
use Rattle.ax_rules.specs.Cause.{with_cause}
use Rattle.ax_rules.specs.Rules.{sets_made, and_then}
use Rattle.ax_rules.specs.declared.cause.Cause.{Cause}
use Rattle.ax_rules.specs.declared.cause.BorrowedCause.{BorrowedCause}
use Rattle.ax_rules.specs.declared.rule.Set.{Set}

long-by : (value : Result ℤ Cause) (next : ℤ → Result Row Cause) (row new : Row) → ((z : ℤ) → next z ≡ Ok new → length new ≡ length row) → and_then value next ≡ Ok new → length new ≡ length row
long-by (Ok z) next row new rest h = rest z h
long-by (Err e) next row new rest h = cc

long-made : (sets : List Set) (old : Row) (payload : Payload) (row new : Row) → sets_made sets old payload row ≡ Ok new → length new ≡ length row
long-made [] old payload row new h = let same : new ≡ row = cc in ap length same
long-made (s ∷ ss) old payload row new h =
    long-by (value_of (expr_of s.value) old payload) (λ z. sets_made ss old payload (slice_set row s.field z)) row new
    (λ z k. long-made ss old payload (slice_set row s.field z) new k ∙ length-set row s.field z) h

-- the same of a row whose cause would be borrowed
pub long-row : (sets : List Set) (old : Row) (payload : Payload) (row new : Row) (made : Result Row BorrowedCause) → made ≡ Ok new → with_cause made ≡ sets_made sets old payload row → length new ≡ length row
long-row sets old payload row new made e h = long-made sets old payload row new (sym h ∙ ap (λ m. with_cause m) e)
