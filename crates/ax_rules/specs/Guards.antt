-- Guards: when one is true, and the first cause that some give.
use Rattle.std.specs.Prelude.{ℕ, suc, Bool, true, false, not, ◌&&◌, List, [], ◌∷◌, Option, Some, None, Result, Ok, Err, ℤ, int_lt, int_le}
use Rattle.std.specs.Ordering.{int_eq}
use Rattle.ax_values.specs.Words.{Payload}
use Rattle.ax_rules.specs.Expr.{Row, expr_fits, value_of}
use Rattle.ax_rules.specs.Nodes.{expr_of}
use Rattle.ax_rules.specs.declared.cause.Cause.{Cause}
use Rattle.ax_rules.specs.declared.guard.Test.{Test}
use Rattle.ax_rules.specs.declared.guard.Guard.{Guard}

-- whether each field place in it is below a number of fields
abbrev pub guard_fits : ℕ → Guard → Bool
guard_fits n g = expr_fits n (expr_of g.left) && expr_fits n (expr_of g.right)

abbrev pub test_passes : Test → ℤ → ℤ → Bool
test_passes Test.Equal x y = int_eq x y
test_passes Test.Differ x y = not (int_eq x y)
test_passes Test.Less x y = int_lt x y
test_passes Test.AtMost x y = int_le x y

-- whether the test holds of two values, or the first cause
abbrev pub tested : Test → Result ℤ Cause → Result ℤ Cause → Result Bool Cause
tested test (Err c) y = Err c
tested test (Ok x) (Err c) = Err c
tested test (Ok x) (Ok y) = Ok (test_passes test x y)

abbrev pub guard_holds : Guard → Row → Payload → Result Bool Cause
guard_holds g row payload = tested g.test (value_of (expr_of g.left) row payload) (value_of (expr_of g.right) row payload)

abbrev pub cause_unless : ℕ → Result Bool Cause → Option Cause
cause_unless k (Ok true) = None
cause_unless k (Ok false) = Some (Cause.Guard k)
cause_unless k (Err c) = Some c

abbrev pub first_cause : Option Cause → Option Cause → Option Cause
first_cause None later = later
first_cause (Some c) later = Some c

-- the first cause that a guard gives, the guards being numbered from k
abbrev pub guards_cause : ℕ → List Guard → Row → Payload → Option Cause
guards_cause k [] row payload = None
guards_cause k (g ∷ gs) row payload = first_cause (cause_unless k (guard_holds g row payload)) (guards_cause (suc k) gs row payload)
