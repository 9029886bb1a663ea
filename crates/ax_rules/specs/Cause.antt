-- Causes: the same whether their name is borrowed or not.
use Rattle.std.specs.Prelude.{Result, Ok, Err}
use Rattle.ax_rules.specs.declared.cause.Cause.{Cause}
use Rattle.ax_rules.specs.declared.cause.BorrowedCause.{BorrowedCause}

abbrev pub cause_of : BorrowedCause → Cause
cause_of BorrowedCause.Overflow = Cause.Overflow
cause_of (BorrowedCause.Missing name) = Cause.Missing name.now
cause_of (BorrowedCause.Guard k) = Cause.Guard k

-- a value, or the cause that there is none
abbrev pub with_cause : {A : Type 0} → Result A BorrowedCause → Result A Cause
with_cause (Ok x) = Ok x
with_cause (Err c) = Err (cause_of c)
