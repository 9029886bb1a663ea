-- Expressions over whole numbers of 64 bits with sign: their value over a row and a payload.
use Rattle.std.specs.Prelude.{ℕ, ◌+◌, ◌^◌, Bool, true, ◌&&◌, List, Option, Some, None, Result, Ok, Err, ℤ, pos, negsuc, ◌+ℤ◌, ◌-ℤ◌, ◌*ℤ◌, nat_lt, if◌then◌else◌}
use Rattle.std.specs.List.{slice_index_or}
use Rattle.ax_values.specs.Grammar.{Name}
use Rattle.ax_values.specs.Words.{Payload, field_of}
use Rattle.ax_values.specs.declared.value.Value.{Value}
use Rattle.ax_rules.specs.declared.cause.Cause.{Cause}

pub data Expr : Type 0 where
  constant : ℤ → Expr
  field : ℕ → Expr
  argument : Name → Expr
  sum difference product : Expr → Expr → Expr

-- one number per declared field
abbrev pub Row : Type 0
Row = List ℤ

-- how many numbers, fields, arguments and operations it has
abbrev pub size_of : Expr → ℕ
size_of (constant z) = 1
size_of (field k) = 1
size_of (argument name) = 1
size_of (sum e f) = size_of e + size_of f + 1
size_of (difference e f) = size_of e + size_of f + 1
size_of (product e f) = size_of e + size_of f + 1

-- whether each field place in it is below a number of fields
abbrev pub expr_fits : ℕ → Expr → Bool
expr_fits n (constant z) = true
expr_fits n (field k) = nat_lt k n
expr_fits n (argument name) = true
expr_fits n (sum e f) = expr_fits n e && expr_fits n f
expr_fits n (difference e f) = expr_fits n e && expr_fits n f
expr_fits n (product e f) = expr_fits n e && expr_fits n f

-- whether a number has 64 bits with sign
abbrev pub fits_int : ℤ → Bool
fits_int (pos n) = nat_lt n (2 ^ 63)
fits_int (negsuc n) = nat_lt n (2 ^ 63)

abbrev pub number_or_overflow : ℤ → Result ℤ Cause
number_or_overflow z = if fits_int z then Ok z else Err Cause.Overflow

abbrev pub combined : (ℤ → ℤ → ℤ) → Result ℤ Cause → Result ℤ Cause → Result ℤ Cause
combined f (Err c) y = Err c
combined f (Ok x) (Err c) = Err c
combined f (Ok x) (Ok y) = number_or_overflow (f x y)

-- the number in a field; a field that is absent or a text is missing
abbrev pub number_or_missing : Name → Option Value → Result ℤ Cause
number_or_missing name None = Err (Cause.Missing name)
number_or_missing name (Some (Value.Text t)) = Err (Cause.Missing name)
number_or_missing name (Some (Value.Int z)) = Ok z

-- the value of an expression over a row and a payload, left side first
abbrev pub value_of : Expr → Row → Payload → Result ℤ Cause
value_of (constant z) row payload = Ok z
value_of (field k) row payload = Ok (slice_index_or row k (pos 0))
value_of (argument name) row payload = number_or_missing name (field_of name payload)
value_of (sum e f) row payload = combined ◌+ℤ◌ (value_of e row payload) (value_of f row payload)
value_of (difference e f) row payload = combined ◌-ℤ◌ (value_of e row payload) (value_of f row payload)
value_of (product e f) row payload = combined ◌*ℤ◌ (value_of e row payload) (value_of f row payload)
