-- Rules: how an item changes a row, and folds of items.
use Rattle.std.specs.Prelude.{ℕ, ◌^◌, Bool, false, ◌&&◌, List, [], ◌∷◌, map, find, length, Option, Some, None, Result, Ok, Err, nat_lt}
use Rattle.std.specs.List.{list_all, slice_set}
use Rattle.ax_values.specs.Grammar.{Name}
use Rattle.ax_values.specs.Words.{Payload, same_name}
use Rattle.ax_values.specs.declared.item.Item.{Item}
use Rattle.ax_rules.specs.Expr.{Row, expr_fits, value_of}
use Rattle.ax_rules.specs.Nodes.{expr_of}
use Rattle.ax_rules.specs.Guards.{guard_fits, guards_cause}
use Rattle.ax_rules.specs.declared.cause.Cause.{Cause}
use Rattle.ax_rules.specs.declared.rule.Set.{Set}
use Rattle.ax_rules.specs.declared.rule.Rule.{Rule}
use Rattle.ax_rules.specs.declared.rules.Initial.{Initial}
use Rattle.ax_rules.specs.declared.rules.Applied.{Applied}

pub record Rules : Type 0 where
  pub fields : List Initial
  pub rules : List Rule

-- ---- places

abbrev pub set_fits : ℕ → Set → Bool
set_fits n s = nat_lt s.field n && expr_fits n (expr_of s.value)

-- fewer than 2^32 guards, and each field place below a number of fields
abbrev pub rule_fits : ℕ → Rule → Bool
rule_fits n r = nat_lt (length r.guards) (2 ^ 32) && (list_all (guard_fits n) r.guards && list_all (set_fits n) r.sets)

-- ---- rows

abbrev pub and_then : {A B : Type 0} → Result A Cause → (A → Result B Cause) → Result B Cause
and_then (Err c) next = Err c
and_then (Ok x) next = next x

-- the row with all sets made, each computed over the old row, or the first cause
abbrev pub sets_made : List Set → Row → Payload → Row → Result Row Cause
sets_made [] old payload new = Ok new
sets_made (s ∷ ss) old payload new = and_then (value_of (expr_of s.value) old payload) (λ z. sets_made ss old payload (slice_set new s.field z))

abbrev pub unless_cause : Option Cause → Result Row Cause → Result Row Cause
unless_cause None made = made
unless_cause (Some c) made = Err c

abbrev pub rule_for : Rules → Name → Option Rule
rule_for rules kind = find (λ r. same_name r.kind kind) rules.rules

abbrev pub applied_by : Option Rule → Row → Payload → Result Row Cause
applied_by None row payload = Ok row
applied_by (Some r) row payload = unless_cause (guards_cause 0 r.guards row payload) (sets_made r.sets row payload row)

-- what the rules make of a row and an item: a row or the first cause. Without a rule the row stays
abbrev pub applied : Rules → Row → Item → Result Row Cause
applied rules row item = applied_by (rule_for rules item.kind) row item.payload

abbrev pub applied_of : Result Row Cause → Applied
applied_of (Ok row) = Applied.Row row
applied_of (Err c) = Applied.Fault c

abbrev pub rule_announces : Option Rule → Bool
rule_announces None = false
rule_announces (Some r) = r.announce

abbrev pub announces : Rules → Item → Bool
announces rules item = rule_announces (rule_for rules item.kind)

-- the declared fields' first values
abbrev pub start_row : List Initial → Row
start_row fields = map (λ f. f.value) fields

-- ---- folds

abbrev pub fold_from : Rules → List Item → Row → Result Row Cause
fold_from rules [] row = Ok row
fold_from rules (x ∷ xs) row = and_then (applied rules row x) (λ next. fold_from rules xs next)

-- the row after the items, where none gives a cause
abbrev pub fold_items : Rules → List Item → Result Row Cause
fold_items rules xs = fold_from rules xs (start_row rules.fields)

abbrev pub row_or : Row → Result Row Cause → Row
row_or old (Ok new) = new
row_or old (Err c) = old

-- an item that gives a cause leaves the row as it is
abbrev pub lenient_from : Rules → List Item → Row → Row
lenient_from rules [] row = row
lenient_from rules (x ∷ xs) row = lenient_from rules xs (row_or row (applied rules row x))

abbrev pub lenient : Rules → List Item → Row
lenient rules xs = lenient_from rules xs (start_row rules.fields)
