-- Rows keep their length, and a fold goes on where another ended.
use Rattle.std.proofs.Common.{◌≡◌, ℕ, suc, arith, ℤ, List, [], ◌∷◌, ◌++◌, length, drop, get_or, ◌+◌, ◌<◌, drop-cons, Option, Some, None, refl, sym, ap, ◌∙◌}
use Rattle.std.specs.Prelude.{Result, Ok, Err}
use Rattle.std.specs.List.{slice_set}
use Rattle.std.proofs.lemmas.List.{length-set}
use Rattle.ax_values.specs.Words.{Payload}
use Rattle.ax_values.specs.declared.item.Item.{Item}
use Rattle.ax_rules.specs.Expr.{Row, value_of}
use Rattle.ax_rules.specs.Nodes.{expr_of}
use Rattle.ax_rules.specs.Guards.{guards_cause}
use Rattle.ax_rules.specs.Rules.{Rules, and_then, sets_made, unless_cause, applied_by, rule_for, applied, row_or, lenient_from}
use Rattle.ax_rules.specs.declared.cause.Cause.{Cause}
use Rattle.ax_rules.specs.declared.rule.Set.{Set}
use Rattle.ax_rules.specs.declared.rule.Rule.{Rule}

sets-length : (ss : List Set) (old : Row) (payload : Payload) (new made : Row) → sets_made ss old payload new ≡ Ok made → length made ≡ length new
sets-length [] old payload new made h = let same : new ≡ made = cc in ap length (sym same)
sets-length (s ∷ ss) old payload new made h = at (value_of (expr_of s.value) old payload) (λ z. sets-length ss old payload (slice_set new s.field z) made) h
  where
    at : (r : Result ℤ Cause) → ((z : ℤ) → sets_made ss old payload (slice_set new s.field z) ≡ Ok made → length made ≡ length (slice_set new s.field z)) → and_then r (λ z. sets_made ss old payload (slice_set new s.field z)) ≡ Ok made → length made ≡ length new
    at (Err c) more e = cc
    at (Ok z) more e = more z e ∙ length-set new s.field z

by_result : (row : Row) (r : Result Row Cause) → ((made : Row) → r ≡ Ok made → length made ≡ length row) → length (row_or row r) ≡ length row
by_result row (Ok made) h = h made refl
by_result row (Err c) h = refl

by_rule : (row : Row) (payload : Payload) (o : Option Rule) → length (row_or row (applied_by o row payload)) ≡ length row
by_rule row payload None = refl
by_rule row payload (Some r) = at (guards_cause 0 r.guards row payload)
  where
    at : (o : Option Cause) → length (row_or row (unless_cause o (sets_made r.sets row payload row))) ≡ length row
    at None = by_result row (sets_made r.sets row payload row) (sets-length r.sets row payload row)
    at (Some c) = refl

pub length_applied : (rules : Rules) (row : Row) (x : Item) → length (row_or row (applied rules row x)) ≡ length row
length_applied rules row x = by_rule row x.payload (rule_for rules x.kind)

pub length-lenient : (rules : Rules) (xs : List Item) (row : Row) → length (lenient_from rules xs row) ≡ length row
length-lenient rules [] row = refl
length-lenient rules (x ∷ xs) row = length-lenient rules xs (row_or row (applied rules row x)) ∙ length_applied rules row x

pub lenient-append : (rules : Rules) (xs ys : List Item) (row : Row) → lenient_from rules (xs ++ ys) row ≡ lenient_from rules ys (lenient_from rules xs row)
lenient-append rules [] ys row = refl
lenient-append rules (x ∷ xs) ys row = lenient-append rules xs ys (row_or row (applied rules row x))

-- one item more
pub step_row : (rules : Rules) (xs : List Item) (i : ℕ) (x : Item) (row : Row) → i < length xs → x ≡ get_or xs i x → lenient_from rules (drop (i + 1) xs) (row_or row (applied rules row x)) ≡ lenient_from rules (drop i xs) row
step_row rules xs i x row l e =
    let next : i + 1 ≡ suc i = omega arith in
    ap (λ n. lenient_from rules (drop n xs) (row_or row (applied rules row x))) next ∙ ap (λ ys. lenient_from rules ys row) (ap (λ y. y ∷ drop (suc i) xs) e ∙ sym (drop-cons xs i x l))
