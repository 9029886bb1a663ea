-- Rows keep one number for each declared field.
use Rattle.std.proofs.Common.{◌≡◌, ◌<◌, ◌==◌, ℕ, ℤ, zero, suc, true, List, [], ◌∷◌, length, Option, Some, None, refl, sym, ap, ◌∙◌, arith}
use Rattle.std.specs.Prelude.{Result, Ok, Err, slice_set}
use Rattle.std.specs.List.{list_all}
use Rattle.std.proofs.lemmas.List.{length-set}
use Rattle.ax_laws.proofs.Tests.{both, and-true}
use Rattle.ax_values.specs.Words.{Payload}
use Rattle.ax_values.specs.declared.item.Item.{Item}
use Rattle.ax_rules.specs.Expr.{Row, value_of}
use Rattle.ax_rules.specs.Nodes.{expr_of}
use Rattle.ax_rules.specs.Guards.{guards_cause}
use Rattle.ax_rules.specs.Rules.{Rules, and_then, sets_made, unless_cause, applied_by, applied_of, rule_for, applied}
use Rattle.ax_rules.specs.declared.cause.Cause.{Cause}
use Rattle.ax_rules.specs.declared.rule.Set.{Set}
use Rattle.ax_rules.specs.declared.rule.Rule.{Rule}
use Rattle.ax_rules.specs.declared.rules.Applied.{Applied}
use Rattle.ax_basis.specs.Basis.{row_fits, members_fit, member_rows}
use Rattle.ax_basis.specs.Outcomes.{row_in_place}
use Rattle.ax_basis.specs.declared.item.Member.{Member}

-- ---- one item

sets-length : (ss : List Set) (old : Row) (payload : Payload) (new made : Row) → sets_made ss old payload new ≡ Ok made → length made ≡ length new
sets-length [] old payload new made h = let same : new ≡ made = cc in ap length (sym same)
sets-length (s ∷ ss) old payload new made h = at (value_of (expr_of s.value) old payload) (λ z. sets-length ss old payload (slice_set new s.field z) made) h
  where
    at : (r : Result ℤ Cause) → ((z : ℤ) → sets_made ss old payload (slice_set new s.field z) ≡ Ok made → length made ≡ length (slice_set new s.field z)) → and_then r (λ z. sets_made ss old payload (slice_set new s.field z)) ≡ Ok made → length made ≡ length new
    at (Err c) more e = cc
    at (Ok z) more e = more z e ∙ length-set new s.field z

by-rule : (row : Row) (payload : Payload) (o : Option Rule) (made : Row) → applied_by o row payload ≡ Ok made → length made ≡ length row
by-rule row payload None made h = let same : row ≡ made = cc in ap length (sym same)
by-rule row payload (Some r) made h = at (guards_cause 0 r.guards row payload) h
  where
    at : (o : Option Cause) → unless_cause o (sets_made r.sets row payload row) ≡ Ok made → length made ≡ length row
    at None e = sets-length r.sets row payload row made e
    at (Some c) e = cc

pub applied-fits : (rules : Rules) (row made : Row) (x : Item) → row_fits rules row ≡ true → applied_of (applied rules row x) ≡ Applied.Row made → row_fits rules made ≡ true
applied-fits rules row made x h e = at (applied rules row x) (λ k. by-rule row x.payload (rule_for rules x.kind) made k) e
  where
    at : (r : Result Row Cause) → (r ≡ Ok made → length made ≡ length row) → applied_of r ≡ Applied.Row made → row_fits rules made ≡ true
    at (Ok next) long e = let same : made ≡ next = cc in ap (λ n. n == length rules.fields) (long (ap Ok (sym same))) ∙ h
    at (Err c) long e = cc

-- ---- rows in a list

pub fits-at : (rules : Rules) (rows : List Row) (i : ℕ) → list_all (row_fits rules) rows ≡ true → i < length rows → row_fits rules (row_in_place i rows) ≡ true
fits-at rules [] i h lt = absurd (omega arith)
fits-at rules (r ∷ rs) zero h lt = (both (row_fits rules r) (list_all (row_fits rules) rs) h).0
fits-at rules (r ∷ rs) (suc i) h lt = fits-at rules rs i (both (row_fits rules r) (list_all (row_fits rules) rs) h).1 (omega arith)

pub fits-set : (rules : Rules) (rows : List Row) (i : ℕ) (row : Row) → list_all (row_fits rules) rows ≡ true → row_fits rules row ≡ true → list_all (row_fits rules) (slice_set rows i row) ≡ true
fits-set rules [] i row h k = refl
fits-set rules (r ∷ rs) zero row h k = and-true (row_fits rules row) (list_all (row_fits rules) rs) k (both (row_fits rules r) (list_all (row_fits rules) rs) h).1
fits-set rules (r ∷ rs) (suc i) row h k =
    let p = both (row_fits rules r) (list_all (row_fits rules) rs) h in and-true (row_fits rules r) (list_all (row_fits rules) (slice_set rs i row)) p.0 (fits-set rules rs i row p.1 k)

pub fits-members : (rules : Rules) (ms : List Member) → members_fit rules ms ≡ true → list_all (row_fits rules) (member_rows ms) ≡ true
fits-members rules [] h = refl
fits-members rules (m ∷ ms) h =
    let p = both (row_fits rules m.row) (members_fit rules ms) h in and-true (row_fits rules m.row) (list_all (row_fits rules) (member_rows ms)) p.0 (fits-members rules ms p.1)

pub rows-long : (ms : List Member) → length (member_rows ms) ≡ length ms
rows-long [] = refl
rows-long (m ∷ ms) = ap suc (rows-long ms)
