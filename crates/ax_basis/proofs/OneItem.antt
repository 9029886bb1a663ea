-- One item of a share: what is left after it.
use Rattle.std.proofs.Common.{◌≡◌, ◌<◌, ◌+◌, ℕ, suc, Bool, true, false, List, [], ◌∷◌, ◌++◌, length, drop, get_or, refl, sym, ap, ◌∙◌, subst, arith, append_assoc, drop-cons}
use Rattle.std.specs.Prelude.{Result, Ok, Err, IfOk, slice_set}
use Rattle.std.specs.List.{list_all}
use Rattle.ax_laws.proofs.Tests.{both}
use Rattle.ax_values.specs.Grammar.{Name}
use Rattle.ax_rules.specs.Expr.{Row}
use Rattle.ax_rules.specs.Rules.{Rules, applied, row_or}
use Rattle.ax_rules.specs.declared.cause.Cause.{Cause}
use Rattle.ax_rules.specs.declared.why.Why.{Why}
use Rattle.ax_basis.specs.Basis.{is_of_member, row_fits}
use Rattle.ax_basis.specs.Outcomes.{name_place, row_among, tried, failed, outcomes_after, outcomes_from, outcomes_of, rows_after}
use Rattle.ax_basis.specs.declared.item.BasisItem.{BasisItem}
use Rattle.ax_basis.specs.declared.item.Member.{Member}
use Rattle.ax_basis.specs.declared.outcome.Outcome.{Outcome}

module _ (rules : Rules) (keep : Bool) (names : List Name) where
  -- the outcomes so far and those of the items that are left are all; the rows after the items that are left are those after all
  pub record IsGoing (all : List Outcome) (last : List Row) (made : List Outcome) (behind : Bool) (xs : List BasisItem) (rows : List Row) : Type 0 where
    pub said : made ++ outcomes_of rules keep names behind xs rows ≡ all
    pub stand : rows_after rules names xs (outcomes_of rules keep names behind xs rows) rows ≡ last

  was-applied : (marked : Bool) (r : Result Row Cause) (old row : Row) → Ok row ≡ tried marked r → row_or old r ≡ row
  was-applied true r old row e = cc
  was-applied false (Ok next) old row e = let same : row ≡ next = cc in sym same
  was-applied false (Err c) old row e = cc

  failed-next : (keep : Bool) (x : BasisItem) (xs : List BasisItem) (rows : List Row) (why : Why)
      → outcomes_after keep names x.item.name.aggregate rows xs (λ next. outcomes_from rules keep names xs next) (Err why) ≡ failed keep why ∷ outcomes_of rules keep names keep xs rows
  failed-next true x xs rows why = refl
  failed-next false x xs rows why = refl

  failed-rows : (keep : Bool) (x : BasisItem) (xs : List BasisItem) (os : List Outcome) (rows : List Row) (why : Why) → rows_after rules names (x ∷ xs) (failed keep why ∷ os) rows ≡ rows_after rules names xs os rows
  failed-rows true x xs os rows why = refl
  failed-rows false x xs os rows why = refl

  module _ (all : List Outcome) (last : List Row) (made : List Outcome) (x : BasisItem) (xs : List BasisItem) (rows : List Row) where
    abbrev a : Name
    a = x.item.name.aggregate

    abbrev place : ℕ
    place = name_place a names

    one-more : (o : Outcome) (rest : List Outcome) → outcomes_from rules keep names (x ∷ xs) rows ≡ o ∷ rest → made ++ outcomes_from rules keep names (x ∷ xs) rows ≡ all → (made ++ o ∷ []) ++ rest ≡ all
    one-more o rest e h = append_assoc made (o ∷ []) rest ∙ ap (λ os. made ++ os) (sym e) ∙ h

    pub next-applied : (row : Row) → Ok row ≡ tried x.marked (applied rules (row_among names a rows) x.item) → IsGoing all last made false (x ∷ xs) rows → IsGoing all last (made ++ Outcome.Applied ∷ []) false xs (slice_set rows place row)
    next-applied row e g =
        let made-is : outcomes_from rules keep names (x ∷ xs) rows ≡ Outcome.Applied ∷ outcomes_from rules keep names xs (slice_set rows place row) =
        ap (outcomes_after keep names a rows xs (λ next. outcomes_from rules keep names xs next)) (sym e) in
        let row-is : row_or (row_among names a rows) (applied rules (row_among names a rows) x.item) ≡ row = was-applied x.marked (applied rules (row_among names a rows) x.item) (row_among names a rows) row e in
        record {
          said = one-more Outcome.Applied (outcomes_from rules keep names xs (slice_set rows place row)) made-is g.said;
          stand =
              ap (λ r. rows_after rules names xs (outcomes_from rules keep names xs (slice_set rows place row)) (slice_set rows place r)) (sym row-is)
              ∙ ap (λ os. rows_after rules names (x ∷ xs) os rows) (sym made-is) ∙ g.stand;
        }

    pub next-failed : (why : Why) → Err why ≡ tried x.marked (applied rules (row_among names a rows) x.item) → IsGoing all last made false (x ∷ xs) rows → IsGoing all last (made ++ failed keep why ∷ []) keep xs rows
    next-failed why e g =
        let made-is : outcomes_from rules keep names (x ∷ xs) rows ≡ failed keep why ∷ outcomes_of rules keep names keep xs rows =
        ap (outcomes_after keep names a rows xs (λ next. outcomes_from rules keep names xs next)) (sym e) ∙ failed-next keep x xs rows why in
        record {
          said = one-more (failed keep why) (outcomes_of rules keep names keep xs rows) made-is g.said;
          stand = sym (failed-rows keep x xs (outcomes_of rules keep names keep xs rows) rows why) ∙ ap (λ os. rows_after rules names (x ∷ xs) os rows) (sym made-is) ∙ g.stand;
        }

-- the item that is read and those after it
pub items-left : (xs : List BasisItem) (i : ℕ) (x : BasisItem) → i < length xs → x ≡ get_or xs i x → drop i xs ≡ x ∷ drop (i + 1) xs
items-left xs i x lt e =
    let next : suc i ≡ i + 1 = omega arith in
    drop-cons xs i x lt ∙ ap (λ y. y ∷ drop (suc i) xs) (sym e) ∙ ap (λ n. x ∷ drop n xs) next

-- what was so before an item is read
pub going-here : (rules : Rules) (keep : Bool) (names : List Name) (all : List Outcome) (last : List Row) (made : List Outcome) (behind : Bool) (xs : List BasisItem) (i : ℕ) (x : BasisItem) (rows : List Row)
    → behind ≡ false → i < length xs → x ≡ get_or xs i x → IsGoing rules keep names all last made behind (drop i xs) rows → IsGoing rules keep names all last made false (x ∷ drop (i + 1) xs) rows
going-here rules keep names all last made behind xs i x rows front lt read g =
    subst (λ ys. IsGoing rules keep names all last made false ys rows) (items-left xs i x lt read) (subst (λ b. IsGoing rules keep names all last made b (drop i xs) rows) front g)

pub own-rest : (ms : List Member) (xs : List BasisItem) (i : ℕ) (x : BasisItem) → i < length xs → x ≡ get_or xs i x → list_all (is_of_member ms) (drop i xs) ≡ true → list_all (is_of_member ms) (drop (i + 1) xs) ≡ true
own-rest ms xs i x lt read h =
    (both (is_of_member ms x) (list_all (is_of_member ms) (drop (i + 1) xs)) (ap (list_all (is_of_member ms)) (sym (items-left xs i x lt read)) ∙ h)).1

pub ok-fits : (rules : Rules) (r : Result Row Why) (row : Row) → IfOk r (λ row. row_fits rules row ≡ true) → r ≡ Ok row → row_fits rules row ≡ true
ok-fits rules (Ok next) row h e = let same : next ≡ row = cc in subst (λ r. row_fits rules r ≡ true) same h
ok-fits rules (Err why) row h e = cc
