-- One item of a share of one member.
use Rattle.std.proofs.Common.{◌≡◌, ◌<◌, ◌+◌, ℕ, Bool, true, false, List, [], ◌∷◌, ◌++◌, ◌||◌, length, drop, get_or, refl, sym, ap, ◌∙◌, subst}
use Rattle.std.specs.Prelude.{Ok, Err, if◌then◌else◌, slice_set}
use Rattle.std.specs.List.{list_all}
use Rattle.ax_laws.proofs.Tests.{both}
use Rattle.ax_values.specs.Words.{same_name}
use Rattle.ax_rules.specs.Expr.{Row}
use Rattle.ax_rules.specs.Rules.{Rules, applied}
use Rattle.ax_rules.specs.declared.why.Why.{Why}
use Rattle.ax_basis.specs.Basis.{is_of_member}
use Rattle.ax_basis.specs.Outcomes.{name_place, row_in_place, tried, failed}
use Rattle.ax_basis.specs.declared.item.BasisItem.{BasisItem}
use Rattle.ax_basis.specs.declared.item.Member.{Member}
use Rattle.ax_basis.specs.declared.outcome.Outcome.{Outcome}
use Rattle.ax_basis.proofs.OneItem.{IsGoing, items-left, next-applied, next-failed}

own-place : (m : Member) (x : BasisItem) → is_of_member (m ∷ []) x ≡ true → name_place x.item.name.aggregate (m.aggregate ∷ []) ≡ 0
own-place m x h = at (same_name m.aggregate x.item.name.aggregate) h
  where
    at : (b : Bool) → (b || false) ≡ true → ◌≡◌ {A = ℕ} (if b then 0 else 1) 0
    at true e = refl
    at false e = cc

module _ (rules : Rules) (keep : Bool) (all : List Outcome) (last : List Row) (made : List Outcome) (m : Member) (x : BasisItem) (xs : List BasisItem) (row : Row) where
  pub lone-applied : (next : Row) → is_of_member (m ∷ []) x ≡ true → Ok next ≡ tried x.marked (applied rules row x.item)
      → IsGoing rules keep (m.aggregate ∷ []) all last made false (x ∷ xs) (row ∷ []) → IsGoing rules keep (m.aggregate ∷ []) all last (made ++ Outcome.Applied ∷ []) false xs (next ∷ [])
  lone-applied next own e g =
      let place = own-place m x own in
      subst (λ p. IsGoing rules keep (m.aggregate ∷ []) all last (made ++ Outcome.Applied ∷ []) false xs (slice_set (row ∷ []) p next)) place
      (next-applied rules keep (m.aggregate ∷ []) all last made x xs (row ∷ []) next (e ∙ ap (λ p. tried x.marked (applied rules (row_in_place p (row ∷ [])) x.item)) (sym place)) g)

  pub lone-failed : (why : Why) → is_of_member (m ∷ []) x ≡ true → Err why ≡ tried x.marked (applied rules row x.item)
      → IsGoing rules keep (m.aggregate ∷ []) all last made false (x ∷ xs) (row ∷ []) → IsGoing rules keep (m.aggregate ∷ []) all last (made ++ failed keep why ∷ []) keep xs (row ∷ [])
  lone-failed why own e g =
      next-failed rules keep (m.aggregate ∷ []) all last made x xs (row ∷ []) why
      (e ∙ ap (λ p. tried x.marked (applied rules (row_in_place p (row ∷ [])) x.item)) (sym (own-place m x own))) g

-- the item that is read is the member's
pub own-first : (ms : List Member) (xs : List BasisItem) (i : ℕ) (x : BasisItem) → i < length xs → x ≡ get_or xs i x → list_all (is_of_member ms) (drop i xs) ≡ true → is_of_member ms x ≡ true
own-first ms xs i x lt read h =
    (both (is_of_member ms x) (list_all (is_of_member ms) (drop (i + 1) xs)) (ap (list_all (is_of_member ms)) (sym (items-left xs i x lt read)) ∙ h)).0
