-- The loops of a commit over shares and their results.
use Rattle.std.proofs.Common.{◌≡◌, ℕ, suc, ◌+◌, ◌<◌, Bool, true, false, List, [], ◌∷◌, ◌++◌, length, map, flat_map, drop, get_or, drop-cons, Option, Some, None, find, if◌then◌else◌, refl, sym, ap, ◌∙◌, arith}
use Rattle.std.specs.List.{AllByRecursion}
use Rattle.std.proofs.lemmas.List.{length-set}
use Rattle.ax_values.specs.Grammar.{Name}
use Rattle.ax_rules.specs.Expr.{Row}
use Rattle.ax_rules.specs.Rules.{Rules}
use Rattle.ax_basis.specs.Basis.{Share, member_names, member_rows}
use Rattle.ax_basis.specs.Outcomes.{rows_after, share_result, outcomes}
use Rattle.ax_step_work.specs.Working.{ItemOutcome, item_outcomes, share_outcomes, is_unapplied}
use Rattle.ax_step_work.specs.Installing.{HasOneRow, IsSingle, entries_after, entries_in, outcomes_in, share_entries}
use Rattle.ax_basis.specs.declared.item.BasisItem.{BasisItem}
use Rattle.ax_basis.specs.declared.outcome.Outcome.{Outcome}
use Rattle.ax_basis.specs.declared.outcome.ShareResult.{ShareResult}

here : {A : Type 0} (xs : List A) (i : ℕ) (x : A) → i < length xs → x ≡ get_or xs i x → drop i xs ≡ x ∷ drop (i + 1) xs
here xs i x lt e =
    let next : suc i ≡ i + 1 = omega arith in
    drop-cons xs i x lt ∙ ap (λ y. y ∷ drop (suc i) xs) (sym e) ∙ ap (λ n. x ∷ drop n xs) next

-- ---- the first that is left

abbrev pub left_of : List BasisItem → List Outcome → Option ItemOutcome
left_of xs os = find (λ t. is_unapplied t.outcome) (item_outcomes xs os)

abbrev pub first_some : Option ItemOutcome → Option ItemOutcome → Option ItemOutcome
first_some None later = later
first_some (Some t) later = Some t

find-first : (ts us : List ItemOutcome) → find (λ t. is_unapplied t.outcome) (ts ++ us) ≡ first_some (find (λ t. is_unapplied t.outcome) ts) (find (λ t. is_unapplied t.outcome) us)
find-first [] us = refl
find-first (t ∷ ts) us = at (is_unapplied t.outcome) (find-first ts us)
  where
    at : (c : Bool) → find (λ t. is_unapplied t.outcome) (ts ++ us) ≡ first_some (find (λ t. is_unapplied t.outcome) ts) (find (λ t. is_unapplied t.outcome) us)
        → (if c then Some t else find (λ t. is_unapplied t.outcome) (ts ++ us)) ≡ first_some (if c then Some t else find (λ t. is_unapplied t.outcome) ts) (find (λ t. is_unapplied t.outcome) us)
    at true h = refl
    at false h = h

-- what is left among the shares, by the outcomes of their results
abbrev pub left_in : List Share → List ShareResult → Option ItemOutcome
left_in ss made = find (λ t. is_unapplied t.outcome) (outcomes_in ss made)

module _ (ss : List Share) (made : List ShareResult) (i : ℕ) (s : Share) (r : ShareResult) (lt : i < length ss) (at : s ≡ get_or ss i s) (within : i < length made) (there : r ≡ get_or made i r)
    (xs : List BasisItem) (os : List Outcome) (o : Option ItemOutcome) (items_are : xs ≡ s.items) (outcomes_are : os ≡ r.outcomes) (left : left_of xs os ≡ o) where
  left-share : left_of s.items r.outcomes ≡ o
  left-share = ap (left_of s.items) (sym outcomes_are) ∙ ap (λ xs. left_of xs os) (sym items_are) ∙ left

  left-then : left_in (drop i ss) (drop i made) ≡ first_some o (left_in (drop (i + 1) ss) (drop (i + 1) made))
  left-then =
      ap (λ ss. left_in ss (drop i made)) (here ss i s lt at) ∙ ap (left_in (s ∷ drop (i + 1) ss)) (here made i r within there)
      ∙ find-first (item_outcomes s.items r.outcomes) (outcomes_in (drop (i + 1) ss) (drop (i + 1) made)) ∙ ap (λ o. first_some o (left_in (drop (i + 1) ss) (drop (i + 1) made))) left-share

  pub left-found : (t : ItemOutcome) → o ≡ Some t → left_in (drop i ss) (drop i made) ≡ left_in ss made → Some t ≡ left_in ss made
  left-found t is same = sym (ap (λ o. first_some o (left_in (drop (i + 1) ss) (drop (i + 1) made))) is) ∙ sym left-then ∙ same

  pub left-passed : o ≡ None → left_in (drop i ss) (drop i made) ≡ left_in ss made → left_in (drop (i + 1) ss) (drop (i + 1) made) ≡ left_in ss made
  left-passed is same = sym (ap (λ o. first_some o (left_in (drop (i + 1) ss) (drop (i + 1) made))) is) ∙ sym left-then ∙ same

-- ---- results

pub left-read : (ss now : List Share) (made there : List ShareResult) → now ≡ ss → there ≡ made → left_in now there ≡ left_in ss made
left-read ss now made there e k = ap (λ ss. left_in ss there) e ∙ ap (left_in ss) k

pub outcomes-made : (rules : Rules) (keep : Bool) (ss : List Share) → outcomes_in ss (map (share_result rules keep) ss) ≡ flat_map (share_outcomes rules keep) ss
outcomes-made rules keep [] = refl
outcomes-made rules keep (s ∷ ss) = ap (λ ts. share_outcomes rules keep s ++ ts) (outcomes-made rules keep ss)

pub entries-made : (rules : Rules) (keep : Bool) (ss : List Share) → entries_in ss (map (share_result rules keep) ss) ≡ entries_after rules keep ss
entries-made rules keep [] = refl
entries-made rules keep (s ∷ ss) = ap (λ es. share_entries rules keep s ++ es) (entries-made rules keep ss)

-- ---- entries

length-rows : (rules : Rules) (names : List Name) (xs : List BasisItem) (os : List Outcome) (rows : List Row) → length (rows_after rules names xs os rows) ≡ length rows
length-rows rules names [] os rows = refl
length-rows rules names (x ∷ xs) [] rows = refl
length-rows rules names (x ∷ xs) (Outcome.Applied ∷ os) rows = length-rows rules names xs os _ ∙ length-set rows _ _
length-rows rules names (x ∷ xs) (Outcome.Parked why ∷ os) rows = length-rows rules names xs os rows
length-rows rules names (x ∷ xs) (Outcome.Dropped why ∷ os) rows = length-rows rules names xs os rows

one-row : (rows : List Row) → length rows ≡ 1 → (row : Row) × (rows ≡ row ∷ [])
one-row [] h = absurd (omega arith)
one-row (r ∷ []) h = (r, refl)
one-row (r ∷ s ∷ rs) h = absurd (omega arith)

-- a share with one member has one row
single-row : (rules : Rules) (keep : Bool) (s : Share) → IsSingle s → HasOneRow (share_result rules keep s)
single-row rules keep s h =
    one-row (share_result rules keep s).rows (length-rows rules (member_names s.members) s.items (outcomes rules keep s) (member_rows s.members) ∙ ap (λ ms. length (member_rows ms)) h.1)

pub single-rows : (rules : Rules) (keep : Bool) (ss : List Share) → AllByRecursion IsSingle ss → AllByRecursion HasOneRow (map (share_result rules keep) ss)
single-rows rules keep [] h = tt
single-rows rules keep (s ∷ ss) h = (single-row rules keep s h.0, single-rows rules keep ss h.1)
