-- What becomes of each item of a share, and of its members' rows.
use Rattle.std.specs.Prelude.{ℕ, Bool, true, false, List, [], ◌∷◌, map, Result, Ok, Err, slice_get, slice_set}
use Rattle.std.specs.Option.{unwrap_or}
use Rattle.ax_values.specs.Grammar.{Name}
use Rattle.ax_values.specs.Words.{same_name, place_where}
use Rattle.ax_rules.specs.Expr.{Row}
use Rattle.ax_rules.specs.Rules.{Rules, applied, row_or}
use Rattle.ax_rules.specs.declared.cause.Cause.{Cause}
use Rattle.ax_rules.specs.declared.why.Why.{Why}
use Rattle.ax_basis.specs.Basis.{Share, Basis, member_names, member_rows}
use Rattle.ax_basis.specs.declared.item.BasisItem.{BasisItem}
use Rattle.ax_basis.specs.declared.outcome.Outcome.{Outcome}
use Rattle.ax_basis.specs.declared.outcome.ShareResult.{ShareResult}

-- ---- rows of several aggregates, in the places of their names

abbrev pub name_place : Name → List Name → ℕ
name_place a names = place_where (λ n. same_name n a) names

-- the row at a place
abbrev pub row_in_place : ℕ → List Row → Row
row_in_place place rows = unwrap_or (slice_get rows place) []

-- the row of an aggregate among those of the names
abbrev pub row_among : List Name → Name → List Row → Row
row_among names a rows = row_in_place (name_place a names) rows

abbrev pub put_row_among : List Name → Name → Row → List Row → List Row
put_row_among names a row rows = slice_set rows (name_place a names) row

-- ---- outcomes

-- the row after an item, or why it fails
abbrev pub tried : Bool → Result Row Cause → Result Row Why
tried true r = Err Why.Marked
tried false (Ok row) = Ok row
tried false (Err c) = Err (Why.Failed c)

-- the outcome of an item that fails
abbrev pub failed : Bool → Why → Outcome
failed true why = Outcome.Parked why
failed false why = Outcome.Dropped why

-- the outcome of an item of the aggregate a, and those of the later ones
abbrev pub outcomes_after : Bool → List Name → Name → List Row → List BasisItem → (List Row → List Outcome) → Result Row Why → List Outcome
outcomes_after keep names a rows later rest (Ok next) = Outcome.Applied ∷ rest (put_row_among names a next rows)
outcomes_after true names a rows later rest (Err why) = Outcome.Parked why ∷ map (λ x. Outcome.Parked Why.Behind) later
outcomes_after false names a rows later rest (Err why) = Outcome.Dropped why ∷ rest rows

-- Each item is tried on the row of its aggregate. Under keep a failed item is parked and each later one behind it; else it is dropped and the row stays.
abbrev pub outcomes_from : Rules → Bool → List Name → List BasisItem → List Row → List Outcome
outcomes_from rules keep names [] rows = []
outcomes_from rules keep names (x ∷ xs) rows =
    outcomes_after keep names x.item.name.aggregate rows xs (λ next. outcomes_from rules keep names xs next) (tried x.marked (applied rules (row_among names x.item.name.aggregate rows) x.item))

-- the rows after the applied items
abbrev pub rows_after : Rules → List Name → List BasisItem → List Outcome → List Row → List Row
rows_after rules names [] os rows = rows
rows_after rules names (x ∷ xs) [] rows = rows
rows_after rules names (x ∷ xs) (Outcome.Applied ∷ os) rows =
    rows_after rules names xs os (put_row_among names x.item.name.aggregate (row_or (row_among names x.item.name.aggregate rows) (applied rules (row_among names x.item.name.aggregate rows) x.item)) rows)
rows_after rules names (x ∷ xs) (Outcome.Parked why ∷ os) rows = rows_after rules names xs os rows
rows_after rules names (x ∷ xs) (Outcome.Dropped why ∷ os) rows = rows_after rules names xs os rows

-- each item is parked behind another
abbrev pub all_behind : List BasisItem → List Outcome
all_behind xs = map (λ x. Outcome.Parked Why.Behind) xs

-- the outcomes of items that stand behind a parked one, or else are tried
abbrev pub outcomes_of : Rules → Bool → List Name → Bool → List BasisItem → List Row → List Outcome
outcomes_of rules keep names true items rows = all_behind items
outcomes_of rules keep names false items rows = outcomes_from rules keep names items rows

-- the outcomes of a share's items, in order, from its members' rows; where the share is parked, each is parked behind it
abbrev pub outcomes : Rules → Bool → Share → List Outcome
outcomes rules keep s = outcomes_of rules keep (member_names s.members) s.parked s.items (member_rows s.members)

-- what is made of a share: the outcomes, and its members' rows after the applied items
abbrev pub share_result : Rules → Bool → Share → ShareResult
share_result rules keep s = record { outcomes = outcomes rules keep s; rows = rows_after rules (member_names s.members) s.items (outcomes rules keep s) (member_rows s.members) }

-- what is made of each share of a basis
abbrev pub results_of : Rules → Basis → List ShareResult
results_of rules b = map (share_result rules b.keep) b.shares
