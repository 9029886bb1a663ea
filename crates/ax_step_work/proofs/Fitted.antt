-- The rows of a batch have a number for each declared field.
use Rattle.std.proofs.Common.{◌≡◌, ℕ, ◌==◌, true, List, [], ◌∷◌, map, Option, refl, ap, ◌∙◌, arith}
use Rattle.std.proofs.lemmas.Bool.Decides.{nat_tests}
use Rattle.ax_laws.proofs.Tests.{and-true}
use Rattle.ax_values.specs.Grammar.{Name}
use Rattle.ax_log.specs.Log.{events}
use Rattle.ax_rules.specs.Rules.{Rules}
use Rattle.ax_projections.specs.Items.{Placed}
use Rattle.ax_basis.specs.Basis.{Basis, Share, row_fits, members_fit, shares_fit}
use Rattle.ax_state.specs.State.{Batch}
use Rattle.ax_state.specs.Setting.{Setting, projection_at, whole_at}
use Rattle.ax_state.specs.Batches.{IsBasisOf, batch_of, batch_items, known_events, member_of, rising_names, sequence_of, sequence_items, share_of_items, shares_of}
use Rattle.ax_step_work.proofs.Tables.{folded-length}
use Rattle.ax_values.specs.declared.cell.Cell.{Cell}
use Rattle.ax_basis.specs.declared.item.Member.{Member}

module _ (rules : Rules) (member : Name → Member) (fits : (a : Name) → row_fits rules (member a).row ≡ true) where
  members-by : (ns : List Name) → members_fit rules (map member ns) ≡ true
  members-by [] = refl
  members-by (n ∷ ns) = and-true (row_fits rules (member n).row) (members_fit rules (map member ns)) (fits n) (members-by ns)

  shares-by : (whole : Option Name) (b : Batch) (xs : List Placed) (ns : List Name) → shares_fit rules (map (λ s. share_of_items whole b member s (sequence_items whole s xs)) ns) ≡ true
  shares-by whole b xs [] = refl
  shares-by whole b xs (n ∷ ns) =
      and-true (members_fit rules (share_of_items whole b member n (sequence_items whole n xs)).members) (shares_fit rules (map (λ s. share_of_items whole b member s (sequence_items whole s xs)) ns))
      (members-by (rising_names (map (λ x. x.item.name.aggregate) (sequence_items whole n xs)))) (shares-by whole b xs ns)

long-fits : (n m : ℕ) → n ≡ m → (n == m) ≡ true
long-fits n m e = grind (arith, nat_tests, e)

module _ (setting : Setting) (cells : List Cell) (x : Basis) where
  abbrev known : Rules
  known = projection_at setting x.processor

  abbrev whole : Option Name
  whole = whole_at setting x.processor

  abbrev b : Batch
  b = batch_of x

  abbrev xs : List Placed
  xs = batch_items whole setting.sheet.chain b (events cells)

  pub basis-fits : (rules : Rules) (shares : List Share) → IsBasisOf setting cells x → rules ≡ known → shares ≡ x.shares → shares_fit rules shares ≡ true
  basis-fits rules shares tied rules_are shares_are =
      ap (shares_fit rules) (shares_are ∙ tied.shares) ∙ ap (λ rs. shares_fit rs (shares_of whole known setting.sheet.chain b (events cells))) rules_are
      ∙ shares-by known (member_of whole known setting.sheet.chain b (events cells)) (λ a. long-fits _ _ (folded-length known setting.sheet.chain (known_events whole b (events cells)) a))
      whole b xs (rising_names (map (sequence_of whole) xs))
