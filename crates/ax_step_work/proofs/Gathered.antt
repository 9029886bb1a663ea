-- The loops of a fetch: one cell more, one item more, one share that grows.
use Rattle.std.proofs.Common.{◌≡◌, ℕ, true, List, [], ◌∷◌, ◌++◌, map, filter, flat_map, get_or, slice_set, None, Result, Ok, Err, sym, ap, ◌∙◌, subst}
use Rattle.std.specs.Prelude.{insert, OnOk}
use Rattle.std.proofs.lemmas.List.{map-append}
use Rattle.std.proofs.lemmas.Grind.{flat_map-append}
use Rattle.std.proofs.lemmas.Option.{get_or_from_slice_get}
use Rattle.ax_laws.proofs.Tests.{or-false}
use Rattle.ax_values.specs.Grammar.{Name}
use Rattle.ax_values.specs.Words.{same_name}
use Rattle.ax_log.specs.Log.{Stored}
use Rattle.ax_projections.specs.Items.{placed_items}
use Rattle.ax_projections.proofs.NameLaws.{name-refl}
use Rattle.ax_basis.specs.Basis.{Share, is_of_member}
use Rattle.ax_state.specs.State.{Batch}
use Rattle.ax_state.specs.Batches.{basis_item}
use Rattle.ax_step_work.specs.Sharing.{single, single_shares, HasShare, LacksShare}
use Rattle.ax_step_work.proofs.Singles.{single-got, found-next, lacks-next}
use Rattle.ax_basis.specs.declared.item.BasisItem.{BasisItem}
use Rattle.ax_basis.specs.declared.item.Member.{Member}
use Rattle.ax_upcast.specs.declared.upcaster.Upcaster.{Upcaster}

pub on-ok-then : {T E P Q : Type 0} (r : Result T E) → OnOk r P → (P → Q) → OnOk r Q
on-ok-then (Ok x) h f = f h
on-ok-then (Err e) h f = tt

-- ---- the items of one event more

module _ (chain : List Upcaster) (b : Batch) where
  abbrev pub items_of_events : List Stored → List BasisItem
  items_of_events es = map (basis_item None b) (flat_map (placed_items chain) es)

  pub items-more : (es new : List Stored) → items_of_events (es ++ new) ≡ items_of_events es ++ items_of_events new
  items-more es new = ap (map (basis_item None b)) (flat_map-append (placed_items chain) es new) ∙ map-append (basis_item None b) (flat_map (placed_items chain) es) (flat_map (placed_items chain) new)

-- ---- an item that comes to its share

-- what is read at a place is what stands there
pub share-read : (a : Name) (ss : List Share) (i : ℕ) (h : HasShare a ss i) (s : Share) → s ≡ get_or ss i s → s ≡ h.share
share-read a ss i h s e = e ∙ get_or_from_slice_get ss i h.share s h.here

module _ (member : Name → Member) (named : (a : Name) → (member a).aggregate ≡ a) (x : BasisItem) (i : ℕ) where
  -- the share has the item's aggregate as its member
  pub member-here : (done : List BasisItem) (ss : List Share) → ss ≡ single_shares member done → (h : HasShare x.item.name.aggregate ss i) (s : Share) → s ≡ h.share → is_of_member s.members x ≡ true
  member-here done ss e = subst (λ ss. (h : HasShare x.item.name.aggregate ss i) (s : Share) → s ≡ h.share → is_of_member s.members x ≡ true) (sym e)
      (λ h s is. ap (λ (s : Share). is_of_member s.members x) (is ∙ single-got member done i h.share h.here ∙ ap (λ a. single member a (filter (λ y. same_name y.item.name.aggregate a) done)) h.named)
      ∙ or-false (same_name (member x.item.name.aggregate).aggregate x.item.name.aggregate) ∙ ap (λ a. same_name a x.item.name.aggregate) (named x.item.name.aggregate) ∙ name-refl x.item.name.aggregate)

  pub found-step : (ss : List Share) (h : HasShare x.item.name.aggregate ss i) (s new : Share) → s ≡ h.share → new ≡ record s { items = s.items ++ x ∷ [] }
      → (done : List BasisItem) → ss ≡ single_shares member done → slice_set ss i new ≡ single_shares member (done ++ x ∷ [])
  found-step ss h s new is made done e =
      subst (λ ss. (h : HasShare x.item.name.aggregate ss i) (s new : Share) → s ≡ h.share → new ≡ record s { items = s.items ++ x ∷ [] } → slice_set ss i new ≡ single_shares member (done ++ x ∷ [])) (sym e)
      (λ h s new is made. ap (slice_set (single_shares member done) i) (made ∙ ap (λ (t : Share). record t { items = t.items ++ x ∷ [] }) is) ∙ found-next member done x i h) h s new is made

  pub lacks-step : (ss : List Share) → LacksShare x.item.name.aggregate ss i → (new : Share) → new ≡ single member x.item.name.aggregate (x ∷ [])
      → (done : List BasisItem) → ss ≡ single_shares member done → insert ss i new ≡ single_shares member (done ++ x ∷ [])
  lacks-step ss h new made done e =
      subst (λ ss. LacksShare x.item.name.aggregate ss i → insert ss i new ≡ single_shares member (done ++ x ∷ [])) (sym e)
      (λ h. ap (insert (single_shares member done) i) made ∙ lacks-next member done x i h) h
