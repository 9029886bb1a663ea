-- How many members and items there are.
use Rattle.std.proofs.Common.{◌≡◌, ◌≢◌, ◌==◌, Bool, true, false, List, [], ◌∷◌, suc, length, sym, refl, ap, ◌∙◌, Some, None}
use Rattle.std.specs.Prelude.{String}
use Rattle.std.specs.declared.alloc.Global.{Global}
use Rattle.serde_json.specs.View.{items_view, members_view}
use Rattle.serde_json.specs.Find.{as_object}
use Rattle.serde_json.specs.Data.{Data}
use Rattle.serde_json.specs.declared.value.Value.{Value}
use Rattle.ax_values.specs.Grammar.{◌>>=◌, when, Line}
use Rattle.ax_sheet_rules.specs.Shape.{remove_of}
use Rattle.ax_sheet_rules.specs.Members.{count, count_of, object_of, only_item, two_items, three_items}

pub counted : (es : List (String Global × Value)) → count (members_view es) ≡ length es
counted [] = refl
counted (e ∷ es) = ap suc (counted es)

pub not_removed : (vs : List Value) → length vs ≢ 0 → None ≡ remove_of (items_view vs)
not_removed [] h = absurd (h refl)
not_removed (v ∷ vs) h = refl

pub not_one : (vs : List Value) → length vs ≢ 1 → None ≡ only_item (items_view vs)
not_one [] h = refl
not_one (v ∷ []) h = absurd (h refl)
not_one (v ∷ w ∷ vs) h = refl

pub no_pair : (vs : List Value) → length vs ≢ 2 → None ≡ two_items (items_view vs)
no_pair [] h = refl
no_pair (v ∷ []) h = refl
no_pair (v ∷ w ∷ []) h = absurd (h refl)
no_pair (v ∷ w ∷ x ∷ vs) h = refl

pub no_triple : (vs : List Value) → length vs ≢ 3 → None ≡ three_items (items_view vs)
no_triple [] h = refl
no_triple (v ∷ []) h = refl
no_triple (v ∷ w ∷ []) h = refl
no_triple (v ∷ w ∷ x ∷ []) h = absurd (h refl)
no_triple (v ∷ w ∷ x ∷ y ∷ vs) h = refl

object_by : (ks : List Line) (d : Data) (es : List (String Global × Value)) (b : Bool) → Some (members_view es) ≡ as_object d → (length es == count_of ks d) ≡ b →
    when b d ≡ object_of ks d
object_by ks d es b o e =
    ap (λ b. when b d) (sym e)
    ∙ ap (λ n. when (n == count_of ks d) d) (sym (counted es))
    ∙ ap (λ ms. ms >>= λ ms. when (count ms == count_of ks d) d) o

-- an object of as many members as there are of these names
pub found : (ks : List Line) (d : Data) (es : List (String Global × Value)) → Some (members_view es) ≡ as_object d → (length es == count_of ks d) ≡ true → Some d ≡ object_of ks d
found ks d es o e = object_by ks d es true o e

pub other : (ks : List Line) (d : Data) (es : List (String Global × Value)) → Some (members_view es) ≡ as_object d → (length es == count_of ks d) ≡ false → None ≡ object_of ks d
other ks d es o e = object_by ks d es false o e
