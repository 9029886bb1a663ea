-- How many members there are after the rules.
use Rattle.std.proofs.Common.{◌≡◌, ℕ, ◌≤◌, false, cond, List, [], ◌∷◌, ◌++◌, length, take, drop, refl, sym, ap, ◌∙◌, arith}
use Rattle.std.specs.List.{flat_map, list_any}
use Rattle.ax_laws.proofs.Tests.{neither}
use Rattle.ax_upcast.specs.declared.event.Event.{Event}
use Rattle.ax_upcast.specs.declared.upcaster.Upcaster.{Upcaster}
use Rattle.ax_upcast.specs.Upcast.{takes, acted, replaced, chained, KeepsLimit, most_items}
use Rattle.std.proofs.Math.ListN.{drop_of_length-le}
use Rattle.std.proofs.Math.Seq.{take-length}

-- a rule that is for no member leaves them as they are
pub flat_map-untouched : (u : Upcaster) (es : List Event) → list_any (λ e. takes u e.kind e.revision) es ≡ false → flat_map (replaced u) es ≡ es
flat_map-untouched u [] h = refl
flat_map-untouched u (e ∷ es) h =
    let p = neither (takes u e.kind e.revision) (list_any (λ e. takes u e.kind e.revision) es) h in
    ap (λ b. cond b (acted u.act e) (e ∷ []) ++ flat_map (replaced u) es) p.0 ∙ ap (λ t. e ∷ t) (flat_map-untouched u es p.1)

-- what all rules leave is few
pub few_at_end : (us : List Upcaster) (e : Event) (i : ℕ) (es : List Event) → KeepsLimit us → length us ≤ i → chained (drop i us) es ≡ chained us (e ∷ []) → length es ≤ most_items
few_at_end us e i es few past same =
    let none : drop i us ≡ [] = drop_of_length-le us past in
    let left : es ≡ chained us (e ∷ []) = ap (λ us. chained us es) (sym none) ∙ same in
    let whole : take (length us) us ≡ us = take-length us in
    let bound = few e (length us) in
    omega (arith, ap length left, ap (λ us. length (chained us (e ∷ []))) whole)
