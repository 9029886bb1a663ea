-- Sets by their fields: each field that is set has its value over the old row, and the others stay as they are.
use Rattle.std.proofs.Common.{◌≡◌, ◌≢◌, ℕ, zero, suc, ◌<◌, Bool, true, false, not, ◌&&◌, List, [], ◌∷◌, length, Result, Ok, Err, refl, sym, ap, ◌∙◌, arith}
use Rattle.std.specs.Prelude.{ℤ, pos, nat_lt, ◌==◌}
use Rattle.std.specs.List.{list_all, list_any, All, slice_index_or, slice_set}
use Rattle.std.proofs.lemmas.List.{get_or-set_same, get_or-set_other, length-set}
use borrow.Author.Tests.{ltb-true, eqb-false}
use Rattle.ax_laws.proofs.Tests.{both, neither, not-true}
use Rattle.ax_values.specs.Words.{Payload}
use Rattle.ax_rules.specs.Expr.{Row, value_of}
use Rattle.ax_rules.specs.Nodes.{expr_of}
use Rattle.ax_rules.specs.Rules.{set_fits, sets_made, and_then}
use Rattle.ax_rules.specs.declared.cause.Cause.{Cause}
use Rattle.ax_rules.specs.declared.rule.Set.{Set}

-- whether a set names the field at the place
abbrev pub names_field : List Set → ℕ → Bool
names_field sets k = list_any (λ s. s.field == k) sets

-- whether no two sets name one field
abbrev pub fields_differ : List Set → Bool
fields_differ [] = true
fields_differ (s ∷ ss) = not (names_field ss s.field) && fields_differ ss

-- the number at a place of a row
abbrev pub number_at : Row → ℕ → ℤ
number_at row k = slice_index_or row k (pos 0)

-- each field that a set names has that set's value over the old row, each other one its number there
pub record SetsFields (sets : List Set) (old : Row) (payload : Payload) (new : Row) : Type 0 where
  pub long : length new ≡ length old
  pub named : All (λ s. value_of (expr_of s.value) old payload ≡ Ok (number_at new s.field)) sets
  pub others : (k : ℕ) → names_field sets k ≡ false → number_at new k ≡ number_at old k

-- a first set that has its value, and the sets after it
first-has : (value : Result ℤ Cause) (next : ℤ → Result Row Cause) (new : Row) → and_then value next ≡ Ok new → (z : ℤ) × (value ≡ Ok z) × (next z ≡ Ok new)
first-has (Ok z) next new h = (z, refl, h)
first-has (Err e) next new h = cc

long-made : (sets : List Set) (old : Row) (payload : Payload) (row new : Row) → sets_made sets old payload row ≡ Ok new → length new ≡ length row
long-made [] old payload row new h = let same : new ≡ row = cc in ap length same
long-made (s ∷ ss) old payload row new h =
    let (z, _, rest) = first-has (value_of (expr_of s.value) old payload) (λ z. sets_made ss old payload (slice_set row s.field z)) new h in
    long-made ss old payload (slice_set row s.field z) new rest ∙ length-set row s.field z

others-stay : (sets : List Set) (old : Row) (payload : Payload) (row new : Row) → sets_made sets old payload row ≡ Ok new → (k : ℕ) → names_field sets k ≡ false → number_at new k ≡ number_at row k
others-stay [] old payload row new h k free = let same : new ≡ row = cc in ap (λ (r : Row). number_at r k) same
others-stay (s ∷ ss) old payload row new h k free =
    let (z, _, rest) = first-has (value_of (expr_of s.value) old payload) (λ z. sets_made ss old payload (slice_set row s.field z)) new h in
    let (other, later) = neither (s.field == k) (names_field ss k) free in
    let apart : k ≢ s.field = λ e. eqb-false s.field k other (sym e) in
    others-stay ss old payload (slice_set row s.field z) new rest k later ∙ get_or-set_other row s.field k z (pos 0) apart

named-set : (sets : List Set) (old : Row) (payload : Payload) (row new : Row) → fields_differ sets ≡ true → list_all (set_fits (length row)) sets ≡ true → sets_made sets old payload row ≡ Ok new
    → (i : ℕ) (d : Set) → i < length sets → value_of (expr_of (slice_index_or sets i d).value) old payload ≡ Ok (number_at new (slice_index_or sets i d).field)
named-set [] old payload row new differ fit h i d lt = absurd (omega (arith, lt))
named-set (s ∷ ss) old payload row new differ fit h zero d lt =
    let (z, value, rest) = first-has (value_of (expr_of s.value) old payload) (λ z. sets_made ss old payload (slice_set row s.field z)) new h in
    let (alone, _) = both (not (names_field ss s.field)) (fields_differ ss) differ in
    let (fits, _) = both (set_fits (length row) s) (list_all (set_fits (length row)) ss) fit in
    let (below, _) = both (nat_lt s.field (length row)) _ fits in
    value
    ∙ ap Ok (sym (others-stay ss old payload (slice_set row s.field z) new rest s.field (not-true (names_field ss s.field) alone) ∙ get_or-set_same row s.field z (pos 0) (ltb-true s.field (length row) below)))
named-set (s ∷ ss) old payload row new differ fit h (suc i) d lt =
    let (z, _, rest) = first-has (value_of (expr_of s.value) old payload) (λ z. sets_made ss old payload (slice_set row s.field z)) new h in
    let (_, apart) = both (not (names_field ss s.field)) (fields_differ ss) differ in
    let (_, fits) = both (set_fits (length row) s) (list_all (set_fits (length row)) ss) fit in
    let long : length (slice_set row s.field z) ≡ length row = length-set row s.field z in
    named-set ss old payload (slice_set row s.field z) new apart (ap (λ n. list_all (set_fits n) ss) long ∙ fits) rest i d (omega (arith, lt))

-- what the sets of a rule make of a row, where no two name one field
pub sets-fields : (sets : List Set) (old : Row) (payload : Payload) (new : Row) → fields_differ sets ≡ true → list_all (set_fits (length old)) sets ≡ true → sets_made sets old payload old ≡ Ok new → SetsFields sets old payload new
sets-fields sets old payload new differ fit h = record {
  long = long-made sets old payload old new h;
  named = named-set sets old payload old new differ fit h;
  others = others-stay sets old payload old new h;
}
