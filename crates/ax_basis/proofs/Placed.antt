-- Where a member stands among those that rise by identifier.
use Rattle.std.proofs.Common.{◌≡◌, ◌<◌, ◌≤◌, ℕ, zero, suc, true, false, List, [], ◌∷◌, length, get_or, refl, sym, ap, ◌∙◌, arith}
use Rattle.std.specs.Prelude.{if◌then◌else◌}
use Rattle.std.specs.List.Sorted.{IsNonDecreasingBy, IsPartitionPoint}
use Rattle.std.specs.declared.cmp.Ordering.{Ordering}
use Rattle.std.specs.declared.cmp.Ordering.TheVariants.{Less, Equal, Greater}
use Rattle.std.specs.Ordering.{is_eq, ordering_index}
use Rattle.std.specs.Cmp.{IsTotalOrder, on_total, alike_right}
use Rattle.std.proofs.lemmas.Cmp.{nat_list_cmp_total}
use Rattle.std.proofs.lemmas.Map.Text.{is_eq-slice_cmp}
use Rattle.ax_values.specs.Grammar.{Name}
use Rattle.ax_values.specs.Words.{same_name, name_cmp, rises}
use Rattle.ax_values.proofs.Rising.{rises-first, rises-rest, rises-nondecreasing}
use Rattle.ax_laws.proofs.Tests.{or-no}
use Rattle.ax_basis.specs.Basis.{is_member, member_below, member_names}
use Rattle.ax_basis.specs.Outcomes.{name_place}
use Rattle.ax_basis.specs.declared.item.Member.{Member}

same-by : (a b : Name) (o : Ordering) → name_cmp a b ≡ o → same_name a b ≡ is_eq o
same-by a b o e = sym (is_eq-slice_cmp a b) ∙ ap is_eq e

abbrev by_name : Member → Member → Ordering
by_name m n = name_cmp m.aggregate n.aggregate

by_name_total : IsTotalOrder by_name
by_name_total = on_total (λ (m : Member). m.aggregate) nat_list_cmp_total

abbrev pub Rising : List Member → Type 0
Rising ms = rises member_below ms ≡ true

-- ---- a member that is found

pub place-found : (a : Name) (ms : List Member) (i : ℕ) (d : Member) → Rising ms → i < length ms → name_cmp (get_or ms i d).aggregate a ≡ Equal → i ≡ name_place a (member_names ms)
place-found a [] i d h lt e = absurd (omega arith)
place-found a (m ∷ ms) zero d h lt e = sym (ap (λ b. if b then 0 else suc (name_place a (member_names ms))) (same-by m.aggregate a Equal e))
place-found a (m ∷ ms) (suc i) d h lt e =
    let below : name_cmp m.aggregate a ≡ Less =
    sym (alike_right nat_list_cmp_total (get_or ms i d).aggregate a m.aggregate e) ∙ rises-first by_name by_name_total m ms h i d (omega arith) in
    ap suc (place-found a ms i d (rises-rest by_name by_name_total m ms h) (omega arith) e)
    ∙ sym (ap (λ b. if b then 0 else suc (name_place a (member_names ms))) (same-by m.aggregate a Less below))

-- ---- none that is

abbrev pub Parts : Name → List Member → ℕ → Type 0
Parts a ms i = IsPartitionPoint (λ m. name_cmp m.aggregate a ≡ Less) (λ m. name_cmp m.aggregate a ≡ Greater) ms i

none-by : (a : Name) (ms : List Member) (i : ℕ) → i ≤ length ms → Parts a ms i → is_member ms a ≡ false
none-by a [] i le p = refl
none-by a (m ∷ ms) zero le p =
    or-no (same_name m.aggregate a) (is_member ms a) (same-by m.aggregate a Greater (p.1 0 m (omega arith) (omega arith)))
    (none-by a ms 0 (omega arith) (λ k d low high. absurd (omega arith), λ k d low high. p.1 (suc k) d (omega arith) (omega arith)))
none-by a (m ∷ ms) (suc i) le p =
    or-no (same_name m.aggregate a) (is_member ms a) (same-by m.aggregate a Less (p.0 0 m (omega arith) (omega arith)))
    (none-by a ms i (omega arith) (λ k d low high. p.0 (suc k) d (omega arith) (omega arith), λ k d low high. p.1 (suc k) d (omega arith) (omega arith)))

abbrev pub named : Name → Member
named a = record { aggregate = a; seen = record { position = 0; parked = false; marks = [] }; row = [] }

pub none-found : (a : Name) (ms : List Member) (i : ℕ) → Rising ms → i ≤ length ms → (IsNonDecreasingBy (λ m. ordering_index (name_cmp m.aggregate a)) ms → Parts a ms i) → is_member ms a ≡ false
none-found a ms i h le p = none-by a ms i le (p (rises-nondecreasing by_name by_name_total (named a) ms h))
