-- The test of a chain is true exactly where no record gives too many items.
use Rattle.std.proofs.Common.{◌≡◌, ℕ, zero, suc, ◌≤◌, ◌==◌, Bool, true, false, ◌||◌, cond, List, [], ◌∷◌, ◌++◌, length, take, map, nat_le, refl, sym, ap, ◌∙◌, arith}
use Rattle.std.specs.List.{flat_map, list_any, list_all}
use Rattle.std.proofs.lemmas.List.{map-append, length-map}
use Rattle.std.proofs.lemmas.Bool.Decides.{nat_tests}
use Rattle.std.proofs.lemmas.Slice.Eq.{bytes_eq-Decides}
use Rattle.ax_values.specs.Words.{same_name}
use Rattle.ax_laws.proofs.Tests.{both, and-true, neither}
use Rattle.ax_upcast.specs.declared.event.Event.{Event}
use Rattle.ax_upcast.specs.declared.event.Template.{Template}
use Rattle.ax_upcast.specs.declared.upcaster.Act.{Act}
use Rattle.ax_upcast.specs.declared.upcaster.Upcaster.{Upcaster}
use Rattle.ax_upcast.specs.Upcast.{takes, acted, replaced, chained, event_of_template, most_items, KeepsLimit, Form, form_of_template, forms_by, reformed, stays_few, first_form, keeps_limit}

-- ---- forms

abbrev form : Event → Form
form e = record { kind = e.kind; revision = e.revision }

forms-parts : (p : List Template) (e : Event) → map form (map (event_of_template e.payload) p) ≡ map form_of_template p
forms-parts [] e = refl
forms-parts (t ∷ ts) e = ap (λ fs. form_of_template t ∷ fs) (forms-parts ts e)

forms-acted : (a : Act) (e : Event) → map form (acted a e) ≡ forms_by a (form e)
forms-acted (Act.Rename old new r) e = refl
forms-acted (Act.Default name value r) e = refl
forms-acted (Act.Retype kind r) e = refl
forms-acted (Act.Split parts) e = forms-parts parts e
forms-acted Act.Remove e = refl

forms-replaced : (u : Upcaster) (e : Event) → map form (replaced u e) ≡ reformed u (form e)
forms-replaced u e =
    elim (takes u e.kind e.revision) as (λ b. map form (cond b (acted u.act e) (e ∷ [])) ≡ cond b (forms_by u.act (form e)) (form e ∷ []))
    [ true ↦ forms-acted u.act e | false ↦ refl ]

forms-flat_map : (u : Upcaster) (es : List Event) → map form (flat_map (replaced u) es) ≡ flat_map (reformed u) (map form es)
forms-flat_map u [] = refl
forms-flat_map u (e ∷ es) =
    map-append form (replaced u e) (flat_map (replaced u) es)
    ∙ ap (λ fs. fs ++ map form (flat_map (replaced u) es)) (forms-replaced u e)
    ∙ ap (λ fs. reformed u (form e) ++ fs) (forms-flat_map u es)

length-flat_map : (u : Upcaster) (es : List Event) → length (flat_map (reformed u) (map form es)) ≡ length (flat_map (replaced u) es)
length-flat_map u es = sym (ap length (forms-flat_map u es)) ∙ length-map (flat_map (replaced u) es) form

-- ---- from the test

from_stays : (us : List Upcaster) (k : ℕ) (es : List Event) → stays_few us (map form es) ≡ true → length es ≤ most_items → length (chained (take k us) es) ≤ most_items
from_stays [] zero es h b = b
from_stays [] (suc k) es h b = b
from_stays (u ∷ us) zero es h b = b
from_stays (u ∷ us) (suc k) es h b =
    let p = both (nat_le (length (flat_map (reformed u) (map form es))) most_items) (stays_few us (flat_map (reformed u) (map form es))) h in
    let few : length (flat_map (replaced u) es) ≤ most_items = grind (arith, nat_tests, length-flat_map u es, p.0) in
    let later : stays_few us (map form (flat_map (replaced u) es)) ≡ true = ap (stays_few us) (forms-flat_map u es) ∙ p.1 in
    from_stays us k (flat_map (replaced u) es) later few

-- an event that no rule is for stays
untouched : (us : List Upcaster) (k : ℕ) (e : Event) → list_any (λ u. takes u e.kind e.revision) us ≡ false → chained (take k us) (e ∷ []) ≡ e ∷ []
untouched [] zero e h = refl
untouched [] (suc k) e h = refl
untouched (u ∷ us) zero e h = refl
untouched (u ∷ us) (suc k) e h =
    let p = neither (takes u e.kind e.revision) (list_any (λ u. takes u e.kind e.revision) us) h in
    ap (λ b. chained (take k us) (cond b (acted u.act e) (e ∷ []) ++ [])) p.0 ∙ untouched us k e p.1

found : {G : Type 0} (p q : Upcaster → Bool) (us : List Upcaster) → list_all p us ≡ true → list_any q us ≡ true → ((u : Upcaster) → p u ≡ true → q u ≡ true → G) → G
found p q [] all any k = cc
found {G} p q (u ∷ us) all any k =
    let a = both (p u) (list_all p us) all in
    at (q u) refl a.0 (λ h. found p q us a.1 h k)
  where
    at : (b : Bool) → q u ≡ b → p u ≡ true → (list_any q us ≡ true → G) → G
    at true e h later = k u h e
    at false e h later = later (sym (ap (λ b. b || list_any q us) e) ∙ any)

same_form : (u : Upcaster) (e : Event) → takes u e.kind e.revision ≡ true → first_form u ≡ form e
same_form u e h =
    let p = both (same_name u.kind e.kind) (u.revision == e.revision) h in
    let kind : u.kind ≡ e.kind = (bytes_eq-Decides u.kind e.kind).0 p.0 in
    let revision : u.revision ≡ e.revision = grind (arith, nat_tests, p.1) in
    cc

at_rule : (us : List Upcaster) (e : Event) (k : ℕ) (u : Upcaster) → stays_few us (first_form u ∷ []) ≡ true → takes u e.kind e.revision ≡ true → length (chained (take k us) (e ∷ [])) ≤ most_items
at_rule us e k u h t = from_stays us k (e ∷ []) (ap (λ f. stays_few us (f ∷ [])) (sym (same_form u e t)) ∙ h) (omega arith)

pub few-from_test : (us : List Upcaster) → keeps_limit us ≡ true → KeepsLimit us
few-from_test us h e k = by (list_any (λ u. takes u e.kind e.revision) us) refl
  where
    by : (b : Bool) → list_any (λ u. takes u e.kind e.revision) us ≡ b → length (chained (take k us) (e ∷ [])) ≤ most_items
    by true any = found (λ u. stays_few us (first_form u ∷ [])) (λ u. takes u e.kind e.revision) us h any (at_rule us e k)
    by false none = omega (arith, ap length (untouched us k e none))

-- ---- to the test

to_stays : (us : List Upcaster) (es : List Event) → ((k : ℕ) → length (chained (take k us) es) ≤ most_items) → stays_few us (map form es) ≡ true
to_stays [] es h = refl
to_stays (u ∷ us) es h =
    let one = h 1 in
    let few : nat_le (length (flat_map (reformed u) (map form es))) most_items ≡ true = grind (arith, nat_tests, length-flat_map u es, one) in
    let later : stays_few us (map form (flat_map (replaced u) es)) ≡ true = to_stays us (flat_map (replaced u) es) (λ k. h (suc k)) in
    and-true (nat_le (length (flat_map (reformed u) (map form es))) most_items) (stays_few us (flat_map (reformed u) (map form es))) few (sym (ap (stays_few us) (forms-flat_map u es)) ∙ later)

all : (p : Upcaster → Bool) (us : List Upcaster) → ((u : Upcaster) → p u ≡ true) → list_all p us ≡ true
all p [] h = refl
all p (u ∷ us) h = and-true (p u) (list_all p us) (h u) (all p us h)

first_event : Upcaster → Event
first_event u = record { kind = u.kind; revision = u.revision; payload = [] }

pub test-from_few : (us : List Upcaster) → KeepsLimit us → keeps_limit us ≡ true
unfolding first_event
test-from_few us h = all (λ u. stays_few us (first_form u ∷ [])) us (λ u. to_stays us (first_event u ∷ []) (h (first_event u)))

pub exact : (us : List Upcaster) (b : Bool) → b ≡ keeps_limit us → (b ≡ true → KeepsLimit us) × (KeepsLimit us → b ≡ true)
exact us b e = (λ h. few-from_test us (sym e ∙ h), λ few. e ∙ test-from_few us few)
