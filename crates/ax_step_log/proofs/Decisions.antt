-- What a declared command decides: 1 to 8 events, each with at most 16 fields.
use Rattle.std.specs.Prelude.{◌≡◌, ℕ, suc, ◌+◌, ◌<◌, ◌≤◌, ◌^◌, Bool, true, false, ◌&&◌, List, [], ◌∷◌, map, fold, length, find, Option, Some, None, option_map, nat_le, nat_lt, if◌then◌else◌}
use Rattle.std.specs.List.{list_all}
use Rattle.std.specs.Ordering.{match_ordering}
use Rattle.std.specs.declared.cmp.Ordering.TheVariants.{Less, Equal, Greater}
use Rattle.std.proofs.Common.{refl, sym, subst, arith}
use Rattle.std.proofs.lemmas.List.{length-map}
use Rattle.std.proofs.lemmas.Bool.Decides.{nat_tests}
use Rattle.ax_values.specs.Grammar.{Name}
use Rattle.ax_values.specs.Words.{Payload, field_cmp, put_rising, same_name}
use Rattle.ax_laws.proofs.Tests.{both, and-true}
use Rattle.ax_rules.specs.Expr.{Row}
use Rattle.ax_rules.specs.Guards.{guard_fits}
use Rattle.ax_upcast.specs.Upcast.{put_found, put_given, given_value, event_of_template}
use Rattle.ax_sheet.specs.Sheet.{Sheet, command_named, command_fits, are_parts, fits_record, first_failing, NamedCommand}
use Rattle.ax_sheet.specs.Commands.{Command}
use Rattle.ax_sheet.specs.Decision.{decided_by, decision}
use Rattle.ax_log.specs.Order.{max_fields}
use Rattle.ax_state.specs.WellFormed.{AreCommands}
use Rattle.ax_step_log.specs.SendParts.{few_fields, EventsFit, DecidedFits}
use Rattle.ax_values.specs.declared.value.Field.{Field}
use Rattle.ax_values.specs.declared.value.Value.{Value}
use Rattle.ax_upcast.specs.declared.event.Event.{Event}
use Rattle.ax_upcast.specs.declared.event.Template.{Template}
use Rattle.ax_upcast.specs.declared.event.GivenField.{GivenField}
use Rattle.ax_sheet.specs.declared.decision.Decided.{Decided}

-- ---- the fields of an event

length-put : (f : Field) (fs : Payload) → length (put_rising field_cmp f fs) ≤ suc (length fs)
length-put f [] = omega arith
length-put f (g ∷ gs) =
    let ih : length (put_rising field_cmp f gs) ≤ suc (length gs) = length-put f gs in
    elim (field_cmp f g) as (λ o. length (match_ordering o (f ∷ g ∷ gs) (f ∷ gs) (g ∷ put_rising field_cmp f gs)) ≤ suc (suc (length gs)))
    [ Less ↦ omega arith | Equal ↦ omega arith | Greater ↦ omega arith ]

length-found : (name : Name) (made : Payload) (o : Option Value) → length (put_found name made o) ≤ suc (length made)
length-found name made None = omega arith
length-found name made (Some v) = length-put (record { name = name; value = v }) made

length-filled : (source made : Payload) (gs : List GivenField) → length (fold (put_given source) made gs) ≤ length made + length gs
length-filled source made [] = omega arith
length-filled source made (g ∷ gs) =
    let one : length (put_given source made g) ≤ suc (length made) = length-found g.name made (given_value source g.given) in
    let ih : length (fold (put_given source) (put_given source made g) gs) ≤ length (put_given source made g) + length gs = length-filled source (put_given source made g) gs in omega arith

few-fields : (args : Payload) (t : Template) → fits_record t ≡ true → few_fields (event_of_template args t) ≡ true
few-fields args t h =
    let given : length t.fields ≤ 16 = grind (arith, nat_tests, h) in
    let filled : length (fold (put_given args) [] t.fields) ≤ 0 + length t.fields = length-filled args [] t.fields in
    let le : length (event_of_template args t).payload ≤ max_fields = omega arith in grind (arith, nat_tests)

all-few : (args : Payload) (ts : List Template) → list_all fits_record ts ≡ true → list_all few_fields (map (event_of_template args) ts) ≡ true
all-few args [] h = refl
all-few args (t ∷ ts) h =
    let b = both (fits_record t) (list_all fits_record ts) h in
    and-true (few_fields (event_of_template args t)) (list_all few_fields (map (event_of_template args) ts)) (few-fields args t b.0) (all-few args ts b.1)

-- ---- the events of a command

made-fit : (n : ℕ) (c : Command) (args : Payload) → command_fits n c ≡ true → EventsFit (map (event_of_template args) c.events)
made-fit n c args h =
    let guards = both (nat_lt (length c.guards) (2 ^ 32)) (list_all (guard_fits n) c.guards && (are_parts c.events && list_all fits_record c.events)) h in
    let events = both (list_all (guard_fits n) c.guards) (are_parts c.events && list_all fits_record c.events) guards.1 in
    let parts = both (are_parts c.events) (list_all fits_record c.events) events.1 in
    let counts = both (nat_lt 0 (length c.events)) (nat_le (length c.events) 8) parts.0 in
    let low : 0 < length c.events = grind (arith, nat_tests, counts.0) in
    let high : length c.events ≤ 8 = grind (arith, nat_tests, counts.1) in
    let same : length (map (event_of_template args) c.events) ≡ length c.events = length-map c.events (event_of_template args) in
    record { some = omega arith; few = omega arith; fields = all-few args c.events parts.1 }

pub decision-fits : (n : ℕ) (c : Command) (args : Payload) (row : Row) (es : List Event) → command_fits n c ≡ true → decision c args row ≡ Decided.Events es → EventsFit es
decision-fits n c args row es h e = at (first_failing 0 c.guards row args) e
  where
    at : (o : Option ℕ) → decided_by o (map (event_of_template args) c.events) ≡ Decided.Events es → EventsFit es
    at (Some g) e = absurd (cc)
    at None e = let is : map (event_of_template args) c.events ≡ es = cc in subst EventsFit is (made-fit n c args h)

-- ---- a command of a sheet

found-fits : (n : ℕ) (name : Name) (c : Command) (cs : List NamedCommand) → list_all (λ x. command_fits n x.command) cs ≡ true → option_map (λ x. x.command) (find (λ x. same_name x.name name) cs) ≡ Some c
    → command_fits n c ≡ true
found-fits n name c [] h e = absurd (cc)
found-fits n name c (x ∷ xs) h e = at (same_name x.name name) e (λ k. found-fits n name c xs all.1 k)
  where
    all : (command_fits n x.command ≡ true) × (list_all (λ y. command_fits n y.command) xs ≡ true)
    all = both (command_fits n x.command) (list_all (λ y. command_fits n y.command) xs) h

    at : (t : Bool) → option_map (λ y. y.command) (if t then Some x else find (λ y. same_name y.name name) xs) ≡ Some c
        → (option_map (λ y. y.command) (find (λ y. same_name y.name name) xs) ≡ Some c → command_fits n c ≡ true) → command_fits n c ≡ true
    at true e again = let is : x.command ≡ c = cc in subst (λ (y : Command). command_fits n y ≡ true) is all.0
    at false e again = again e

pub command-fits : (sheet : Sheet) (name : Name) (c : Command) → AreCommands sheet → command_named sheet name ≡ Some c → command_fits (length sheet.aggregate.fields) c ≡ true
command-fits sheet name c h e = found-fits (length sheet.aggregate.fields) name c sheet.commands h e

pub decided-fits : (n : ℕ) (c : Command) (args : Payload) (row : Row) (d : Decided) → command_fits n c ≡ true → d ≡ decision c args row → DecidedFits d
decided-fits n c args row (Decided.Guard g) h e = tt
decided-fits n c args row (Decided.Events es) h e = decision-fits n c args row es h (sym e)
