-- What is read of the members of an object rises by name.
use Rattle.std.specs.Prelude.{◌≡◌, Bool, true, ◌&&◌, List, [], ◌∷◌, Option, Some, map, refl, codes}
use Rattle.std.proofs.Common.{sym, ap, ◌∙◌}
use Rattle.serde_json.specs.Data.{Data, Members, no_members, member}
use Rattle.serde_json.specs.Find.{as_object}
use Rattle.ax_laws.proofs.Options.{some-is}
use Rattle.ax_laws.proofs.Tests.{both, and-true}
use Rattle.ax_values.specs.Grammar.{Name, Line, name_in}
use Rattle.ax_values.proofs.Options.{then-some, map-some}
use Rattle.ax_sheet_parts.specs.Sheet.{Sheet, name_below, names_rise}
use Rattle.ax_sheet_parts.specs.declared.parts.NamedCommand.{NamedCommand}
use Rattle.ax_sheet_parts.specs.declared.parts.NamedRules.{NamedRules}
use Rattle.ax_sheet_parts.specs.declared.parts.NamedSaga.{NamedSaga}
use Rattle.ax_sheet_rules.specs.Members.{each_member, named_of, wanted}
use Rattle.ax_sheet_rules.specs.Shape.{command_of, projection_of, saga_of, sheet_keys, sheet_of, json_in, sheet_in, IsSheet}
use Rattle.ax_sheet_reading.proofs.Apart.{SheetParts, sheet_parts}
use Rattle.ax_sheet.proofs.Proper.{leads, proper, members_proper}
use Rattle.ax_sheet.proofs.Same.{object_is, name_is}
use Rattle.ax_sheet.proofs.Objects.{opened, wanted_read}
use Rattle.ax_sheet.proofs.Again.{command_known}
use Rattle.ax_sheet.proofs.AgainSheet.{sheet_proper, projection_named, saga_named}

-- a name is below the first of a list
abbrev led : Name → List Name → Bool
led k [] = true
led k (n ∷ ns) = name_below k n

rise-more : (n : Name) (ns : List Name) → names_rise (n ∷ ns) ≡ (led n ns && names_rise ns)
rise-more n [] = refl
rise-more n (m ∷ ns) = refl

led_same : {A : Type 0} (one : Name → Data → Option A) (name : A → Name) → ((n : Name) (d : Data) (x : A) → one n d ≡ Some x → name x ≡ n) → (k : Name) (ms : Members) (xs : List A) →
    each_member one ms ≡ Some xs → led k (map name xs) ≡ leads k ms
led_same one name named k no_members xs h = ap (λ xs. led k (map name xs)) (sym (some-is [] xs h))
led_same one name named k (member l d ms) xs h =
    let n = then-some (name_in l) _ xs h in
    let x = then-some (one n.from d) _ xs n.gives in
    let ys = map-some (each_member one ms) _ xs x.gives in
    ap (λ xs. led k (map name xs)) (sym ys.gives) ∙ ap (name_below k) (named n.from d x.from x.held ∙ sym (name_is l n.from n.held))

members_rise : {A : Type 0} (one : Name → Data → Option A) (name : A → Name) → ((n : Name) (d : Data) (x : A) → one n d ≡ Some x → name x ≡ n) → (ms : Members) (xs : List A) →
    members_proper ms ≡ true → each_member one ms ≡ Some xs → names_rise (map name xs) ≡ true
members_rise one name named no_members xs p h = ap (λ xs. names_rise (map name xs)) (sym (some-is [] xs h))
members_rise one name named (member l d ms) xs p h =
    let b = both (proper d) (leads l ms && members_proper ms) p in
    let c = both (leads l ms) (members_proper ms) b.1 in
    let n = then-some (name_in l) _ xs h in
    let x = then-some (one n.from d) _ xs n.gives in
    let ys = map-some (each_member one ms) _ xs x.gives in
    let is : name x.from ≡ l = named n.from d x.from x.held ∙ sym (name_is l n.from n.held) in
    ap (λ xs. names_rise (map name xs)) (sym ys.gives)
    ∙ rise-more (name x.from) (map name ys.from)
    ∙ and-true _ _ (ap (λ k. led k (map name ys.from)) is ∙ led_same one name named l ms ys.from ys.held ∙ c.0) (members_rise one name named ms ys.from c.1 ys.held)

named_rise : {A : Type 0} (one : Name → Data → Option A) (name : A → Name) → ((n : Name) (d : Data) (x : A) → one n d ≡ Some x → name x ≡ n) → (k : Line) (o : Data) (xs : List A) →
    proper o ≡ true → wanted k (named_of one) o ≡ Some xs → names_rise (map name xs) ≡ true
named_rise one name named k o xs p h =
    let r = wanted_read k (named_of one) o xs p h in
    let ms = then-some (as_object r.from) (each_member one) xs r.gives in
    members_rise one name named ms.from xs (ap proper (object_is r.from ms.from ms.held) ∙ r.good) ms.gives

pub record Rising (s : Sheet) : Type 0 where
  pub commands : names_rise (map (λ (c : NamedCommand). c.name) s.commands) ≡ true
  pub projections : names_rise (map (λ (p : NamedRules). p.name) s.projections) ≡ true
  pub sagas : names_rise (map (λ (x : NamedSaga). x.name) s.sagas) ≡ true

parts_rise : (d : Data) (s : Sheet) → proper d ≡ true → SheetParts d s → Rising s
parts_rise d s p q =
    let w = opened sheet_keys d q.object p q.is_object in
    record {
      commands = ap (λ (s : Sheet). names_rise (map (λ (c : NamedCommand). c.name) s.commands)) q.made
          ∙ named_rise (command_of q.aggregate.fields) (λ (c : NamedCommand). c.name) (command_known q.aggregate.fields) (codes "commands") q.object q.commands w.good q.is_commands;
      projections = ap (λ (s : Sheet). names_rise (map (λ (p : NamedRules). p.name) s.projections)) q.made
          ∙ named_rise projection_of (λ (p : NamedRules). p.name) projection_named (codes "projections") q.object q.projections w.good q.is_projections;
      sagas = ap (λ (s : Sheet). names_rise (map (λ (x : NamedSaga). x.name) s.sagas)) q.made
          ∙ named_rise (saga_of q.commands) (λ (x : NamedSaga). x.name) (saga_named q.commands) (codes "sagas") q.object q.sagas w.good q.is_sagas;
    }

-- the commands, the projections and the sagas of a sheet rise by name
pub sheet_rises : (s : Sheet) → IsSheet s → Rising s
unfolding IsSheet sheet_in
sheet_rises s h = let d = then-some (json_in h.0) sheet_of s h.1 in parts_rise d.from s (sheet_proper h.0 d.from d.held) (sheet_parts d.from s d.gives)
