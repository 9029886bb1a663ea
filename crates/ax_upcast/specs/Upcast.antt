-- Upcasting: a record passes through the rules in their order and gives items.
use Rattle.std.specs.Prelude.{ℕ, suc, ◌≤◌, ◌==◌, Bool, true, ◌&&◌, List, [], ◌∷◌, map, flat_map, fold, length, take, Option, Some, None, nat_le, if◌then◌else◌}
use Rattle.std.specs.List.{list_all}
use Rattle.ax_values.specs.Grammar.{Name}
use Rattle.ax_values.specs.Words.{Payload, same_name, field_of, put_field, remove_field}
use Rattle.ax_values.specs.declared.value.Value.{Value}
use Rattle.ax_values.specs.declared.given.Given.{Given}
use Rattle.ax_values.specs.declared.record.Record.{Record}
use Rattle.ax_values.specs.declared.item.Item.{Item}
use Rattle.ax_upcast.specs.declared.event.GivenField.{GivenField}
use Rattle.ax_upcast.specs.declared.event.Template.{Template}
use Rattle.ax_upcast.specs.declared.event.Event.{Event}
use Rattle.ax_upcast.specs.declared.upcaster.Act.{Act}
use Rattle.ax_upcast.specs.declared.upcaster.Upcaster.{Upcaster}

-- ---- fields

-- the payload with the value in a field, where there is one
abbrev pub put_found : Name → Payload → Option Value → Payload
put_found name payload None = payload
put_found name payload (Some v) = put_field name v payload

-- what a field is given: a constant, or a copy of a field of the source
abbrev pub given_value : Payload → Given → Option Value
given_value source (Given.Just v) = Some v
given_value source (Given.Copy from) = field_of from source

abbrev pub put_given : Payload → Payload → GivenField → Payload
put_given source made g = put_found g.name made (given_value source g.given)

-- the fields of a template; a copied field that is missing is left out
abbrev pub filled : List GivenField → Payload → Payload
filled gs source = fold (put_given source) [] gs

abbrev pub moved : Name → Name → Payload → Option Value → Payload
moved old new payload None = payload
moved old new payload (Some v) = put_field new v (remove_field old payload)

-- the field OLD under the name NEW, in the place of a field NEW
abbrev pub renamed : Name → Name → Payload → Payload
renamed old new payload = if same_name old new then payload else moved old new payload (field_of old payload)

abbrev pub put_missing : Name → Value → Payload → Option Value → Payload
put_missing name value payload None = put_field name value payload
put_missing name value payload (Some v) = payload

abbrev pub defaulted : Name → Value → Payload → Payload
defaulted name value payload = put_missing name value payload (field_of name payload)

abbrev pub event_of_template : Payload → Template → Event
event_of_template source t = record { kind = t.kind; revision = t.revision; payload = filled t.fields source }

-- ---- one rule

abbrev pub acted : Act → Event → List Event
acted (Act.Rename old new r) e = record { kind = e.kind; revision = r; payload = renamed old new e.payload } ∷ []
acted (Act.Default name value r) e = record { kind = e.kind; revision = r; payload = defaulted name value e.payload } ∷ []
acted (Act.Retype kind r) e = record { kind = kind; revision = r; payload = e.payload } ∷ []
acted (Act.Split parts) e = map (event_of_template e.payload) parts
acted Act.Remove e = []

-- whether a rule is for a kind and revision
abbrev pub takes : Upcaster → Name → ℕ → Bool
takes u kind revision = same_name u.kind kind && (u.revision == revision)

-- a rule replaces the members with its kind and revision
abbrev pub replaced : Upcaster → Event → List Event
replaced u e = if takes u e.kind e.revision then acted u.act e else e ∷ []

-- ---- the chain

abbrev pub chained : List Upcaster → List Event → List Event
chained [] es = es
chained (u ∷ us) es = chained us (flat_map (replaced u) es)

-- the items of a record, numbered by part
abbrev pub numbered : Name → ℕ → ℕ → List Event → List Item
numbered aggregate seq part [] = []
numbered aggregate seq part (e ∷ es) = record { name = record { aggregate = aggregate; seq = seq; part = part }; kind = e.kind; payload = e.payload } ∷ numbered aggregate seq (suc part) es

abbrev pub event_of_record : Record → Event
event_of_record r = record { kind = r.kind; revision = r.revision; payload = r.payload }

abbrev pub upcast : List Upcaster → Record → List Item
upcast us r = numbered r.aggregate r.seq 0 (chained us (event_of_record r ∷ []))

-- ---- how many items there are

abbrev pub most_items : ℕ
most_items = 8

-- no event has become too many after any of the rules
abbrev pub KeepsLimit : List Upcaster → Type 0
KeepsLimit us = (e : Event) (k : ℕ) → length (chained (take k us) (e ∷ [])) ≤ most_items

-- a kind and its revision
pub record Form : Type 0 where
  pub kind : Name
  pub revision : ℕ

abbrev pub form_of_template : Template → Form
form_of_template t = record { kind = t.kind; revision = t.revision }

abbrev pub forms_by : Act → Form → List Form
forms_by (Act.Rename old new r) f = record { kind = f.kind; revision = r } ∷ []
forms_by (Act.Default name value r) f = record { kind = f.kind; revision = r } ∷ []
forms_by (Act.Retype kind r) f = record { kind = kind; revision = r } ∷ []
forms_by (Act.Split parts) f = map form_of_template parts
forms_by Act.Remove f = []

abbrev pub reformed : Upcaster → Form → List Form
reformed u f = if takes u f.kind f.revision then forms_by u.act f else f ∷ []

-- whether the members are few enough after each rule
abbrev pub stays_few : List Upcaster → List Form → Bool
stays_few [] fs = true
stays_few (u ∷ us) fs = nat_le (length (flat_map (reformed u) fs)) most_items && stays_few us (flat_map (reformed u) fs)

abbrev pub first_form : Upcaster → Form
first_form u = record { kind = u.kind; revision = u.revision }

-- how many items there are rests on kind and revision alone, and changes only from those of a rule
abbrev pub keeps_limit : List Upcaster → Bool
keeps_limit us = list_all (λ u. stays_few us (first_form u ∷ [])) us
