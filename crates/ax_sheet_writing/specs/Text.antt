-- The text of a sheet: compact JSON, members in byte order, without the members that may be missing and are empty or false.
use Rattle.std.specs.Prelude.{ℕ, Bool, true, false, List, [], ◌∷◌, map, fold, Option, Some, None, slice_get, codes, ℤ}
use Rattle.serde_json.specs.Data.{Data, boolean, number, unsigned, string, array, object, Members, no_members, put}
use Rattle.serde_json.specs.Find.{of_integer}
use Rattle.serde_json.specs.View.{items_of}
use Rattle.serde_json.specs.Written.{compact_text}
use Rattle.ax_values.specs.Grammar.{Name, Line}
use Rattle.ax_values.specs.declared.value.Value.{Value}
use Rattle.ax_values.specs.declared.given.Given.{Given}
use Rattle.ax_rules.specs.Expr.{Expr, constant, field, argument, sum, difference, product}
use Rattle.ax_rules.specs.Nodes.{expr_of as seen}
use Rattle.ax_rules.specs.Rules.{Rules}
use Rattle.ax_rules.specs.SagaRules.{SagaRules}
use Rattle.ax_rules.specs.declared.guard.Test.{Test}
use Rattle.ax_rules.specs.declared.guard.Guard.{Guard}
use Rattle.ax_rules.specs.declared.rule.Set.{Set}
use Rattle.ax_rules.specs.declared.rule.Rule.{Rule}
use Rattle.ax_rules.specs.declared.rules.Initial.{Initial}
use Rattle.ax_rules.specs.declared.saga_rules.ParamKind.{ParamKind}
use Rattle.ax_rules.specs.declared.saga_rules.Source.{Source}
use Rattle.ax_rules.specs.declared.saga_rules.Association.{Association}
use Rattle.ax_rules.specs.declared.saga_rules.GivenParam.{GivenParam}
use Rattle.ax_rules.specs.declared.saga_rules.Dispatch.{Dispatch}
use Rattle.ax_rules.specs.declared.saga_rules.Handler.{Handler}
use Rattle.ax_upcast.specs.declared.event.GivenField.{GivenField}
use Rattle.ax_upcast.specs.declared.event.Template.{Template}
use Rattle.ax_upcast.specs.declared.upcaster.Act.{Act}
use Rattle.ax_upcast.specs.declared.upcaster.Upcaster.{Upcaster}
use Rattle.ax_sheet_parts.specs.Sheet.{Sheet}
use Rattle.ax_sheet_parts.specs.declared.params.Param.{Param}
use Rattle.ax_sheet_parts.specs.Commands.{Command}

-- ---- lists and objects

abbrev pub list_data : {A : Type 0} → (A → Data) → List A → Data
list_data one xs = array (items_of (map one xs))

abbrev pub two_data : Data → Data → Data
two_data a b = array (items_of (a ∷ b ∷ []))

abbrev pub three_data : Data → Data → Data → Data
three_data a b c = array (items_of (a ∷ b ∷ c ∷ []))

-- each under its name, in byte order
abbrev pub members_data : {A : Type 0} → (A → Name) → (A → Data) → List A → Members
members_data name one xs = fold (λ ms x. put (name x) (one x) ms) no_members xs

abbrev pub named_data : {A : Type 0} → (A → Name) → (A → Data) → List A → Data
named_data name one xs = object (members_data name one xs)

-- a list as a member, where it is not empty
abbrev pub put_list : {A : Type 0} → Line → (List A → Data) → List A → Members → Members
put_list key one [] ms = ms
put_list key one (x ∷ xs) ms = put key (one (x ∷ xs)) ms

abbrev pub put_flag : Line → Bool → Members → Members
put_flag key false ms = ms
put_flag key true ms = put key (boolean true) ms

-- ---- values

abbrev pub int_data : ℤ → Data
int_data z = number (of_integer z)

abbrev pub small_data : ℕ → Data
small_data n = number (unsigned n)

abbrev pub copy_data : Name → Data
copy_data n = string (36 ∷ n)

abbrev pub value_data : Value → Data
value_data (Value.Int z) = int_data z
value_data (Value.Text t) = string t

abbrev pub given_data : Given → Data
given_data (Given.Copy n) = copy_data n
given_data (Given.Just v) = value_data v

-- ---- rules

abbrev pub name_or_none : Option Initial → Name
name_or_none None = []
name_or_none (Some f) = f.name

abbrev pub field_name : List Initial → ℕ → Name
field_name fs k = name_or_none (slice_get fs k)

unfoldable pub expr_data : List Initial → Expr → Data
expr_data fs (constant z) = int_data z
expr_data fs (field k) = string (field_name fs k)
expr_data fs (argument n) = copy_data n
expr_data fs (sum e f) = three_data (string (codes "+")) (expr_data fs e) (expr_data fs f)
expr_data fs (difference e f) = three_data (string (codes "-")) (expr_data fs e) (expr_data fs f)
expr_data fs (product e f) = three_data (string (codes "*")) (expr_data fs e) (expr_data fs f)

abbrev pub test_text : Test → Line
test_text Test.Equal = codes "="
test_text Test.Differ = codes "!="
test_text Test.Less = codes "<"
test_text Test.AtMost = codes "<="

abbrev pub guard_data : List Initial → Guard → Data
guard_data fs g = three_data (string (test_text g.test)) (expr_data fs (seen g.left)) (expr_data fs (seen g.right))

abbrev pub guards_data : List Initial → List Guard → Data
guards_data fs gs = list_data (guard_data fs) gs

abbrev pub sets_data : List Initial → List Set → Data
sets_data fs ss = named_data (λ s. field_name fs s.field) (λ s. expr_data fs (seen s.value)) ss

abbrev pub fields_data : List Initial → Data
fields_data fs = named_data (λ f. f.name) (λ f. int_data f.value) fs

unfoldable pub rule_data : List Initial → Rule → Data
rule_data fs r = object (put_flag (codes "announce") r.announce (put_list (codes "sets") (sets_data fs) r.sets (put_list (codes "guards") (guards_data fs) r.guards no_members)))

-- the object of fields and of rules or handlers
abbrev pub two_members : Data → Data → Data
two_members fields on = object (put (codes "on") on (put (codes "fields") fields no_members))

unfoldable pub rules_data : Rules → Data
rules_data r = two_members (fields_data r.fields) (named_data (λ x. x.kind) (rule_data r.fields) r.rules)

-- ---- commands and upcasters

abbrev pub given_fields_data : List GivenField → Data
given_fields_data gs = named_data (λ g. g.name) (λ g. given_data g.given) gs

unfoldable pub template_data : Template → Data
template_data t = three_data (string t.kind) (small_data t.revision) (given_fields_data t.fields)

abbrev pub kind_text : ParamKind → Line
kind_text ParamKind.Int = codes "int"
kind_text ParamKind.Text = codes "text"

abbrev pub params_data : List Param → Data
params_data ps = named_data (λ p. p.name) (λ p. string (kind_text p.kind)) ps

unfoldable pub command_data : List Initial → Command → Data
command_data fs c = object (put (codes "events") (list_data template_data c.events) (put (codes "guards") (guards_data fs c.guards) (put (codes "params") (params_data c.params) no_members)))

unfoldable pub act_data : Act → Data
act_data (Act.Rename old new r) = array (items_of (string (codes "rename") ∷ string old ∷ string new ∷ small_data r ∷ []))
act_data (Act.Default name value r) = array (items_of (string (codes "default") ∷ string name ∷ value_data value ∷ small_data r ∷ []))
act_data (Act.Retype kind r) = three_data (string (codes "retype")) (string kind) (small_data r)
act_data (Act.Split parts) = two_data (string (codes "split")) (list_data template_data parts)
act_data Act.Remove = array (items_of (string (codes "remove") ∷ []))

unfoldable pub upcaster_data : Upcaster → Data
upcaster_data u = object (put (codes "do") (act_data u.act) (put (codes "from") (two_data (string u.kind) (small_data u.revision)) no_members))

-- ---- sagas

abbrev pub key_data : Source → Data
key_data Source.Aggregate = string (codes "@")
key_data (Source.Property n) = string n

abbrev pub from_data : Source → Data
from_data Source.Aggregate = string (codes "@")
from_data (Source.Property n) = copy_data n

abbrev pub association_data : Association → Data
association_data a = two_data (key_data a.key) (from_data a.from)

abbrev pub given_params_data : List GivenParam → Data
given_params_data ps = named_data (λ p. p.name) (λ p. given_data p.given) ps

abbrev pub dispatch_data : Dispatch → Data
dispatch_data s = three_data (string s.command) (from_data s.target) (given_params_data s.params)

-- what a handler does to the row and to associations
unfoldable pub changes_data : List Initial → Handler → Members
changes_data fs h =
    put_list (codes "dissociate") (list_data association_data) h.dissociate (put_list (codes "associate") (list_data association_data) h.associate
    (put_list (codes "sets") (sets_data fs) h.sets (put_list (codes "guards") (guards_data fs) h.guards no_members)))

unfoldable pub handler_data : List Initial → Handler → Data
handler_data fs h =
    object (put (codes "by") (key_data h.by) (put_flag (codes "end") h.end (put_flag (codes "start") h.start
    (put_list (codes "send") (list_data dispatch_data) h.send (changes_data fs h)))))

unfoldable pub saga_data : SagaRules → Data
saga_data s = two_members (fields_data s.fields) (named_data (λ h. h.kind) (handler_data s.fields) s.handlers)

-- ---- the sheet

-- name, revision, upcasters and aggregate
unfoldable pub head_data : Sheet → Members
head_data s =
    put (codes "aggregate") (rules_data s.aggregate) (put (codes "upcast") (list_data upcaster_data s.chain)
    (put (codes "revision") (small_data s.revision) (put (codes "sheet") (string s.name) no_members)))

unfoldable pub sheet_data : Sheet → Data
sheet_data s =
    object (put (codes "sagas") (named_data (λ x. x.name) (λ x. saga_data x.rules) s.sagas) (put (codes "projections") (named_data (λ p. p.name) (λ p. rules_data p.rules) s.projections)
    (put (codes "commands") (named_data (λ c. c.name) (λ c. command_data s.aggregate.fields c.command) s.commands) (head_data s))))

unfoldable pub sheet_text : Sheet → Line
sheet_text s = compact_text (sheet_data s)
