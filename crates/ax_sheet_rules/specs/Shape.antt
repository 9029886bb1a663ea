-- The shape of a sheet, member by member.
use Rattle.std.specs.Prelude.{◌≡◌, ℕ, zero, suc, ◌^◌, Bool, true, false, not, ◌&&◌, List, [], ◌∷◌, length, find, Option, Some, None, option_map, ℤ, nat_lt, nat_le, codes, if◌then◌else◌}
use Rattle.std.specs.List.{list_any, list_all}
use Rattle.std.specs.Str.{bytes_eq, is_utf8}
use Rattle.serde_json.specs.Data.{Data, Items, no_items, item, Members, no_members, member}
use Rattle.serde_json.specs.Find.{as_str, as_array, as_object, as_bool}
use Rattle.serde_json.specs.Read.{read}
use Rattle.ax_values.specs.Grammar.{Name, Line, ◌>>=◌, when, name_in, is_content, after_front}
use Rattle.ax_values.specs.Words.{same_name}
use Rattle.ax_values.specs.declared.value.Value.{Value}
use Rattle.ax_values.specs.declared.given.Given.{Given}
use Rattle.ax_rules.specs.Nodes.{expr_of as seen}
use Rattle.ax_rules.specs.Rules.{Rules}
use Rattle.ax_rules.specs.declared.expr.Expr.{Expr}
use Rattle.ax_rules.specs.declared.guard.Test.{Test}
use Rattle.ax_rules.specs.declared.guard.Guard.{Guard}
use Rattle.ax_rules.specs.declared.rule.Set.{Set}
use Rattle.ax_rules.specs.declared.rule.Rule.{Rule}
use Rattle.ax_rules.specs.declared.rules.Initial.{Initial}
use Rattle.ax_rules.specs.declared.saga_rules.ParamKind.{ParamKind}
use Rattle.ax_rules.specs.declared.saga_rules.Source.{Source}
use Rattle.ax_rules.specs.declared.saga_rules.Association.{Association}
use Rattle.ax_rules.specs.declared.saga_rules.GivenParam.{GivenParam}
use Rattle.ax_rules.specs.declared.saga_rules.Dispatch.{Dispatch}
use Rattle.ax_rules.specs.declared.saga_rules.Handler.{Handler}
use Rattle.ax_upcast.specs.Upcast.{keeps_limit}
use Rattle.ax_upcast.specs.declared.event.GivenField.{GivenField}
use Rattle.ax_upcast.specs.declared.event.Template.{Template}
use Rattle.ax_upcast.specs.declared.upcaster.Act.{Act}
use Rattle.ax_upcast.specs.declared.upcaster.Upcaster.{Upcaster}
use Rattle.ax_sheet_rules.specs.Members.{small_of, int_of, name_of, list_of, pair_of, triple_of, only_item, two_items, three_items, named_of, object_of, wanted, optional}
use Rattle.ax_sheet_rules.specs.Names.{is_param, is_int_param, anything, nothing}
use Rattle.ax_sheet_parts.specs.Sheet.{Sheet, are_parts, fits_record, is_kind}
use Rattle.ax_sheet_parts.specs.declared.params.Param.{Param}
use Rattle.ax_sheet_parts.specs.declared.parts.NamedCommand.{NamedCommand}
use Rattle.ax_sheet_parts.specs.declared.parts.NamedRules.{NamedRules}
use Rattle.ax_sheet_parts.specs.declared.parts.NamedSaga.{NamedSaga}

-- ---- expressions

abbrev pub place_from : ℕ → List Initial → Line → Option ℕ
place_from k [] s = None
place_from k (f ∷ fs) s = if bytes_eq f.name s then Some k else place_from (suc k) fs s

-- the place of a declared field
abbrev pub place_of : List Initial → Line → Option ℕ
place_of fs s = place_from 0 fs s

-- the name behind `$`
abbrev pub copied : Line → Option Name
copied s = after_front (codes "$") s >>= name_in

abbrev pub leaf_by : (Name → Bool) → Option ℕ → Option Name → Option Expr
leaf_by takes (Some k) n = Some (Expr.Field k)
leaf_by takes None None = None
leaf_by takes None (Some n) = when (takes n) (Expr.Arg n)

-- a declared field, or `$` and a name that may stand there
abbrev pub leaf_of : List Initial → (Name → Bool) → Line → Option Expr
leaf_of fs takes s = leaf_by takes (place_of fs s) (copied s)

abbrev pub operation : Line → Expr → Expr → Option Expr
operation op e f = if bytes_eq op (codes "+") then Some (Expr.Add (seen e) (seen f))
    else (if bytes_eq op (codes "-") then Some (Expr.Sub (seen e) (seen f)) else when (bytes_eq op (codes "*")) (Expr.Mul (seen e) (seen f)))

-- an operation and its two sides
abbrev pub operation_of : (Data → Option Expr) → Items → Option Expr
operation_of side ds = do
  t ← three_items ds
  op ← as_str t.first
  e ← side t.second
  f ← side t.third
  operation op e f

abbrev pub expr_by : (Line → Option Expr) → (Items → Option Expr) → Option Line → Option Items → Option ℤ → Option Expr
expr_by leaf inner (Some s) ds z = leaf s
expr_by leaf inner None (Some ds) z = inner ds
expr_by leaf inner None None z = option_map Expr.Int z

-- an expression at most `room` deep: a string is a leaf and a list an operation; else it is an int
unfoldable pub expr_of : List Initial → (Name → Bool) → ℕ → Data → Option Expr
expr_of fs takes zero d = None
expr_of fs takes (suc room) d = expr_by (leaf_of fs takes) (operation_of (λ e. expr_of fs takes room e)) (as_str d) (as_array d) (int_of d)

abbrev pub most_deep : ℕ
most_deep = 8

abbrev pub test_of : Line → Option Test
test_of w = if bytes_eq w (codes "=") then Some Test.Equal
    else (if bytes_eq w (codes "!=") then Some Test.Differ else (if bytes_eq w (codes "<") then Some Test.Less else when (bytes_eq w (codes "<=")) Test.AtMost))

-- a test and its two sides
unfoldable pub guard_of : List Initial → (Name → Bool) → Data → Option Guard
guard_of fs takes d = do
  t ← triple_of d
  op ← as_str t.first
  test ← test_of op
  left ← expr_of fs takes most_deep t.second
  right ← expr_of fs takes most_deep t.third
  Some (record { left = left; test = test; right = right })

-- fewer than 2^32 guards
unfoldable pub guards_of : List Initial → (Name → Bool) → Data → Option (List Guard)
guards_of fs takes d = list_of (guard_of fs takes) d >>= λ gs. when (nat_lt (length gs) (2 ^ 32)) gs

-- a declared field, and what it is set to
unfoldable pub set_of : List Initial → (Name → Bool) → Name → Data → Option Set
set_of fs takes name d = place_of fs name >>= λ k. option_map (λ e. record { field = k; value = e }) (expr_of fs takes most_deep d)

abbrev pub sets_of : List Initial → (Name → Bool) → Data → Option (List Set)
sets_of fs takes d = named_of (set_of fs takes) d

-- ---- rules

abbrev pub most_fields : ℕ
most_fields = 8

unfoldable pub initial_of : Name → Data → Option Initial
initial_of name d = option_map (λ z. record { name = name; value = z }) (int_of d)

-- declared fields: the members of an object stand in byte order
unfoldable pub fields_of : Data → Option (List Initial)
fields_of d = named_of initial_of d >>= λ fs. when (nat_le (length fs) most_fields) fs

abbrev pub rule_keys : Bool → List Line
rule_keys true = codes "guards" ∷ codes "sets" ∷ codes "announce" ∷ []
rule_keys false = codes "guards" ∷ codes "sets" ∷ []

-- a rule, which may announce or not
unfoldable pub rule_of : Bool → List Initial → Name → Data → Option Rule
rule_of announcing fs kind d = do
  o ← object_of (rule_keys announcing) d
  guards ← optional (codes "guards") [] (guards_of fs anything) o
  sets ← optional (codes "sets") [] (sets_of fs anything) o
  announce ← optional (codes "announce") false as_bool o
  Some (record { kind = kind; guards = guards; sets = sets; announce = announce })

abbrev pub two_keys : List Line
two_keys = codes "fields" ∷ codes "on" ∷ []

-- rules; those of a projection may announce
unfoldable pub rules_of : Bool → Data → Option Rules
rules_of announcing d = do
  o ← object_of two_keys d
  fs ← wanted (codes "fields") fields_of o
  rules ← wanted (codes "on") (named_of (rule_of announcing fs)) o
  Some (record { fields = fs; rules = rules })

-- ---- given values

abbrev pub given_text : (Name → Bool) → Line → Option Name → Option Given
given_text takes s (Some n) = when (takes n) (Given.Copy n)
given_text takes s None = when (is_content s) (Given.Just (Value.Text s))

abbrev pub given_by : (Name → Bool) → Option Line → Option ℤ → Option Given
given_by takes (Some s) z = given_text takes s (copied s)
given_by takes None z = option_map (λ z. Given.Just (Value.Int z)) z

-- a copy or a text where it is a string; else an int
unfoldable pub given_of : (Name → Bool) → Data → Option Given
given_of takes d = given_by takes (as_str d) (int_of d)

unfoldable pub given_field_of : (Name → Bool) → Name → Data → Option GivenField
given_field_of takes name d = option_map (λ g. record { name = name; given = g }) (given_of takes d)

-- a kind, a revision and given fields
unfoldable pub template_of : (Name → Bool) → Data → Option Template
template_of takes d = do
  t ← triple_of d
  kind ← name_of t.first
  revision ← small_of t.second
  fields ← named_of (given_field_of takes) t.third
  Some (record { kind = kind; revision = revision; fields = fields })

unfoldable pub templates_of : (Name → Bool) → Data → Option (List Template)
templates_of takes d = list_of (template_of takes) d >>= λ ts. when (are_parts ts) ts

-- ---- commands

abbrev pub kind_of : Line → Option ParamKind
kind_of w = if bytes_eq w (codes "int") then Some ParamKind.Int else when (bytes_eq w (codes "text")) ParamKind.Text

unfoldable pub param_of : Name → Data → Option Param
param_of name d = as_str d >>= λ w. option_map (λ kind. record { name = name; kind = kind }) (kind_of w)

abbrev pub most_params : ℕ
most_params = 16

unfoldable pub params_of : Data → Option (List Param)
params_of d = named_of param_of d >>= λ ps. when (nat_le (length ps) most_params) ps

unfoldable pub events_of : List Param → Data → Option (List Template)
events_of ps d = templates_of (is_param ps) d >>= λ ts. when (list_all fits_record ts) ts

abbrev pub command_keys : List Line
command_keys = codes "params" ∷ codes "guards" ∷ codes "events" ∷ []

-- guards use the aggregate's fields and int parameters; events copy parameters
unfoldable pub command_of : List Initial → Name → Data → Option NamedCommand
command_of fs name d = do
  o ← object_of command_keys d
  params ← wanted (codes "params") params_of o
  guards ← wanted (codes "guards") (guards_of fs (is_int_param params)) o
  events ← wanted (codes "events") (events_of params) o
  Some (record { name = name; command = record { params = params; guards = guards; events = events } })

-- ---- upcasters

abbrev pub value_of_given : Given → Option Value
value_of_given (Given.Just v) = Some v
value_of_given (Given.Copy n) = None

-- a constant
unfoldable pub value_of : Data → Option Value
value_of d = given_of nothing d >>= value_of_given

unfoldable pub rename_of : Items → Option Act
rename_of ds = do
  t ← three_items ds
  old ← name_of t.first
  new ← name_of t.second
  revision ← small_of t.third
  Some (Act.Rename old new revision)

unfoldable pub default_of : Items → Option Act
default_of ds = do
  t ← three_items ds
  name ← name_of t.first
  value ← value_of t.second
  revision ← small_of t.third
  Some (Act.Default name value revision)

unfoldable pub retype_of : Items → Option Act
retype_of ds = do
  t ← two_items ds
  kind ← name_of t.first
  revision ← small_of t.second
  Some (Act.Retype kind revision)

unfoldable pub split_of : Items → Option Act
split_of ds = only_item ds >>= λ d. option_map Act.Split (templates_of anything d)

abbrev pub remove_of : Items → Option Act
remove_of no_items = Some Act.Remove
remove_of (item d ds) = None

-- an act by its word and what stands behind it
abbrev pub act_by : Line → Items → Option Act
act_by w ds = if bytes_eq w (codes "rename") then rename_of ds
    else (if bytes_eq w (codes "default") then default_of ds
    else (if bytes_eq w (codes "retype") then retype_of ds else (if bytes_eq w (codes "split") then split_of ds else (if bytes_eq w (codes "remove") then remove_of ds else None))))

abbrev pub act_in : Items → Option Act
act_in no_items = None
act_in (item d ds) = as_str d >>= λ w. act_by w ds

unfoldable pub act_of : Data → Option Act
act_of d = as_array d >>= act_in

abbrev pub upcaster_keys : List Line
upcaster_keys = codes "from" ∷ codes "do" ∷ []

unfoldable pub upcaster_of : Data → Option Upcaster
upcaster_of d = do
  o ← object_of upcaster_keys d
  from ← wanted (codes "from") pair_of o
  kind ← name_of from.first
  revision ← small_of from.second
  act ← wanted (codes "do") act_of o
  Some (record { kind = kind; revision = revision; act = act })

abbrev pub most_upcasters : ℕ
most_upcasters = 64

-- upcasters after each of which no record gives more than 8 items
unfoldable pub chain_of : Data → Option (List Upcaster)
chain_of d = list_of upcaster_of d >>= λ us. when (nat_le (length us) most_upcasters && keeps_limit us) us

-- ---- sagas

-- `@` or a name
abbrev pub key_in : Line → Option Source
key_in w = if bytes_eq w (codes "@") then Some Source.Aggregate else option_map Source.Property (name_in w)

-- `@`, or `$` and a name
abbrev pub from_in : Line → Option Source
from_in w = if bytes_eq w (codes "@") then Some Source.Aggregate else option_map Source.Property (copied w)

unfoldable pub key_of : Data → Option Source
key_of d = as_str d >>= key_in

unfoldable pub from_of : Data → Option Source
from_of d = as_str d >>= from_in

unfoldable pub association_of : Data → Option Association
association_of d = do
  two ← pair_of d
  key ← key_of two.first
  from ← from_of two.second
  Some (record { key = key; from = from })

-- a copy, or a constant of the kind
abbrev pub suits : ParamKind → Given → Bool
suits kind (Given.Copy n) = true
suits kind (Given.Just v) = is_kind kind v

unfoldable pub given_param_of : Param → Line → Data → Option GivenParam
given_param_of p k d = when (bytes_eq p.name k) d >>= given_of anything >>= λ g. when (suits p.kind g) (record { name = p.name; kind = p.kind; given = g })

-- exactly the parameters: both rise by name
abbrev pub each_param : List Param → Members → Option (List GivenParam)
each_param [] no_members = Some []
each_param [] (member k d ms) = None
each_param (p ∷ ps) no_members = None
each_param (p ∷ ps) (member k d ms) = given_param_of p k d >>= λ g. option_map (λ gs. g ∷ gs) (each_param ps ms)

abbrev pub given_params_of : List Param → Data → Option (List GivenParam)
given_params_of ps d = as_object d >>= each_param ps

abbrev pub command_in : List NamedCommand → Line → Option NamedCommand
command_in cs w = find (λ c. bytes_eq c.name w) cs

-- a command of the sheet, its target and its parameters
unfoldable pub dispatch_of : List NamedCommand → Data → Option Dispatch
dispatch_of commands d = do
  t ← triple_of d
  w ← as_str t.first
  command ← command_in commands w
  target ← from_of t.second
  params ← given_params_of command.command.params t.third
  Some (record { command = command.name; target = target; params = params })

abbrev pub handler_keys : List Line
handler_keys = codes "by" ∷ codes "start" ∷ codes "guards" ∷ codes "sets" ∷ codes "associate" ∷ codes "dissociate" ∷ codes "send" ∷ codes "end" ∷ []

unfoldable pub handler_of : List NamedCommand → List Initial → Name → Data → Option Handler
handler_of commands fs kind d = do
  o ← object_of handler_keys d
  by ← wanted (codes "by") key_of o
  start ← optional (codes "start") false as_bool o
  guards ← optional (codes "guards") [] (guards_of fs anything) o
  sets ← optional (codes "sets") [] (sets_of fs anything) o
  associate ← optional (codes "associate") [] (list_of association_of) o
  dissociate ← optional (codes "dissociate") [] (list_of association_of) o
  send ← optional (codes "send") [] (list_of (dispatch_of commands)) o
  end ← optional (codes "end") false as_bool o
  Some (record { kind = kind; by = by; start = start; guards = guards; sets = sets; associate = associate; dissociate = dissociate; send = send; end = end })

unfoldable pub saga_of : List NamedCommand → Name → Data → Option NamedSaga
saga_of commands name d = do
  o ← object_of two_keys d
  fs ← wanted (codes "fields") fields_of o
  handlers ← wanted (codes "on") (named_of (handler_of commands fs)) o
  Some (record { name = name; rules = record { fields = fs; handlers = handlers } })

-- ---- the sheet

unfoldable pub projection_of : Name → Data → Option NamedRules
projection_of name d = option_map (λ rules. record { name = name; rules = rules }) (rules_of true d)

abbrev pub sheet_keys : List Line
sheet_keys = codes "sheet" ∷ codes "revision" ∷ codes "aggregate" ∷ codes "commands" ∷ codes "upcast" ∷ codes "projections" ∷ codes "sagas" ∷ []

abbrev pub is_saga : List NamedSaga → Name → Bool
is_saga ss name = list_any (λ s. same_name s.name name) ss

-- no projection has the name of a saga
abbrev pub are_apart : List NamedRules → List NamedSaga → Bool
are_apart ps ss = list_all (λ p. not (is_saga ss p.name)) ps

-- the sheet with this aggregate and the other members of the object
unfoldable pub sheet_around : Name → ℕ → Rules → Data → Option Sheet
sheet_around name revision aggregate o = do
  commands ← wanted (codes "commands") (named_of (command_of aggregate.fields)) o
  chain ← wanted (codes "upcast") chain_of o
  projections ← wanted (codes "projections") (named_of projection_of) o
  sagas ← wanted (codes "sagas") (named_of (saga_of commands)) o
  when (are_apart projections sagas) (record { name = name; revision = revision; aggregate = aggregate; commands = commands; chain = chain; projections = projections; sagas = sagas })

-- the sheet that a JSON value is
unfoldable pub sheet_of : Data → Option Sheet
sheet_of d = do
  o ← object_of sheet_keys d
  name ← wanted (codes "sheet") name_of o
  revision ← wanted (codes "revision") small_of o
  aggregate ← wanted (codes "aggregate") (rules_of false) o
  sheet_around name revision aggregate o

-- the JSON value that a text is, which is UTF-8
unfoldable pub json_in : Line → Option Data
json_in text = when (is_utf8 text) text >>= read

-- the sheet that a text is
unfoldable pub sheet_in : Line → Option Sheet
sheet_in text = json_in text >>= sheet_of

-- some text is read as the sheet
unfoldable pub IsSheet : Sheet → Type 0
IsSheet s = (text : Line) × (sheet_in text ≡ Some s)
