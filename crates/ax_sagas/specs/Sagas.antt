-- Sagas: what one item does to one saga, and the saga that an item starts.
use Rattle.std.specs.Prelude.{Bool, true, false, not, ◌&&◌, List, [], ◌∷◌, Option, Some, None, option_map, Result, Ok, Err, if◌then◌else◌}
use Rattle.std.specs.Fmt.{signed_decimal}
use Rattle.std.specs.declared.cmp.Ordering.{Ordering}
use Rattle.std.specs.Ordering.{is_lt}
use Rattle.ax_values.specs.Grammar.{Line, ItemName, ◌>>=◌, each_in, name_in}
use Rattle.ax_values.specs.Words.{Payload, field_of, put_field, item_cmp, insert_rising, remove_rising}
use Rattle.ax_values.specs.declared.value.Value.{Value}
use Rattle.ax_values.specs.declared.given.Given.{Given}
use Rattle.ax_values.specs.declared.item.Item.{Item}
use Rattle.ax_rules.specs.Expr.{Row}
use Rattle.ax_rules.specs.Guards.{guards_cause}
use Rattle.ax_rules.specs.Rules.{sets_made, unless_cause, start_row}
use Rattle.ax_rules.specs.SagaRules.{SagaRules, handler_for}
use Rattle.ax_rules.specs.declared.cause.Cause.{Cause}
use Rattle.ax_rules.specs.declared.saga_rules.Source.{Source}
use Rattle.ax_rules.specs.declared.saga_rules.Association.{Association}
use Rattle.ax_rules.specs.declared.saga_rules.ParamKind.{ParamKind}
use Rattle.ax_rules.specs.declared.saga_rules.GivenParam.{GivenParam}
use Rattle.ax_rules.specs.declared.saga_rules.Dispatch.{Dispatch}
use Rattle.ax_rules.specs.declared.saga_rules.Handler.{Handler}
use Rattle.ax_sagas.specs.Links.{link_of, link_cmp, has_link}
use Rattle.ax_sagas.specs.declared.link.Link.{Link}
use Rattle.ax_sagas.specs.declared.saga.Saga.{Saga}
use Rattle.ax_sagas.specs.declared.sent.Sending.{Sending}
use Rattle.ax_sagas.specs.declared.saga.Received.{Received}

-- sagas stand by their names: identifier, then sequence number, then part
abbrev pub saga_cmp : Saga → Saga → Ordering
saga_cmp a b = item_cmp a.name b.name

abbrev pub saga_below : Saga → Saga → Bool
saga_below a b = is_lt (saga_cmp a b)

-- ---- what an item gives

-- an int counts as its decimal text
abbrev pub text_of : Value → Line
text_of (Value.Int z) = signed_decimal z
text_of (Value.Text t) = t

-- the identifier, or the text of a property
abbrev pub source_value : Source → Item → Option Line
source_value Source.Aggregate item = Some item.name.aggregate
source_value (Source.Property name) item = option_map text_of (field_of name item.payload)

-- the byte `@` for the identifier, or the property's name
abbrev pub source_key : Source → Line
source_key Source.Aggregate = 64 ∷ []
source_key (Source.Property name) = name

-- ---- links

-- the links with each association, or none where one has no value
abbrev pub associated : List Association → Item → List Link → Option (List Link)
associated [] item links = Some links
associated (a ∷ rest) item links = source_value a.from item >>= λ value. associated rest item (insert_rising link_cmp (link_of (source_key a.key) value) links)

-- the links without each of them, or none where one has no value
abbrev pub dissociated : List Association → Item → List Link → Option (List Link)
dissociated [] item links = Some links
dissociated (a ∷ rest) item links = source_value a.from item >>= λ value. dissociated rest item (remove_rising link_cmp (link_of (source_key a.key) value) links)

-- ---- sends

-- the value, where it has the kind
abbrev pub of_kind : ParamKind → Value → Option Value
of_kind ParamKind.Int (Value.Int z) = Some (Value.Int z)
of_kind ParamKind.Int (Value.Text t) = None
of_kind ParamKind.Text (Value.Int z) = None
of_kind ParamKind.Text (Value.Text t) = Some (Value.Text t)

-- a constant, or a field that is there and has the parameter's kind
abbrev pub given_value : ParamKind → Given → Payload → Option Value
given_value kind (Given.Just v) payload = Some v
given_value kind (Given.Copy from) payload = field_of from payload >>= of_kind kind

-- the arguments with the value of each parameter, or none where one has no value
abbrev pub args_with : List GivenParam → Payload → Payload → Option Payload
args_with [] payload args = Some args
args_with (p ∷ rest) payload args = given_value p.kind p.given payload >>= λ value. args_with rest payload (put_field p.name value args)

-- the command to the aggregate whose identifier the target is, or none where the target is no name or an argument has no value
abbrev pub sending_of : Item → Dispatch → Option Sending
sending_of item d = do
  value ← source_value d.target item
  aggregate ← name_in value
  args ← args_with d.params item.payload []
  Some (record { aggregate = aggregate; command = d.command; args = args })

abbrev pub sendings_of : Item → List Dispatch → Option (List Sending)
sendings_of item ds = each_in (sending_of item) ds

-- ---- handlers

abbrev pub row_of_ok : Result Row Cause → Option Row
row_of_ok (Ok row) = Some row
row_of_ok (Err cause) = None

-- the row with all sets made over the old one, or none where a guard is false or has no value, or a set has none
abbrev pub next_row : Handler → Row → Payload → Option Row
next_row h row payload = row_of_ok (unless_cause (guards_cause 0 h.guards row payload) (sets_made h.sets row payload row))

-- the saga of this name and row after the handler's other parts, or none where one has no value
abbrev pub completed : Handler → Item → ItemName → Row → List Link → Option Received
completed h item name row links = do
  joined ← associated h.associate item links
  left ← dissociated h.dissociate item joined
  sends ← sendings_of item h.send
  Some (record { saga = record { name = name; live = not h.end; row = row; links = left }; sends = sends })

-- the saga after the handler: guards and sets over the old row, associations, dissociations, commands, and whether it ends;
-- none where a guard is false or a part has no value
abbrev pub handled_by : Handler → Item → Saga → Option Received
handled_by h item saga = next_row h saga.row item.payload >>= λ row. completed h item saga.name row saga.links

-- ---- one item, one saga

-- whether the saga is live, and the value is associated with it under the key
abbrev pub expects : Line → Line → Saga → Bool
expects key value saga = saga.live && has_link key value saga.links

abbrev pub expects_by : Source → Option Line → Saga → Bool
expects_by by None saga = false
expects_by by (Some value) saga = expects (source_key by) value saga

abbrev pub received_by : Saga → Item → Handler → Option Received
received_by saga item h = if expects_by h.by (source_value h.by item) saga then handled_by h item saga else None

-- the saga after the item, where it receives it
abbrev pub receive : SagaRules → Saga → Item → Option Received
receive rules saga item = handler_for rules item.kind >>= received_by saga item

-- the saga before its first handler: the first values, and the association of its own property
abbrev pub first_saga : SagaRules → Item → Source → Line → Saga
first_saga rules item by value = record { name = item.name; live = true; row = start_row rules.fields; links = link_of (source_key by) value ∷ [] }

abbrev pub begun_by : SagaRules → Item → Handler → Option Received
begun_by rules item h = if h.start then (source_value h.by item >>= λ value. handled_by h item (first_saga rules item h.by value)) else None

-- the saga that the item starts
abbrev pub begin : SagaRules → Item → Option Received
begin rules item = handler_for rules item.kind >>= begun_by rules item
