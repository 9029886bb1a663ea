-- Orders: their forms and fields, their words, and the reader of these.
use Rattle.std.specs.Prelude.{ℕ, Bool, true, false, not, ◌&&◌, List, [], ◌∷◌, ◌++◌, Option, Some, None, option_map}
use Rattle.ax_values.specs.Grammar.{Name, Line, ItemName, ◌>>=◌}
use Rattle.ax_values.specs.Words.{Payload}
use Rattle.ax_segments.specs.Segments.{Segment}
use Rattle.ax_journal.specs.Form.{kind, worded, form_words}
use Rattle.ax_journal.specs.Fields.{fields_in, fields_words}
use Rattle.ax_journal.specs.declared.arguments.Arguments.{Arguments}
use Rattle.ax_journal.specs.declared.form.Form.{Form}
use Rattle.ax_journal.specs.declared.fields.Fields.{Fields}
use Rattle.ax_journal.specs.declared.order.Order.{Order}

abbrev pub form_of : Order → Form
form_of (Order.Tick ms) = Form.Tick
form_of (Order.Send a c args) = Form.Send
form_of Order.Append = Form.Append
form_of (Order.Void i) = Form.Void
form_of (Order.Snapshot a) = Form.Snapshot
form_of Order.Deliver = Form.Deliver
form_of (Order.Claim p s) = Form.Claim
form_of (Order.Extend p s) = Form.Extend
form_of (Order.Release p s) = Form.Release
form_of (Order.Split p s) = Form.Split
form_of (Order.Merge p s) = Form.Merge
form_of (Order.Reset p) = Form.Reset
form_of (Order.Fetch p s n) = Form.Fetch
form_of Order.Commit = Form.Commit
form_of (Order.Take p) = Form.Take
form_of Order.Settle = Form.Settle
form_of (Order.Evict p x) = Form.Evict
form_of (Order.Policy p keep) = Form.Policy
form_of (Order.Mark p x) = Form.Mark
form_of (Order.Heal p x) = Form.Heal
form_of (Order.Advance p s n) = Form.Advance
form_of Order.Stop = Form.Stop
form_of (Order.ShowRows p) = Form.ShowRows
form_of (Order.ShowTokens p) = Form.ShowTokens
form_of (Order.ShowLetters p) = Form.ShowLetters
form_of (Order.ShowSagas p) = Form.ShowSagas
form_of Order.ShowLog = Form.ShowLog
form_of Order.ShowSent = Form.ShowSent

abbrev pub fields_of : Order → Fields
fields_of (Order.Tick ms) = Fields.Moment ms
fields_of (Order.Send a c args) = Fields.Command a c args
fields_of Order.Append = Fields.Nothing
fields_of (Order.Void i) = Fields.Cell i
fields_of (Order.Snapshot a) = Fields.Name a
fields_of Order.Deliver = Fields.Nothing
fields_of (Order.Claim p s) = Fields.Segment p s
fields_of (Order.Extend p s) = Fields.Segment p s
fields_of (Order.Release p s) = Fields.Segment p s
fields_of (Order.Split p s) = Fields.Segment p s
fields_of (Order.Merge p s) = Fields.Segment p s
fields_of (Order.Reset p) = Fields.Name p
fields_of (Order.Fetch p s n) = Fields.UpTo p s n
fields_of Order.Commit = Fields.Nothing
fields_of (Order.Take p) = Fields.Name p
fields_of Order.Settle = Fields.Nothing
fields_of (Order.Evict p x) = Fields.Item p x
fields_of (Order.Policy p keep) = Fields.Policy p keep
fields_of (Order.Mark p x) = Fields.Item p x
fields_of (Order.Heal p x) = Fields.Item p x
fields_of (Order.Advance p s n) = Fields.UpTo p s n
fields_of Order.Stop = Fields.Nothing
fields_of (Order.ShowRows p) = Fields.Name p
fields_of (Order.ShowTokens p) = Fields.Name p
fields_of (Order.ShowLetters p) = Fields.Name p
fields_of (Order.ShowSagas p) = Fields.Name p
fields_of Order.ShowLog = Fields.Nothing
fields_of Order.ShowSent = Fields.Nothing

-- the words of the form, and those of the fields
abbrev pub order_words : Order → List Line
order_words o = form_words (form_of o) ++ fields_words (fields_of o)

-- ---- the order of a form and its fields

abbrev pub bare_step : Form → Option Order
bare_step Form.Append = Some Order.Append
bare_step Form.Deliver = Some Order.Deliver
bare_step Form.Commit = Some Order.Commit
bare_step Form.Settle = Some Order.Settle
bare_step Form.Stop = Some Order.Stop
bare_step Form.ShowLog = Some Order.ShowLog
bare_step Form.ShowSent = Some Order.ShowSent
bare_step f = None

abbrev pub named_step : Name → Form → Option Order
named_step a Form.Snapshot = Some (Order.Snapshot a)
named_step a Form.Reset = Some (Order.Reset a)
named_step a Form.Take = Some (Order.Take a)
named_step a Form.ShowRows = Some (Order.ShowRows a)
named_step a Form.ShowTokens = Some (Order.ShowTokens a)
named_step a Form.ShowLetters = Some (Order.ShowLetters a)
named_step a Form.ShowSagas = Some (Order.ShowSagas a)
named_step a f = None

abbrev pub segment_step : Name → Segment → Form → Option Order
segment_step p s Form.Claim = Some (Order.Claim p s)
segment_step p s Form.Extend = Some (Order.Extend p s)
segment_step p s Form.Release = Some (Order.Release p s)
segment_step p s Form.Split = Some (Order.Split p s)
segment_step p s Form.Merge = Some (Order.Merge p s)
segment_step p s f = None

abbrev pub up_to_step : Name → Segment → ℕ → Form → Option Order
up_to_step p s n Form.Fetch = Some (Order.Fetch p s n)
up_to_step p s n Form.Advance = Some (Order.Advance p s n)
up_to_step p s n f = None

abbrev pub item_step : Name → ItemName → Form → Option Order
item_step p x Form.Evict = Some (Order.Evict p x)
item_step p x Form.Mark = Some (Order.Mark p x)
item_step p x Form.Heal = Some (Order.Heal p x)
item_step p x f = None

abbrev pub moment_step : ℕ → Form → Option Order
moment_step ms Form.Tick = Some (Order.Tick ms)
moment_step ms f = None

abbrev pub cell_step : ℕ → Form → Option Order
cell_step i Form.Void = Some (Order.Void i)
cell_step i f = None

abbrev pub policy_step : Name → Bool → Form → Option Order
policy_step p keep Form.Policy = Some (Order.Policy p keep)
policy_step p keep f = None

abbrev pub command_step : Name → Name → Payload → Form → Option Order
command_step a c args Form.Send = Some (Order.Send a c args)
command_step a c args f = None

-- the step of these fields and this form, where it is one step and has such fields
abbrev pub step_of : Fields → Form → Option Order
step_of Fields.Nothing f = bare_step f
step_of (Fields.Moment ms) f = moment_step ms f
step_of (Fields.Cell i) f = cell_step i f
step_of (Fields.Name a) f = named_step a f
step_of (Fields.Segment p s) f = segment_step p s f
step_of (Fields.UpTo p s n) f = up_to_step p s n f
step_of (Fields.Item p x) f = item_step p x f
step_of (Fields.Policy p keep) f = policy_step p keep f
step_of (Fields.Command a c args) f = command_step a c args f

-- the step that the words of the fields are, in a line of the form
abbrev pub step_in : Arguments → Form → List Line → Option Order
step_in args f ws = fields_in args (kind f).shape ws >>= λ fs. step_of fs f

-- an order of one step
abbrev pub order_in : Arguments → List Line → Option Order
order_in args ws = worded ws >>= λ w. step_in args w.form w.fields

-- ---- forms of two steps

abbrev pub two : Order → Order → Option (List Order)
two x y = Some (x ∷ y ∷ [])

abbrev pub do_steps : Fields → Option (List Order)
do_steps (Fields.Command a c args) = two (Order.Send a c args) Order.Append
do_steps fs = None

abbrev pub work_steps : Fields → Option (List Order)
work_steps (Fields.UpTo p s n) = two (Order.Fetch p s n) Order.Commit
work_steps fs = None

abbrev pub retry_steps : Fields → Option (List Order)
retry_steps (Fields.Name p) = two (Order.Take p) Order.Settle
retry_steps fs = None

abbrev pub one_step : Option Order → Option (List Order)
one_step o = option_map (λ x. x ∷ []) o

-- send and append, fetch and commit, take and settle, or the one step
abbrev pub steps_of : Form → Fields → Option (List Order)
steps_of Form.Do fs = do_steps fs
steps_of Form.Work fs = work_steps fs
steps_of Form.Retry fs = retry_steps fs
steps_of f fs = one_step (step_of fs f)

-- the steps that the words of the fields are, in a line of the form
abbrev pub steps_in : Arguments → Form → List Line → Option (List Order)
steps_in args f ws = fields_in args (kind f).shape ws >>= steps_of f

-- ---- stops

unfoldable pub is_stop : Order → Bool
is_stop Order.Stop = true
is_stop o = false

-- a stop is the last of the steps
abbrev pub stops_last : List Order → Bool
stops_last [] = true
stops_last (x ∷ []) = true
stops_last (x ∷ y ∷ os) = not (is_stop x) && stops_last (y ∷ os)
