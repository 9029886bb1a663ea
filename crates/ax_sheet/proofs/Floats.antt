-- The JSON of a sheet has no float.
use Rattle.std.proofs.Common.{◌≡◌, Bool, true, false, ◌||◌, List, [], ◌∷◌, fold, Ordering, Less, Equal, Greater, nat_cmp, ℤ, pos, negsuc, codes, refl, ap, ◌∙◌}
use Rattle.std.specs.Cmp.Lexicographic.{slice_cmp}
use Rattle.std.specs.Ordering.{match_ordering}
use Rattle.serde_json.specs.Data.{Data, Members, no_members, member, put, boolean, string}
use Rattle.serde_json.specs.Written.{has_float, members_have_float}
use Rattle.ax_values.specs.Grammar.{Name, Line}
use Rattle.ax_values.specs.declared.value.Value.{Value}
use Rattle.ax_values.specs.declared.given.Given.{Given}
use Rattle.ax_rules.specs.Expr.{Expr, constant, field, argument, sum, difference, product}
use Rattle.ax_rules.specs.Nodes.{expr_of as seen}
use Rattle.ax_rules.specs.Rules.{Rules}
use Rattle.ax_rules.specs.SagaRules.{SagaRules}
use Rattle.ax_rules.specs.declared.guard.Guard.{Guard}
use Rattle.ax_rules.specs.declared.rule.Set.{Set}
use Rattle.ax_rules.specs.declared.rule.Rule.{Rule}
use Rattle.ax_rules.specs.declared.rules.Initial.{Initial}
use Rattle.ax_rules.specs.declared.saga_rules.Source.{Source}
use Rattle.ax_rules.specs.declared.saga_rules.Association.{Association}
use Rattle.ax_rules.specs.declared.saga_rules.Dispatch.{Dispatch}
use Rattle.ax_rules.specs.declared.saga_rules.Handler.{Handler}
use Rattle.ax_upcast.specs.declared.event.Template.{Template}
use Rattle.ax_upcast.specs.declared.upcaster.Act.{Act}
use Rattle.ax_upcast.specs.declared.upcaster.Upcaster.{Upcaster}
use Rattle.ax_sheet_parts.specs.Sheet.{Sheet}
use Rattle.ax_rules.specs.declared.saga_rules.GivenParam.{GivenParam}
use Rattle.ax_upcast.specs.declared.event.GivenField.{GivenField}
use Rattle.ax_sheet_parts.specs.declared.params.Param.{Param}
use Rattle.ax_sheet_parts.specs.Commands.{Command}
use Rattle.ax_sheet_parts.specs.declared.parts.NamedCommand.{NamedCommand}
use Rattle.ax_sheet_parts.specs.declared.parts.NamedRules.{NamedRules}
use Rattle.ax_sheet_parts.specs.declared.parts.NamedSaga.{NamedSaga}
use Rattle.ax_sheet_writing.specs.Text.{list_data, named_data, put_list, put_flag, int_data, value_data, given_data, field_name, expr_data, guard_data, guards_data, sets_data, fields_data, rule_data, rules_data, template_data, kind_text, params_data, two_data, small_data, command_data, act_data, upcaster_data, key_data, from_data, association_data, dispatch_data, changes_data, handler_data, saga_data, head_data, sheet_data}

neither : (a b : Bool) → a ≡ false → b ≡ false → (a || b) ≡ false
neither a b p q = ap (λ a. a || b) p ∙ q

-- ---- lists and objects

by_order : (o : Ordering) (a b c : Members) → members_have_float a ≡ false → members_have_float b ≡ false → members_have_float c ≡ false → members_have_float (match_ordering o a b c) ≡ false
by_order Less a b c p q r = p
by_order Equal a b c p q r = q
by_order Greater a b c p q r = r

right : (a b : Bool) → (a || b) ≡ false → b ≡ false
right true b h = cc
right false b h = h

left : (a b : Bool) → (a || b) ≡ false → a ≡ false
left true b h = cc
left false b h = refl

whole_put : (k : Line) (d : Data) (ms : Members) → has_float d ≡ false → members_have_float ms ≡ false → members_have_float (put k d ms) ≡ false
whole_put k d no_members p q = neither (has_float d) false p refl
whole_put k d (member l e ms) p q =
    by_order (slice_cmp nat_cmp k l) (member k d (member l e ms)) (member l d ms) (member l e (put k d ms)) (neither (has_float d) _ p q)
    (neither (has_float d) _ p (right (has_float e) _ q)) (neither (has_float e) _ (left (has_float e) _ q) (whole_put k d ms p (right (has_float e) _ q)))

whole_list : {A : Type 0} (one : A → Data) → ((x : A) → has_float (one x) ≡ false) → (xs : List A) → has_float (list_data one xs) ≡ false
whole_list one w [] = refl
whole_list one w (x ∷ xs) = neither (has_float (one x)) _ (w x) (whole_list one w xs)

whole_fold : {A : Type 0} (name : A → Name) (one : A → Data) → ((x : A) → has_float (one x) ≡ false) → (xs : List A) (ms : Members) → members_have_float ms ≡ false →
    members_have_float (fold (λ ms x. put (name x) (one x) ms) ms xs) ≡ false
whole_fold name one w [] ms h = h
whole_fold name one w (x ∷ xs) ms h = whole_fold name one w xs (put (name x) (one x) ms) (whole_put (name x) (one x) ms (w x) h)

whole_named : {A : Type 0} (name : A → Name) (one : A → Data) → ((x : A) → has_float (one x) ≡ false) → (xs : List A) → has_float (named_data name one xs) ≡ false
whole_named name one w xs = whole_fold name one w xs no_members refl

whole_put_list : {A : Type 0} (key : Line) (one : List A → Data) → ((xs : List A) → has_float (one xs) ≡ false) → (xs : List A) (ms : Members) → members_have_float ms ≡ false →
    members_have_float (put_list key one xs ms) ≡ false
whole_put_list key one w [] ms h = h
whole_put_list key one w (x ∷ xs) ms h = whole_put key (one (x ∷ xs)) ms (w (x ∷ xs)) h

whole_put_flag : (key : Line) (b : Bool) (ms : Members) → members_have_float ms ≡ false → members_have_float (put_flag key b ms) ≡ false
whole_put_flag key false ms h = h
whole_put_flag key true ms h = whole_put key (boolean true) ms refl h

whole_three : (a b c : Bool) → a ≡ false → b ≡ false → c ≡ false → (a || (b || (c || false))) ≡ false
whole_three a b c p q r = neither a _ p (neither b _ q (neither c false r refl))

-- members without a float
record Whole (ms : Members) : Type 0 where
  is : members_have_float ms ≡ false

with_member : (k : Line) (d : Data) {ms : Members} → has_float d ≡ false → Whole ms → Whole (put k d ms)
with_member k d {ms} p w = record { is = whole_put k d ms p w.is }

with_list : {A : Type 0} (key : Line) (one : List A → Data) → ((xs : List A) → has_float (one xs) ≡ false) → (xs : List A) {ms : Members} → Whole ms → Whole (put_list key one xs ms)
with_list key one p xs {ms} w = record { is = whole_put_list key one p xs ms w.is }

with_flag : (key : Line) (b : Bool) {ms : Members} → Whole ms → Whole (put_flag key b ms)
with_flag key b {ms} w = record { is = whole_put_flag key b ms w.is }

no_more : Whole no_members
no_more = record { is = refl }

-- ---- parts of a sheet

whole_int : (z : ℤ) → has_float (int_data z) ≡ false
whole_int (pos n) = refl
whole_int (negsuc n) = refl

whole_value : (v : Value) → has_float (value_data v) ≡ false
whole_value (Value.Int z) = whole_int z
whole_value (Value.Text t) = refl

whole_given : (g : Given) → has_float (given_data g) ≡ false
whole_given (Given.Copy n) = refl
whole_given (Given.Just v) = whole_value v

whole_expr : (fs : List Initial) (e : Expr) → has_float (expr_data fs e) ≡ false
unfolding expr_data
whole_expr fs (constant z) = whole_int z
whole_expr fs (field k) = refl
whole_expr fs (argument n) = refl
whole_expr fs (sum e f) = whole_three false _ _ refl (whole_expr fs e) (whole_expr fs f)
whole_expr fs (difference e f) = whole_three false _ _ refl (whole_expr fs e) (whole_expr fs f)
whole_expr fs (product e f) = whole_three false _ _ refl (whole_expr fs e) (whole_expr fs f)

whole_guards : (fs : List Initial) (gs : List Guard) → has_float (guards_data fs gs) ≡ false
whole_guards fs gs = whole_list (guard_data fs) (λ g. whole_three false _ _ refl (whole_expr fs (seen g.left)) (whole_expr fs (seen g.right))) gs

whole_sets : (fs : List Initial) (ss : List Set) → has_float (sets_data fs ss) ≡ false
whole_sets fs ss = whole_named (λ (s : Set). field_name fs s.field) (λ s. expr_data fs (seen s.value)) (λ s. whole_expr fs (seen s.value)) ss

whole_fields : (fs : List Initial) → has_float (fields_data fs) ≡ false
whole_fields fs = whole_named (λ (f : Initial). f.name) (λ f. int_data f.value) (λ f. whole_int f.value) fs

whole_rule : (fs : List Initial) (r : Rule) → has_float (rule_data fs r) ≡ false
unfolding rule_data
whole_rule fs r = (with_flag (codes "announce") r.announce (with_list (codes "sets") (sets_data fs) (whole_sets fs) r.sets (with_list (codes "guards") (guards_data fs) (whole_guards fs) r.guards no_more))).is

whole_rules : (r : Rules) → has_float (rules_data r) ≡ false
unfolding rules_data
whole_rules r =
    (with_member (codes "on") (named_data (λ (x : Rule). x.kind) (rule_data r.fields) r.rules) (whole_named (λ (x : Rule). x.kind) (rule_data r.fields) (whole_rule r.fields) r.rules)
    (with_member (codes "fields") (fields_data r.fields) (whole_fields r.fields) no_more)).is

whole_template : (t : Template) → has_float (template_data t) ≡ false
unfolding template_data
whole_template t = whole_three false false _ refl refl (whole_named (λ (g : GivenField). g.name) (λ g. given_data g.given) (λ g. whole_given g.given) t.fields)

whole_params : (ps : List Param) → has_float (params_data ps) ≡ false
whole_params ps = whole_named (λ (p : Param). p.name) (λ p. string (kind_text p.kind)) (λ p. refl) ps

whole_command : (fs : List Initial) (c : Command) → has_float (command_data fs c) ≡ false
unfolding command_data
whole_command fs c =
    (with_member (codes "events") (list_data template_data c.events) (whole_list template_data whole_template c.events)
    (with_member (codes "guards") (guards_data fs c.guards) (whole_guards fs c.guards) (with_member (codes "params") (params_data c.params) (whole_params c.params) no_more))).is

whole_act : (a : Act) → has_float (act_data a) ≡ false
unfolding act_data
whole_act (Act.Rename old new r) = refl
whole_act (Act.Default name value r) = whole_three false _ _ refl (whole_value value) refl
whole_act (Act.Retype kind r) = refl
whole_act (Act.Split parts) = neither (has_float (list_data template_data parts)) false (whole_list template_data whole_template parts) refl
whole_act Act.Remove = refl

whole_upcaster : (u : Upcaster) → has_float (upcaster_data u) ≡ false
unfolding upcaster_data
whole_upcaster u = (with_member (codes "do") (act_data u.act) (whole_act u.act) (with_member (codes "from") (two_data (string u.kind) (small_data u.revision)) refl no_more)).is

whole_key : (k : Source) → has_float (key_data k) ≡ false
whole_key Source.Aggregate = refl
whole_key (Source.Property n) = refl

whole_from : (k : Source) → has_float (from_data k) ≡ false
whole_from Source.Aggregate = refl
whole_from (Source.Property n) = refl

whole_associations : (xs : List Association) → has_float (list_data association_data xs) ≡ false
whole_associations xs = whole_list association_data (λ a. neither _ _ (whole_key a.key) (neither _ false (whole_from a.from) refl)) xs

whole_dispatch : (s : Dispatch) → has_float (dispatch_data s) ≡ false
whole_dispatch s = whole_three false _ _ refl (whole_from s.target) (whole_named (λ (p : GivenParam). p.name) (λ p. given_data p.given) (λ p. whole_given p.given) s.params)

whole_changes : (fs : List Initial) (h : Handler) → Whole (changes_data fs h)
unfolding changes_data
whole_changes fs h =
    with_list (codes "dissociate") (list_data association_data) whole_associations h.dissociate (with_list (codes "associate") (list_data association_data) whole_associations h.associate
    (with_list (codes "sets") (sets_data fs) (whole_sets fs) h.sets (with_list (codes "guards") (guards_data fs) (whole_guards fs) h.guards no_more)))

whole_handler : (fs : List Initial) (h : Handler) → has_float (handler_data fs h) ≡ false
unfolding handler_data
whole_handler fs h =
    (with_member (codes "by") (key_data h.by) (whole_key h.by) (with_flag (codes "end") h.end (with_flag (codes "start") h.start
    (with_list (codes "send") (list_data dispatch_data) (whole_list dispatch_data whole_dispatch) h.send (whole_changes fs h))))).is

whole_saga : (s : SagaRules) → has_float (saga_data s) ≡ false
unfolding saga_data
whole_saga s =
    (with_member (codes "on") (named_data (λ (h : Handler). h.kind) (handler_data s.fields) s.handlers) (whole_named (λ (h : Handler). h.kind) (handler_data s.fields) (whole_handler s.fields) s.handlers)
    (with_member (codes "fields") (fields_data s.fields) (whole_fields s.fields) no_more)).is

whole_head : (s : Sheet) → Whole (head_data s)
unfolding head_data
whole_head s =
    with_member (codes "aggregate") (rules_data s.aggregate) (whole_rules s.aggregate) (with_member (codes "upcast") (list_data upcaster_data s.chain) (whole_list upcaster_data whole_upcaster s.chain)
    (with_member (codes "revision") (small_data s.revision) refl (with_member (codes "sheet") (string s.name) refl no_more)))

pub sheet_whole : (s : Sheet) → has_float (sheet_data s) ≡ false
unfolding sheet_data
sheet_whole s =
    (with_member (codes "sagas") (named_data (λ (x : NamedSaga). x.name) (λ x. saga_data x.rules) s.sagas) (whole_named (λ (x : NamedSaga). x.name) (λ x. saga_data x.rules) (λ x. whole_saga x.rules) s.sagas)
    (with_member (codes "projections") (named_data (λ (p : NamedRules). p.name) (λ p. rules_data p.rules) s.projections) (whole_named (λ (p : NamedRules). p.name) (λ p. rules_data p.rules) (λ p. whole_rules p.rules) s.projections)
    (with_member (codes "commands") (named_data (λ (c : NamedCommand). c.name) (λ c. command_data s.aggregate.fields c.command) s.commands) (whole_named (λ (c : NamedCommand). c.name) (λ c. command_data s.aggregate.fields c.command) (λ c. whole_command s.aggregate.fields c.command) s.commands) (whole_head s)))).is
