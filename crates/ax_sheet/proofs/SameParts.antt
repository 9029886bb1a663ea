-- What is written for expressions, guards, sets, templates, parameters, acts, associations and dispatches is the JSON that they were read from.
use Rattle.std.proofs.Common.{◌≡◌, ◌+◌, ◌^◌, ℕ, zero, suc, Bool, true, false, ◌&&◌, List, [], ◌∷◌, length, codes, Option, Some, None, option_map, nat_lt, refl, sym, ap, ◌∙◌, arith}
use Rattle.std.proofs.lemmas.Bool.Decides.{nat_tests}
use Rattle.std.proofs.lemmas.Slice.Eq.{bytes_eq-Decides}
use Rattle.std.specs.Prelude.{if◌then◌else◌, ◌==◌, slice_get, nat_le}
use Rattle.std.specs.Str.{bytes_eq}
use Rattle.serde_json.specs.Data.{Data, null, boolean, number, string, array, object, Items, no_items, item, Members, no_members, member}
use Rattle.serde_json.specs.Find.{as_str, as_array, as_object}
use Rattle.serde_json.specs.View.{items_of}
use Rattle.ax_values.specs.Grammar.{Name, Line, ◌>>=◌, when, name_in, is_content, after_front}
use Rattle.ax_values.specs.declared.value.Value.{Value}
use Rattle.ax_values.specs.declared.given.Given.{Given}
use Rattle.ax_laws.proofs.Tests.{both}
use Rattle.ax_laws.proofs.Options.{some-is}
use Rattle.ax_values.proofs.Options.{when-some, then-some, map-some}
use Rattle.ax_rules.specs.Nodes.{expr_of as seen}
use Rattle.ax_rules.specs.declared.expr.Expr.{Expr}
use Rattle.ax_rules.specs.declared.guard.Test.{Test}
use Rattle.ax_rules.specs.declared.guard.Guard.{Guard}
use Rattle.ax_rules.specs.declared.rule.Set.{Set}
use Rattle.ax_rules.specs.declared.rules.Initial.{Initial}
use Rattle.ax_rules.specs.declared.saga_rules.ParamKind.{ParamKind}
use Rattle.ax_rules.specs.declared.saga_rules.Source.{Source}
use Rattle.ax_rules.specs.declared.saga_rules.Association.{Association}
use Rattle.ax_rules.specs.declared.saga_rules.GivenParam.{GivenParam}
use Rattle.ax_rules.specs.declared.saga_rules.Dispatch.{Dispatch}
use Rattle.ax_upcast.specs.declared.event.GivenField.{GivenField}
use Rattle.ax_upcast.specs.declared.event.Template.{Template}
use Rattle.ax_upcast.specs.declared.upcaster.Act.{Act}
use Rattle.ax_sheet_rules.specs.Members.{int_of, small_of, name_of, list_of, only_item, two_items, three_items, pair_of, triple_of, named_of}
use Rattle.ax_sheet_rules.specs.Names.{anything, nothing}
use Rattle.ax_sheet_parts.specs.Sheet.{are_parts}
use Rattle.ax_sheet_parts.specs.declared.params.Param.{Param}
use Rattle.ax_sheet_parts.specs.declared.parts.NamedCommand.{NamedCommand}
use Rattle.ax_sheet_rules.specs.Shape.{place_from, place_of, copied, leaf_by, leaf_of, operation_of, expr_by, expr_of, most_deep, guard_of, guards_of, set_of, sets_of, most_fields, initial_of, fields_of, given_text, given_of, given_field_of, template_of, templates_of, kind_of, param_of, most_params, params_of, value_of_given, value_of, rename_of, default_of, retype_of, split_of, remove_of, act_in, act_of, key_in, from_in, key_of, from_of, association_of, suits, given_param_of, each_param, given_params_of, command_in, dispatch_of}
use Rattle.ax_sheet_writing.specs.Text.{two_data, three_data, list_data, int_data, small_data, value_data, given_data, name_or_none, field_name, expr_data, test_text, guard_data, guards_data, sets_data, fields_data, given_fields_data, template_data, kind_text, params_data, act_data, key_data, from_data, association_data, given_params_data, dispatch_data}
use Rattle.ax_sheet_rules.proofs.Apart.{guard_parts}
use Rattle.ax_sheet.proofs.Proper.{leads, proper, items_proper, members_proper}
use Rattle.ax_sheet.proofs.Same.{string_is, array_is, object_is, int_same, small_same, name_is, name_same, list_same, two_same, three_same, two_parts, two_inside, three_parts, three_inside, plain, put_in_order, named_same}

three_alike : (a b c d e f : Data) → a ≡ d → b ≡ e → c ≡ f → three_data a b c ≡ three_data d e f
three_alike a b c d e f p q r = ap (λ a. three_data a b c) p ∙ ap (λ b. three_data d b c) q ∙ ap (λ c. three_data d e c) r

two_alike : (a b c d : Data) → a ≡ c → b ≡ d → two_data a b ≡ two_data c d
two_alike a b c d p q = ap (λ a. two_data a b) p ∙ ap (λ b. two_data c b) q

-- ---- expressions

place_step : (b : Bool) (f : Initial) (all : List Initial) (k p : ℕ) (s : Line) (later : Option ℕ) → bytes_eq f.name s ≡ b → field_name all k ≡ f.name → (later ≡ Some p → field_name all p ≡ s) →
    (if b then Some k else later) ≡ Some p → field_name all p ≡ s
place_step true f all k p s later e here more h = ap (field_name all) (sym (some-is k p h)) ∙ here ∙ (bytes_eq-Decides f.name s).0 e
place_step false f all k p s later e here more h = more h

place_name : (all fs : List Initial) (k p : ℕ) (s : Line) → ((j : ℕ) → slice_get all (k + j) ≡ slice_get fs j) → place_from k fs s ≡ Some p → field_name all p ≡ s
place_name all [] k p s at h = cc
place_name all (f ∷ fs) k p s at h =
    let e : k ≡ k + 0 = omega arith in
    place_step (bytes_eq f.name s) f all k p s (place_from (suc k) fs s) refl (ap (λ k. name_or_none (slice_get all k)) e ∙ ap name_or_none (at 0))
    (λ g. place_name all fs (suc k) p s (λ j. let e : suc k + j ≡ k + suc j = omega arith in ap (slice_get all) e ∙ at (suc j)) g) h

place_same : (fs : List Initial) (s : Line) (p : ℕ) → place_of fs s ≡ Some p → field_name fs p ≡ s
place_same fs s p h = place_name fs fs 0 p s (λ j. let e : 0 + j ≡ j = omega arith in ap (slice_get fs) e) h

copied_same : (s : Line) (n : Name) → copied s ≡ Some n → 36 ∷ n ≡ s
copied_same [] n h = cc
copied_same (c ∷ cs) n h =
    let t = then-some (after_front (codes "$") (c ∷ cs)) name_in n h in
    let u = then-some (when (c == 36) cs) (after_front []) t.from t.held in
    let w = when-some (c == 36) cs u.from u.held in
    let here : (c == 36) ≡ true = w.0 in
    let e : c ≡ 36 = grind (arith, nat_tests, here) in
    ap (λ c. c ∷ n) (sym e) ∙ ap (λ n. c ∷ n) (sym (w.1 ∙ some-is u.from t.from u.gives ∙ name_is t.from n t.gives))

leaf_case : (takes : Name → Bool) (fs : List Initial) (s : Line) (p : Option ℕ) (m : Option Name) (x : Expr) → ((k : ℕ) → p ≡ Some k → field_name fs k ≡ s) → ((n : Name) → m ≡ Some n → 36 ∷ n ≡ s) →
    leaf_by takes p m ≡ Some x → expr_data fs (seen x) ≡ string s
unfolding expr_data
leaf_case takes fs s (Some k) m x at copy h = ap (λ x. expr_data fs (seen x)) (sym (some-is (Expr.Field k) x h)) ∙ ap string (at k refl)
leaf_case takes fs s None None x at copy h = cc
leaf_case takes fs s None (Some n) x at copy h = ap (λ x. expr_data fs (seen x)) (sym (when-some (takes n) (Expr.Arg n) x h).1) ∙ ap string (copy n refl)

leaf_same : (fs : List Initial) (takes : Name → Bool) (s : Line) (x : Expr) → leaf_of fs takes s ≡ Some x → expr_data fs (seen x) ≡ string s
leaf_same fs takes s x h = leaf_case takes fs s (place_of fs s) (copied s) x (place_same fs s) (copied_same s) h

operation_case : (a b c : Bool) (fs : List Initial) (op : Line) (e f x : Expr) → bytes_eq op (codes "+") ≡ a → bytes_eq op (codes "-") ≡ b → bytes_eq op (codes "*") ≡ c →
    (if a then Some (Expr.Add (seen e) (seen f)) else (if b then Some (Expr.Sub (seen e) (seen f)) else when c (Expr.Mul (seen e) (seen f)))) ≡ Some x →
    expr_data fs (seen x) ≡ three_data (string op) (expr_data fs (seen e)) (expr_data fs (seen f))
unfolding expr_data
operation_case true b c fs op e f x p q r h =
    ap (λ x. expr_data fs (seen x)) (sym (some-is _ x h)) ∙ ap (λ w. three_data (string w) (expr_data fs (seen e)) (expr_data fs (seen f))) (sym ((bytes_eq-Decides op (codes "+")).0 p))
operation_case false true c fs op e f x p q r h =
    ap (λ x. expr_data fs (seen x)) (sym (some-is _ x h)) ∙ ap (λ w. three_data (string w) (expr_data fs (seen e)) (expr_data fs (seen f))) (sym ((bytes_eq-Decides op (codes "-")).0 q))
operation_case false false true fs op e f x p q r h =
    ap (λ x. expr_data fs (seen x)) (sym (some-is _ x h)) ∙ ap (λ w. three_data (string w) (expr_data fs (seen e)) (expr_data fs (seen f))) (sym ((bytes_eq-Decides op (codes "*")).0 r))
operation_case false false false fs op e f x p q r h = cc

operation_same : (side : Data → Option Expr) (fs : List Initial) → ((d : Data) (e : Expr) → proper d ≡ true → side d ≡ Some e → expr_data fs (seen e) ≡ d) → (ds : Items) (x : Expr) → items_proper ds ≡ true →
    operation_of side ds ≡ Some x → expr_data fs (seen x) ≡ array ds
operation_same side fs same ds x p h =
    let t = then-some (three_items ds) _ x h in
    let op = then-some (as_str t.from.first) _ x t.gives in
    let e = then-some (side t.from.second) _ x op.gives in
    let f = then-some (side t.from.third) _ x e.gives in
    let parts = three_inside ds t.from p t.held in
    operation_case _ _ _ fs op.from e.from f.from x refl refl refl f.gives
    ∙ three_alike (string op.from) (expr_data fs (seen e.from)) (expr_data fs (seen f.from)) t.from.first t.from.second t.from.third (string_is t.from.first op.from op.held)
    (same t.from.second e.from parts.second e.held) (same t.from.third f.from parts.third f.held)
    ∙ parts.is

expr_case : (leaf : Line → Option Expr) (inner : Items → Option Expr) (fs : List Initial) (x : Expr) → ((s : Line) → leaf s ≡ Some x → expr_data fs (seen x) ≡ string s) →
    ((ds : Items) → items_proper ds ≡ true → inner ds ≡ Some x → expr_data fs (seen x) ≡ array ds) → (d : Data) → proper d ≡ true → expr_by leaf inner (as_str d) (as_array d) (int_of d) ≡ Some x → expr_data fs (seen x) ≡ d
unfolding expr_data
expr_case leaf inner fs x p q null r h = cc
expr_case leaf inner fs x p q (boolean b) r h = cc
expr_case leaf inner fs x p q (number n) r h =
    let z = map-some (int_of (number n)) Expr.Int x h in ap (λ x. expr_data fs (seen x)) (sym z.gives) ∙ int_same (number n) z.from r z.held
expr_case leaf inner fs x p q (string s) r h = p s h
expr_case leaf inner fs x p q (array ds) r h = q ds r h
expr_case leaf inner fs x p q (object ms) r h = cc

pub expr_same : (fs : List Initial) (takes : Name → Bool) (room : ℕ) (d : Data) (x : Expr) → proper d ≡ true → expr_of fs takes room d ≡ Some x → expr_data fs (seen x) ≡ d
unfolding expr_of
expr_same fs takes zero d x p h = cc
expr_same fs takes (suc room) d x p h =
    expr_case (leaf_of fs takes) (operation_of (λ e. expr_of fs takes room e)) fs x (λ s e. leaf_same fs takes s x e)
    (λ ds q e. operation_same (λ e. expr_of fs takes room e) fs (λ d y q e. expr_same fs takes room d y q e) ds x q e) d p h

-- ---- guards and sets

test_case : (a b c d : Bool) (w : Line) (t : Test) → bytes_eq w (codes "=") ≡ a → bytes_eq w (codes "!=") ≡ b → bytes_eq w (codes "<") ≡ c → bytes_eq w (codes "<=") ≡ d →
    (if a then Some Test.Equal else (if b then Some Test.Differ else (if c then Some Test.Less else when d Test.AtMost))) ≡ Some t → test_text t ≡ w
test_case true b c d w t p q r s h = ap test_text (sym (some-is Test.Equal t h)) ∙ sym ((bytes_eq-Decides w (codes "=")).0 p)
test_case false true c d w t p q r s h = ap test_text (sym (some-is Test.Differ t h)) ∙ sym ((bytes_eq-Decides w (codes "!=")).0 q)
test_case false false true d w t p q r s h = ap test_text (sym (some-is Test.Less t h)) ∙ sym ((bytes_eq-Decides w (codes "<")).0 r)
test_case false false false true w t p q r s h = ap test_text (sym (some-is Test.AtMost t h)) ∙ sym ((bytes_eq-Decides w (codes "<=")).0 s)
test_case false false false false w t p q r s h = cc

guard_same : (fs : List Initial) (takes : Name → Bool) (d : Data) (g : Guard) → proper d ≡ true → guard_of fs takes d ≡ Some g → guard_data fs g ≡ d
guard_same fs takes d g p h =
    let g = guard_parts fs takes d g h in
    let parts = three_parts d g.triple p g.is_triple in
    ap (guard_data fs) g.made
    ∙ three_alike (string (test_text g.test)) (expr_data fs (seen g.left)) (expr_data fs (seen g.right)) g.triple.first g.triple.second g.triple.third
    (ap string (test_case _ _ _ _ g.word g.test refl refl refl refl g.is_test) ∙ string_is g.triple.first g.word g.is_word)
    (expr_same fs takes most_deep g.triple.second g.left parts.second g.is_left) (expr_same fs takes most_deep g.triple.third g.right parts.third g.is_right)
    ∙ parts.is

pub guards_same : (fs : List Initial) (takes : Name → Bool) (d : Data) (gs : List Guard) → proper d ≡ true → guards_of fs takes d ≡ Some gs → guards_data fs gs ≡ d
unfolding guards_of
guards_same fs takes d gs p h =
    let l = then-some (list_of (guard_of fs takes) d) _ gs h in
    let w = when-some (nat_lt (length l.from) (2 ^ 32)) l.from gs l.gives in
    list_same (guard_of fs takes) (guard_data fs) (guard_same fs takes) d gs p (l.held ∙ ap Some w.1)

set_named : (fs : List Initial) (takes : Name → Bool) (n : Name) (d : Data) (s : Set) → set_of fs takes n d ≡ Some s → field_name fs s.field ≡ n
unfolding set_of
set_named fs takes n d s h =
    let k = then-some (place_of fs n) _ s h in
    let e = map-some (expr_of fs takes most_deep d) _ s k.gives in
    ap (λ (s : Set). field_name fs s.field) (sym e.gives) ∙ place_same fs n k.from k.held

set_same : (fs : List Initial) (takes : Name → Bool) (n : Name) (d : Data) (s : Set) → proper d ≡ true → set_of fs takes n d ≡ Some s → expr_data fs (seen s.value) ≡ d
unfolding set_of
set_same fs takes n d s p h =
    let k = then-some (place_of fs n) _ s h in
    let e = map-some (expr_of fs takes most_deep d) _ s k.gives in
    ap (λ (s : Set). expr_data fs (seen s.value)) (sym e.gives) ∙ expr_same fs takes most_deep d e.from p e.held

pub sets_same : (fs : List Initial) (takes : Name → Bool) (d : Data) (ss : List Set) → proper d ≡ true → sets_of fs takes d ≡ Some ss → sets_data fs ss ≡ d
sets_same fs takes d ss p h =
    named_same (set_of fs takes) (λ (s : Set). field_name fs s.field) (λ s. expr_data fs (seen s.value)) (set_named fs takes) (set_same fs takes) d ss p h

initial_named : (n : Name) (d : Data) (f : Initial) → initial_of n d ≡ Some f → f.name ≡ n
unfolding initial_of
initial_named n d f h = let z = map-some (int_of d) _ f h in ap (λ (f : Initial). f.name) (sym z.gives)

initial_same : (n : Name) (d : Data) (f : Initial) → proper d ≡ true → initial_of n d ≡ Some f → int_data f.value ≡ d
unfolding initial_of
initial_same n d f p h = let z = map-some (int_of d) _ f h in ap (λ (f : Initial). int_data f.value) (sym z.gives) ∙ int_same d z.from p z.held

pub fields_same : (d : Data) (fs : List Initial) → proper d ≡ true → fields_of d ≡ Some fs → fields_data fs ≡ d
unfolding fields_of
fields_same d fs p h =
    let l = then-some (named_of initial_of d) _ fs h in
    let w = when-some (nat_le (length l.from) most_fields) l.from fs l.gives in
    named_same initial_of (λ (f : Initial). f.name) (λ f. int_data f.value) initial_named initial_same d fs p (l.held ∙ ap Some w.1)

-- ---- given values

given_case : (takes : Name → Bool) (s : Line) (m : Option Name) (g : Given) → ((n : Name) → m ≡ Some n → 36 ∷ n ≡ s) → given_text takes s m ≡ Some g → given_data g ≡ string s
given_case takes s (Some n) g copy h = ap given_data (sym (when-some (takes n) (Given.Copy n) g h).1) ∙ ap string (copy n refl)
given_case takes s None g copy h = ap given_data (sym (when-some (is_content s) (Given.Just (Value.Text s)) g h).1)

given_same : (takes : Name → Bool) (d : Data) (g : Given) → proper d ≡ true → given_of takes d ≡ Some g → given_data g ≡ d
unfolding given_of
given_same takes null g p h = cc
given_same takes (boolean b) g p h = cc
given_same takes (number n) g p h =
    let z = map-some (int_of (number n)) (λ z. Given.Just (Value.Int z)) g h in ap given_data (sym z.gives) ∙ int_same (number n) z.from p z.held
given_same takes (string s) g p h = given_case takes s (copied s) g (copied_same s) h
given_same takes (array ds) g p h = cc
given_same takes (object ms) g p h = cc

given_field_named : (takes : Name → Bool) (n : Name) (d : Data) (f : GivenField) → given_field_of takes n d ≡ Some f → f.name ≡ n
unfolding given_field_of
given_field_named takes n d f h = let g = map-some (given_of takes d) _ f h in ap (λ (f : GivenField). f.name) (sym g.gives)

given_field_same : (takes : Name → Bool) (n : Name) (d : Data) (f : GivenField) → proper d ≡ true → given_field_of takes n d ≡ Some f → given_data f.given ≡ d
unfolding given_field_of
given_field_same takes n d f p h = let g = map-some (given_of takes d) _ f h in ap (λ (f : GivenField). given_data f.given) (sym g.gives) ∙ given_same takes d g.from p g.held

template_same : (takes : Name → Bool) (d : Data) (x : Template) → proper d ≡ true → template_of takes d ≡ Some x → template_data x ≡ d
unfolding template_of template_data
template_same takes d x p h =
    let t = then-some (triple_of d) _ x h in
    let kind = then-some (name_of t.from.first) _ x t.gives in
    let revision = then-some (small_of t.from.second) _ x kind.gives in
    let fields = then-some (named_of (given_field_of takes) t.from.third) _ x revision.gives in
    let parts = three_parts d t.from p t.held in
    ap template_data (sym (some-is _ x fields.gives))
    ∙ three_alike (string kind.from) (small_data revision.from) (given_fields_data fields.from) t.from.first t.from.second t.from.third
    (name_same t.from.first kind.from kind.held) (small_same t.from.second revision.from parts.second revision.held)
    (named_same (given_field_of takes) (λ (g : GivenField). g.name) (λ g. given_data g.given) (given_field_named takes) (given_field_same takes) t.from.third fields.from parts.third fields.held)
    ∙ parts.is

pub templates_same : (takes : Name → Bool) (d : Data) (xs : List Template) → proper d ≡ true → templates_of takes d ≡ Some xs → list_data template_data xs ≡ d
unfolding templates_of
templates_same takes d xs p h =
    let l = then-some (list_of (template_of takes) d) _ xs h in
    let w = when-some (are_parts l.from) l.from xs l.gives in
    list_same (template_of takes) template_data (template_same takes) d xs p (l.held ∙ ap Some w.1)

-- ---- parameters

kind_case : (a b : Bool) (w : Line) (k : ParamKind) → bytes_eq w (codes "int") ≡ a → bytes_eq w (codes "text") ≡ b → (if a then Some ParamKind.Int else when b ParamKind.Text) ≡ Some k → kind_text k ≡ w
kind_case true b w k p q h = ap kind_text (sym (some-is ParamKind.Int k h)) ∙ sym ((bytes_eq-Decides w (codes "int")).0 p)
kind_case false true w k p q h = ap kind_text (sym (some-is ParamKind.Text k h)) ∙ sym ((bytes_eq-Decides w (codes "text")).0 q)
kind_case false false w k p q h = cc

param_named : (n : Name) (d : Data) (x : Param) → param_of n d ≡ Some x → x.name ≡ n
unfolding param_of
param_named n d x h =
    let w = then-some (as_str d) _ x h in
    let k = map-some (kind_of w.from) _ x w.gives in
    ap (λ (x : Param). x.name) (sym k.gives)

param_same : (n : Name) (d : Data) (x : Param) → proper d ≡ true → param_of n d ≡ Some x → string (kind_text x.kind) ≡ d
unfolding param_of
param_same n d x p h =
    let w = then-some (as_str d) _ x h in
    let k = map-some (kind_of w.from) _ x w.gives in
    ap (λ (x : Param). string (kind_text x.kind)) (sym k.gives) ∙ ap string (kind_case _ _ w.from k.from refl refl k.held) ∙ string_is d w.from w.held

pub params_same : (d : Data) (xs : List Param) → proper d ≡ true → params_of d ≡ Some xs → params_data xs ≡ d
unfolding params_of
params_same d xs p h =
    let l = then-some (named_of param_of d) _ xs h in
    let w = when-some (nat_le (length l.from) most_params) l.from xs l.gives in
    named_same param_of (λ (x : Param). x.name) (λ x. string (kind_text x.kind)) param_named param_same d xs p (l.held ∙ ap Some w.1)

-- ---- acts

value_case : (g : Given) (v : Value) → value_of_given g ≡ Some v → value_data v ≡ given_data g
value_case (Given.Just w) v h = ap value_data (sym (some-is w v h))
value_case (Given.Copy n) v h = cc

value_same : (d : Data) (v : Value) → proper d ≡ true → value_of d ≡ Some v → value_data v ≡ d
unfolding value_of
value_same d v p h = let g = then-some (given_of nothing d) value_of_given v h in value_case g.from v g.gives ∙ given_same nothing d g.from p g.held

-- an act stands behind its word
abbrev Behind : Line → Items → Act → Type 0
Behind w ds a = act_data a ≡ array (item (string w) ds)

behind_three : (w : Line) (a b c d e f : Data) (ds : Items) → a ≡ d → b ≡ e → c ≡ f → items_of (d ∷ e ∷ f ∷ []) ≡ ds → array (items_of (string w ∷ a ∷ b ∷ c ∷ [])) ≡ array (item (string w) ds)
behind_three w a b c d e f ds p q r s =
    ap (λ a. array (items_of (string w ∷ a ∷ b ∷ c ∷ []))) p ∙ ap (λ b. array (items_of (string w ∷ d ∷ b ∷ c ∷ []))) q ∙ ap (λ c. array (items_of (string w ∷ d ∷ e ∷ c ∷ []))) r
    ∙ ap (λ ds. array (item (string w) ds)) s

rename_same : (ds : Items) (a : Act) → items_proper ds ≡ true → rename_of ds ≡ Some a → Behind (codes "rename") ds a
unfolding rename_of act_data
rename_same ds a p h =
    let t = then-some (three_items ds) _ a h in
    let old = then-some (name_of t.from.first) _ a t.gives in
    let new = then-some (name_of t.from.second) _ a old.gives in
    let r = then-some (small_of t.from.third) _ a new.gives in
    let parts = three_inside ds t.from p t.held in
    ap act_data (sym (some-is _ a r.gives))
    ∙ behind_three (codes "rename") (string old.from) (string new.from) (small_data r.from) t.from.first t.from.second t.from.third ds (name_same t.from.first old.from old.held)
    (name_same t.from.second new.from new.held) (small_same t.from.third r.from parts.third r.held) (three_same ds t.from t.held)

default_same : (ds : Items) (a : Act) → items_proper ds ≡ true → default_of ds ≡ Some a → Behind (codes "default") ds a
unfolding default_of act_data
default_same ds a p h =
    let t = then-some (three_items ds) _ a h in
    let name = then-some (name_of t.from.first) _ a t.gives in
    let value = then-some (value_of t.from.second) _ a name.gives in
    let r = then-some (small_of t.from.third) _ a value.gives in
    let parts = three_inside ds t.from p t.held in
    ap act_data (sym (some-is _ a r.gives))
    ∙ behind_three (codes "default") (string name.from) (value_data value.from) (small_data r.from) t.from.first t.from.second t.from.third ds (name_same t.from.first name.from name.held)
    (value_same t.from.second value.from parts.second value.held) (small_same t.from.third r.from parts.third r.held) (three_same ds t.from t.held)

behind_two : (w : Line) (a b d e : Data) (ds : Items) → a ≡ d → b ≡ e → items_of (d ∷ e ∷ []) ≡ ds → array (items_of (string w ∷ a ∷ b ∷ [])) ≡ array (item (string w) ds)
behind_two w a b d e ds p q s =
    ap (λ a. array (items_of (string w ∷ a ∷ b ∷ []))) p ∙ ap (λ b. array (items_of (string w ∷ d ∷ b ∷ []))) q ∙ ap (λ ds. array (item (string w) ds)) s

retype_same : (ds : Items) (a : Act) → items_proper ds ≡ true → retype_of ds ≡ Some a → Behind (codes "retype") ds a
unfolding retype_of act_data
retype_same ds a p h =
    let t = then-some (two_items ds) _ a h in
    let kind = then-some (name_of t.from.first) _ a t.gives in
    let r = then-some (small_of t.from.second) _ a kind.gives in
    let parts = two_inside ds t.from p t.held in
    ap act_data (sym (some-is _ a r.gives))
    ∙ behind_two (codes "retype") (string kind.from) (small_data r.from) t.from.first t.from.second ds (name_same t.from.first kind.from kind.held)
    (small_same t.from.second r.from parts.second r.held) (two_same ds t.from t.held)

only_same : (ds : Items) (d : Data) → only_item ds ≡ Some d → item d no_items ≡ ds
only_same no_items d h = cc
only_same (item a no_items) d h = ap (λ d. item d no_items) (sym (some-is a d h))
only_same (item a (item b ds)) d h = cc

split_same : (ds : Items) (a : Act) → items_proper ds ≡ true → split_of ds ≡ Some a → Behind (codes "split") ds a
unfolding split_of act_data
split_same ds a p h =
    let d = then-some (only_item ds) _ a h in
    let parts = map-some (templates_of anything d.from) Act.Split a d.gives in
    let is = only_same ds d.from d.held in
    let q = (both (proper d.from) true (ap items_proper is ∙ p)).0 in
    ap act_data (sym parts.gives) ∙ ap (λ e. array (item (string (codes "split")) (item e no_items))) (templates_same anything d.from parts.from q parts.held) ∙ ap (λ ds. array (item (string (codes "split")) ds)) is

remove_same : (ds : Items) (a : Act) → remove_of ds ≡ Some a → Behind (codes "remove") ds a
unfolding act_data
remove_same no_items a h = ap act_data (sym (some-is Act.Remove a h))
remove_same (item d ds) a h = cc

behind_word : (v w : Line) (ds : Items) (a : Act) → bytes_eq w v ≡ true → Behind v ds a → Behind w ds a
behind_word v w ds a e b = b ∙ ap (λ w. array (item (string w) ds)) (sym ((bytes_eq-Decides w v).0 e))

act_case : (r d y s m : Bool) (w : Line) (ds : Items) (a : Act) → items_proper ds ≡ true → bytes_eq w (codes "rename") ≡ r → bytes_eq w (codes "default") ≡ d → bytes_eq w (codes "retype") ≡ y →
    bytes_eq w (codes "split") ≡ s → bytes_eq w (codes "remove") ≡ m →
    (if r then rename_of ds else (if d then default_of ds else (if y then retype_of ds else (if s then split_of ds else (if m then remove_of ds else None))))) ≡ Some a → Behind w ds a
act_case true d y s m w ds a p e f g i j h = behind_word (codes "rename") w ds a e (rename_same ds a p h)
act_case false true y s m w ds a p e f g i j h = behind_word (codes "default") w ds a f (default_same ds a p h)
act_case false false true s m w ds a p e f g i j h = behind_word (codes "retype") w ds a g (retype_same ds a p h)
act_case false false false true m w ds a p e f g i j h = behind_word (codes "split") w ds a i (split_same ds a p h)
act_case false false false false true w ds a p e f g i j h = behind_word (codes "remove") w ds a j (remove_same ds a h)
act_case false false false false false w ds a p e f g i j h = cc

act_inside : (ds : Items) (a : Act) → items_proper ds ≡ true → act_in ds ≡ Some a → act_data a ≡ array ds
act_inside no_items a p h = cc
act_inside (item d ds) a p h =
    let w = then-some (as_str d) _ a h in
    act_case _ _ _ _ _ w.from ds a (both (proper d) (items_proper ds) p).1 refl refl refl refl refl w.gives ∙ ap (λ d. array (item d ds)) (string_is d w.from w.held)

pub act_same : (d : Data) (a : Act) → proper d ≡ true → act_of d ≡ Some a → act_data a ≡ d
unfolding act_of
act_same d a p h =
    let ds = then-some (as_array d) act_in a h in
    let is = array_is d ds.from ds.held in
    act_inside ds.from a (ap proper is ∙ p) ds.gives ∙ is

-- ---- associations and dispatches

key_case : (b : Bool) (w : Line) (k : Source) → bytes_eq w (codes "@") ≡ b → (if b then Some Source.Aggregate else option_map Source.Property (name_in w)) ≡ Some k → key_data k ≡ string w
key_case true w k e h = ap key_data (sym (some-is Source.Aggregate k h)) ∙ ap string (sym ((bytes_eq-Decides w (codes "@")).0 e))
key_case false w k e h = let n = map-some (name_in w) Source.Property k h in ap key_data (sym n.gives) ∙ ap string (sym (name_is w n.from n.held))

pub key_same : (d : Data) (k : Source) → proper d ≡ true → key_of d ≡ Some k → key_data k ≡ d
unfolding key_of
key_same d k p h = let w = then-some (as_str d) key_in k h in key_case _ w.from k refl w.gives ∙ string_is d w.from w.held

from_case : (b : Bool) (w : Line) (k : Source) → bytes_eq w (codes "@") ≡ b → (if b then Some Source.Aggregate else option_map Source.Property (copied w)) ≡ Some k → from_data k ≡ string w
from_case true w k e h = ap from_data (sym (some-is Source.Aggregate k h)) ∙ ap string (sym ((bytes_eq-Decides w (codes "@")).0 e))
from_case false w k e h = let n = map-some (copied w) Source.Property k h in ap from_data (sym n.gives) ∙ ap string (copied_same w n.from n.held)

from_same : (d : Data) (k : Source) → from_of d ≡ Some k → from_data k ≡ d
unfolding from_of
from_same d k h = let w = then-some (as_str d) from_in k h in from_case _ w.from k refl w.gives ∙ string_is d w.from w.held

association_same : (d : Data) (a : Association) → proper d ≡ true → association_of d ≡ Some a → association_data a ≡ d
unfolding association_of
association_same d a p h =
    let t = then-some (pair_of d) _ a h in
    let key = then-some (key_of t.from.first) _ a t.gives in
    let from = then-some (from_of t.from.second) _ a key.gives in
    let parts = two_parts d t.from p t.held in
    ap association_data (sym (some-is _ a from.gives))
    ∙ two_alike (key_data key.from) (from_data from.from) t.from.first t.from.second (key_same t.from.first key.from parts.first key.held) (from_same t.from.second from.from from.held)
    ∙ parts.is

pub associations_same : (d : Data) (xs : List Association) → proper d ≡ true → list_of association_of d ≡ Some xs → list_data association_data xs ≡ d
associations_same d xs p h = list_same association_of association_data association_same d xs p h

given_param_same : (q : Param) (k : Line) (d : Data) (x : GivenParam) → proper d ≡ true → given_param_of q k d ≡ Some x → (x.name ≡ k) × (given_data x.given ≡ d)
unfolding given_param_of
given_param_same q k d x p h =
    let g = then-some (when (bytes_eq q.name k) d >>= given_of anything) _ x h in
    let e = then-some (when (bytes_eq q.name k) d) (given_of anything) g.from g.held in
    let w = when-some (bytes_eq q.name k) d e.from e.held in
    let s = when-some (suits q.kind g.from) _ x g.gives in (
      ap (λ (x : GivenParam). x.name) (sym s.1) ∙ (bytes_eq-Decides q.name k).0 w.0,
      ap (λ (x : GivenParam). given_data x.given) (sym s.1) ∙ given_same anything d g.from p (ap (given_of anything) w.1 ∙ e.gives),
    )

each_param_same : (qs : List Param) (ms : Members) (xs : List GivenParam) → members_proper ms ≡ true → each_param qs ms ≡ Some xs → plain (λ (x : GivenParam). x.name) (λ x. given_data x.given) xs ≡ ms
each_param_same [] no_members xs p h = ap (plain (λ (x : GivenParam). x.name) (λ x. given_data x.given)) (sym (some-is [] xs h))
each_param_same [] (member k d ms) xs p h = cc
each_param_same (q ∷ qs) no_members xs p h = cc
each_param_same (q ∷ qs) (member k d ms) xs p h =
    let b = both (proper d) (leads k ms && members_proper ms) p in
    let c = both (leads k ms) (members_proper ms) b.1 in
    let x = then-some (given_param_of q k d) _ xs h in
    let ys = map-some (each_param qs ms) _ xs x.gives in
    let s = given_param_same q k d x.from b.0 x.held in
    let more = plain (λ (x : GivenParam). x.name) (λ x. given_data x.given) ys.from in
    ap (plain (λ (x : GivenParam). x.name) (λ x. given_data x.given)) (sym ys.gives) ∙ ap (λ k. member k (given_data x.from.given) more) s.0 ∙ ap (λ e. member k e more) s.1
    ∙ ap (member k d) (each_param_same qs ms ys.from c.1 ys.held)

given_params_same : (qs : List Param) (d : Data) (xs : List GivenParam) → proper d ≡ true → given_params_of qs d ≡ Some xs → given_params_data xs ≡ d
given_params_same qs d xs p h =
    let ms = then-some (as_object d) (each_param qs) xs h in
    let is = object_is d ms.from ms.held in
    let r = ap proper is ∙ p in
    ap object (put_in_order (λ (x : GivenParam). x.name) (λ x. given_data x.given) ms.from xs r (each_param_same qs ms.from xs r ms.gives)) ∙ is

found_case : (b : Bool) (x c : NamedCommand) (w : Line) (later : Option NamedCommand) → bytes_eq x.name w ≡ b → (later ≡ Some c → c.name ≡ w) → (if b then Some x else later) ≡ Some c → c.name ≡ w
found_case true x c w later e more h = ap (λ (c : NamedCommand). c.name) (sym (some-is x c h)) ∙ (bytes_eq-Decides x.name w).0 e
found_case false x c w later e more h = more h

command_found : (cs : List NamedCommand) (w : Line) (c : NamedCommand) → command_in cs w ≡ Some c → c.name ≡ w
command_found [] w c h = cc
command_found (x ∷ cs) w c h = found_case (bytes_eq x.name w) x c w (command_in cs w) refl (λ e. command_found cs w c e) h

dispatch_same : (commands : List NamedCommand) (d : Data) (x : Dispatch) → proper d ≡ true → dispatch_of commands d ≡ Some x → dispatch_data x ≡ d
unfolding dispatch_of
dispatch_same commands d x p h =
    let t = then-some (triple_of d) _ x h in
    let w = then-some (as_str t.from.first) _ x t.gives in
    let command = then-some (command_in commands w.from) _ x w.gives in
    let target = then-some (from_of t.from.second) _ x command.gives in
    let params = then-some (given_params_of command.from.command.params t.from.third) _ x target.gives in
    let parts = three_parts d t.from p t.held in
    ap dispatch_data (sym (some-is _ x params.gives))
    ∙ three_alike (string command.from.name) (from_data target.from) (given_params_data params.from) t.from.first t.from.second t.from.third
    (ap string (command_found commands w.from command.from command.held) ∙ string_is t.from.first w.from w.held)
    (from_same t.from.second target.from target.held) (given_params_same command.from.command.params t.from.third params.from parts.third params.held)
    ∙ parts.is

pub dispatches_same : (commands : List NamedCommand) (d : Data) (xs : List Dispatch) → proper d ≡ true → list_of (dispatch_of commands) d ≡ Some xs → list_data dispatch_data xs ≡ d
dispatches_same commands d xs p h = list_same (dispatch_of commands) dispatch_data (dispatch_same commands) d xs p h
