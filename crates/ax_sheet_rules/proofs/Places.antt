-- Field places in what is read are below the number of fields.
use Rattle.std.proofs.Common.{◌≡◌, ◌+◌, ◌<◌, ◌^◌, ℕ, zero, suc, Bool, true, false, List, [], ◌∷◌, length, IsTrue, codes, Option, Some, None, ℤ, nat_lt, refl, sym, ap, ◌∙◌, arith}
use Rattle.std.proofs.lemmas.Bool.Decides.{nat_tests}
use Rattle.std.specs.List.{list_all}
use Rattle.std.specs.Str.{bytes_eq}
use Rattle.serde_json.specs.Data.{Data, Items, no_items, item, Members, no_members, member}
use Rattle.serde_json.specs.Find.{as_str, as_array, as_object, get}
use Rattle.ax_values.specs.Grammar.{Name, Line, when, name_in}
use Rattle.ax_laws.proofs.Tests.{and-true}
use Rattle.ax_values.proofs.Options.{when-some, then-some, map-some}
use Rattle.ax_rules.specs.Expr.{expr_fits}
use Rattle.ax_rules.specs.Nodes.{expr_of as seen}
use Rattle.ax_rules.specs.Guards.{guard_fits}
use Rattle.ax_rules.specs.Rules.{set_fits, rule_fits}
use Rattle.ax_rules.specs.declared.expr.Expr.{Expr}
use Rattle.ax_rules.specs.declared.guard.Guard.{Guard}
use Rattle.ax_rules.specs.declared.rule.Set.{Set}
use Rattle.ax_rules.specs.declared.rule.Rule.{Rule}
use Rattle.ax_rules.specs.declared.rules.Initial.{Initial}
use Rattle.ax_sheet_rules.specs.Members.{each_item, each_member, list_of, named_of, three_items, int_of, wanted, or_empty}
use Rattle.ax_sheet_rules.specs.Names.{anything}
use Rattle.ax_sheet_rules.proofs.Apart.{guard_parts, rule_parts}
use Rattle.ax_sheet_rules.specs.Shape.{place_from, place_of, copied, leaf_by, leaf_of, operation_of, expr_by, expr_of, most_deep, guard_of, guards_of, set_of, sets_of, rule_of}
use Rattle.std.specs.Prelude.{if◌then◌else◌}

-- ---- lists

-- a test that each item passes that is read
pub all_items : {A : Type 0} (one : Data → Option A) (test : A → Bool) → ((d : Data) (x : A) → one d ≡ Some x → test x ≡ true) → (ds : Items) (xs : List A) →
    each_item one ds ≡ Some xs → list_all test xs ≡ true
all_items one test pass no_items xs h = let e : [] ≡ xs = cc in ap (list_all test) (sym e)
all_items one test pass (item d ds) xs h =
    let p = then-some (one d) _ xs h in
    let q = map-some (each_item one ds) _ xs p.gives in
    ap (list_all test) (sym q.gives) ∙ and-true (test p.from) (list_all test q.from) (pass d p.from p.held) (all_items one test pass ds q.from q.held)

pub all_members : {A : Type 0} (one : Name → Data → Option A) (test : A → Bool) → ((n : Name) (d : Data) (x : A) → one n d ≡ Some x → test x ≡ true) → (ms : Members) (xs : List A) →
    each_member one ms ≡ Some xs → list_all test xs ≡ true
all_members one test pass no_members xs h = let e : [] ≡ xs = cc in ap (list_all test) (sym e)
all_members one test pass (member k d ms) xs h =
    let n = then-some (name_in k) _ xs h in
    let p = then-some (one n.from d) _ xs n.gives in
    let q = map-some (each_member one ms) _ xs p.gives in
    ap (list_all test) (sym q.gives) ∙ and-true (test p.from) (list_all test q.from) (pass n.from d p.from p.held) (all_members one test pass ms q.from q.held)

pub all_listed : {A : Type 0} (one : Data → Option A) (test : A → Bool) → ((d : Data) (x : A) → one d ≡ Some x → test x ≡ true) → (d : Data) (xs : List A) →
    list_of one d ≡ Some xs → list_all test xs ≡ true
all_listed one test pass d xs h = let p = then-some (as_array d) _ xs h in all_items one test pass p.from xs p.gives

pub all_named : {A : Type 0} (one : Name → Data → Option A) (test : A → Bool) → ((n : Name) (d : Data) (x : A) → one n d ≡ Some x → test x ≡ true) → (d : Data) (xs : List A) →
    named_of one d ≡ Some xs → list_all test xs ≡ true
all_named one test pass d xs h = let p = then-some (as_object d) _ xs h in all_members one test pass p.from xs p.gives

-- ---- expressions

place_step : (b : Bool) (k n p : ℕ) (later : Option ℕ) → ((q : ℕ) → later ≡ Some q → q < suc k + n) → (if b then Some k else later) ≡ Some p → p < k + suc n
place_step true k n p later low h = let e : k ≡ p = cc in omega (arith, e)
place_step false k n p later low h = omega (arith, low p h)

place_below : (k : ℕ) (fs : List Initial) (s : Line) (p : ℕ) → place_from k fs s ≡ Some p → p < k + length fs
place_below k [] s p h = cc
place_below k (f ∷ fs) s p h = place_step (bytes_eq f.name s) k (length fs) p (place_from (suc k) fs s) (λ q e. place_below (suc k) fs s q e) h

place_fits : (fs : List Initial) (s : Line) (p : ℕ) → place_of fs s ≡ Some p → nat_lt p (length fs) ≡ true
place_fits fs s p h = let low = place_below 0 fs s p h in grind (arith, nat_tests, low)

leaf_case : (takes : Name → Bool) (n : ℕ) (p : Option ℕ) (m : Option Name) (e : Expr) → ((k : ℕ) → p ≡ Some k → nat_lt k n ≡ true) → leaf_by takes p m ≡ Some e → expr_fits n (seen e) ≡ true
leaf_case takes n (Some k) m e low h = let same : Expr.Field k ≡ e = cc in ap (λ e. expr_fits n (seen e)) (sym same) ∙ low k refl
leaf_case takes n None None e low h = cc
leaf_case takes n None (Some m) e low h = let w = when-some (takes m) (Expr.Arg m) e h in ap (λ e. expr_fits n (seen e)) (sym w.1)

operation_case : (a b c : Bool) (n : ℕ) (e f x : Expr) → expr_fits n (seen e) ≡ true → expr_fits n (seen f) ≡ true →
    (if a then Some (Expr.Add (seen e) (seen f)) else (if b then Some (Expr.Sub (seen e) (seen f)) else when c (Expr.Mul (seen e) (seen f)))) ≡ Some x → expr_fits n (seen x) ≡ true
operation_case true b c n e f x p q h = let same : Expr.Add (seen e) (seen f) ≡ x = cc in ap (λ x. expr_fits n (seen x)) (sym same) ∙ and-true _ _ p q
operation_case false true c n e f x p q h = let same : Expr.Sub (seen e) (seen f) ≡ x = cc in ap (λ x. expr_fits n (seen x)) (sym same) ∙ and-true _ _ p q
operation_case false false c n e f x p q h = let w = when-some c (Expr.Mul (seen e) (seen f)) x h in ap (λ x. expr_fits n (seen x)) (sym w.1) ∙ and-true _ _ p q

operation_fits : (side : Data → Option Expr) (n : ℕ) → ((d : Data) (e : Expr) → side d ≡ Some e → expr_fits n (seen e) ≡ true) → (ds : Items) (x : Expr) →
    operation_of side ds ≡ Some x → expr_fits n (seen x) ≡ true
operation_fits side n fit ds x h =
    let t = then-some (three_items ds) _ x h in
    let op = then-some (as_str t.from.first) _ x t.gives in
    let e = then-some (side t.from.second) _ x op.gives in
    let f = then-some (side t.from.third) _ x e.gives in
    operation_case _ _ _ n e.from f.from x (fit t.from.second e.from e.held) (fit t.from.third f.from f.held) f.gives

expr_case : (leaf : Line → Option Expr) (inner : Items → Option Expr) (n : ℕ) (x : Expr) → ((s : Line) → leaf s ≡ Some x → expr_fits n (seen x) ≡ true) →
    ((ds : Items) → inner ds ≡ Some x → expr_fits n (seen x) ≡ true) → (s : Option Line) (ds : Option Items) (z : Option ℤ) → expr_by leaf inner s ds z ≡ Some x → expr_fits n (seen x) ≡ true
expr_case leaf inner n x p q (Some s) ds z h = p s h
expr_case leaf inner n x p q None (Some ds) z h = q ds h
expr_case leaf inner n x p q None None z h = let m = map-some z Expr.Int x h in ap (λ x. expr_fits n (seen x)) (sym m.gives)

pub expr_fit : (fs : List Initial) (takes : Name → Bool) (room : ℕ) (d : Data) (x : Expr) → expr_of fs takes room d ≡ Some x → expr_fits (length fs) (seen x) ≡ true
unfolding expr_of
expr_fit fs takes zero d x h = cc
expr_fit fs takes (suc room) d x h =
    expr_case (leaf_of fs takes) (operation_of (λ e. expr_of fs takes room e)) (length fs) x
    (λ s e. leaf_case takes (length fs) (place_of fs s) (copied s) x (λ k p. place_fits fs s k p) e)
    (λ ds e. operation_fits (λ e. expr_of fs takes room e) (length fs) (λ d y p. expr_fit fs takes room d y p) ds x e)
    (as_str d) (as_array d) (int_of d) h

-- ---- guards and sets

pub guard_fit : (fs : List Initial) (takes : Name → Bool) (d : Data) (g : Guard) → guard_of fs takes d ≡ Some g → guard_fits (length fs) g ≡ true
guard_fit fs takes d g h =
    let p = guard_parts fs takes d g h in
    ap (guard_fits (length fs)) p.made ∙ and-true _ _ (expr_fit fs takes most_deep p.triple.second p.left p.is_left) (expr_fit fs takes most_deep p.triple.third p.right p.is_right)

pub set_fit : (fs : List Initial) (takes : Name → Bool) (n : Name) (d : Data) (s : Set) → set_of fs takes n d ≡ Some s → set_fits (length fs) s ≡ true
unfolding set_of
set_fit fs takes n d s h =
    let k = then-some (place_of fs n) _ s h in
    let e = map-some (expr_of fs takes most_deep d) _ s k.gives in
    ap (set_fits (length fs)) (sym e.gives) ∙ and-true _ _ (place_fits fs n k.from k.held) (expr_fit fs takes most_deep d e.from e.held)

-- fewer than 2^32 guards, whose places are below the number of fields
pub guards_fit : (fs : List Initial) (takes : Name → Bool) (d : Data) (gs : List Guard) → guards_of fs takes d ≡ Some gs →
    (nat_lt (length gs) (2 ^ 32) ≡ true) × (list_all (guard_fits (length fs)) gs ≡ true)
unfolding guards_of
guards_fit fs takes d gs h =
    let p = then-some (list_of (guard_of fs takes) d) _ gs h in
    let w = when-some (nat_lt (length p.from) (2 ^ 32)) p.from gs p.gives in (
      ap (λ xs. nat_lt (length xs) (2 ^ 32)) (sym w.1) ∙ w.0,
      all_listed (guard_of fs takes) (guard_fits (length fs)) (guard_fit fs takes) d gs (p.held ∙ ap Some w.1),
    )

-- ---- rules

pub optional_fits : {A : Type 0} (empty x : A) (one : Data → Option A) (test : A → Bool) (o : Option Data) → test empty ≡ true → ((d : Data) (x : A) → one d ≡ Some x → test x ≡ true) →
    or_empty empty one o ≡ Some x → test x ≡ true
optional_fits empty x one test None e pass h = let same : empty ≡ x = cc in ap test (sym same) ∙ e
optional_fits empty x one test (Some d) e pass h = pass d x h

pub optional_guards : (fs : List Initial) (takes : Name → Bool) (gs : List Guard) (o : Option Data) → or_empty [] (guards_of fs takes) o ≡ Some gs →
    (nat_lt (length gs) (2 ^ 32) ≡ true) × (list_all (guard_fits (length fs)) gs ≡ true)
optional_guards fs takes gs o h = (
  optional_fits [] gs (guards_of fs takes) (λ gs. nat_lt (length gs) (2 ^ 32)) o refl (λ d gs e. (guards_fit fs takes d gs e).0) h,
  optional_fits [] gs (guards_of fs takes) (list_all (guard_fits (length fs))) o refl (λ d gs e. (guards_fit fs takes d gs e).1) h,
)

pub optional_sets : (fs : List Initial) (takes : Name → Bool) (ss : List Set) (o : Option Data) → or_empty [] (sets_of fs takes) o ≡ Some ss → list_all (set_fits (length fs)) ss ≡ true
optional_sets fs takes ss o h =
    optional_fits [] ss (sets_of fs takes) (list_all (set_fits (length fs))) o refl (λ d ss e. all_named (set_of fs takes) (set_fits (length fs)) (set_fit fs takes) d ss e) h

pub rule_fit : (announcing : Bool) (fs : List Initial) (n : Name) (d : Data) (r : Rule) → rule_of announcing fs n d ≡ Some r → rule_fits (length fs) r ≡ true
rule_fit announcing fs n d r h =
    let p = rule_parts announcing fs n d r h in
    let g = optional_guards fs anything p.guards (get (codes "guards") p.object) p.is_guards in
    ap (rule_fits (length fs)) p.made ∙ and-true _ _ g.0 (and-true _ _ g.1 (optional_sets fs anything p.sets (get (codes "sets") p.object) p.is_sets))

pub rules_fit : (announcing : Bool) (fs : List Initial) (o : Data) (rs : List Rule) → wanted (codes "on") (named_of (rule_of announcing fs)) o ≡ Some rs → IsTrue (list_all (rule_fits (length fs)) rs)
rules_fit announcing fs o rs e = let d = then-some (get (codes "on") o) _ rs e in all_named (rule_of announcing fs) (rule_fits (length fs)) (rule_fit announcing fs) d.from rs d.gives
