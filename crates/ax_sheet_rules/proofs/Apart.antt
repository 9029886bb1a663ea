-- Guards and rules that are read, taken apart: of what each was made, and where that stood.
use Rattle.std.specs.Prelude.{◌≡◌, Bool, false, List, [], Some, codes}
use Rattle.std.proofs.Common.{sym}
use Rattle.serde_json.specs.Data.{Data}
use Rattle.serde_json.specs.Find.{as_bool, as_str}
use Rattle.ax_values.specs.Grammar.{Name, Line}
use Rattle.ax_laws.proofs.Options.{some-is}
use Rattle.ax_values.proofs.Options.{then-some}
use Rattle.ax_rules.specs.declared.expr.Expr.{Expr}
use Rattle.ax_rules.specs.declared.guard.Test.{Test}
use Rattle.ax_rules.specs.declared.guard.Guard.{Guard}
use Rattle.ax_rules.specs.declared.rule.Set.{Set}
use Rattle.ax_rules.specs.declared.rule.Rule.{Rule}
use Rattle.ax_rules.specs.declared.rules.Initial.{Initial}
use Rattle.ax_sheet_rules.specs.Members.{Triple, triple_of, object_of, optional}
use Rattle.ax_sheet_rules.specs.Names.{anything}
use Rattle.ax_sheet_rules.specs.Shape.{expr_of, most_deep, test_of, guard_of, guards_of, sets_of, rule_keys, rule_of}

-- ---- guards

pub record GuardParts (fs : List Initial) (takes : Name → Bool) (d : Data) (g : Guard) : Type 0 where
  pub triple : Triple
  pub word : Line
  pub test : Test
  pub left : Expr
  pub right : Expr
  pub is_triple : triple_of d ≡ Some triple
  pub is_word : as_str triple.first ≡ Some word
  pub is_test : test_of word ≡ Some test
  pub is_left : expr_of fs takes most_deep triple.second ≡ Some left
  pub is_right : expr_of fs takes most_deep triple.third ≡ Some right
  pub made : g ≡ record { left = left; test = test; right = right }

pub guard_parts : (fs : List Initial) (takes : Name → Bool) (d : Data) (g : Guard) → guard_of fs takes d ≡ Some g → GuardParts fs takes d g
unfolding guard_of
guard_parts fs takes d g h =
    let t = then-some (triple_of d) _ g h in
    let op = then-some (as_str t.from.first) _ g t.gives in
    let test = then-some (test_of op.from) _ g op.gives in
    let left = then-some (expr_of fs takes most_deep t.from.second) _ g test.gives in
    let right = then-some (expr_of fs takes most_deep t.from.third) _ g left.gives in
    record {
      triple = t.from;
      word = op.from;
      test = test.from;
      left = left.from;
      right = right.from;
      is_triple = t.held;
      is_word = op.held;
      is_test = test.held;
      is_left = left.held;
      is_right = right.held;
      made = sym (some-is _ g right.gives);
    }

-- ---- rules

pub record RuleParts (announcing : Bool) (fs : List Initial) (n : Name) (d : Data) (r : Rule) : Type 0 where
  pub object : Data
  pub guards : List Guard
  pub sets : List Set
  pub announce : Bool
  pub is_object : object_of (rule_keys announcing) d ≡ Some object
  pub is_guards : optional (codes "guards") [] (guards_of fs anything) object ≡ Some guards
  pub is_sets : optional (codes "sets") [] (sets_of fs anything) object ≡ Some sets
  pub is_announce : optional (codes "announce") false as_bool object ≡ Some announce
  pub made : r ≡ record { kind = n; guards = guards; sets = sets; announce = announce }

pub rule_parts : (announcing : Bool) (fs : List Initial) (n : Name) (d : Data) (r : Rule) → rule_of announcing fs n d ≡ Some r → RuleParts announcing fs n d r
unfolding rule_of
rule_parts announcing fs n d r h =
    let o = then-some (object_of (rule_keys announcing) d) _ r h in
    let gs = then-some (optional (codes "guards") [] (guards_of fs anything) o.from) _ r o.gives in
    let ss = then-some (optional (codes "sets") [] (sets_of fs anything) o.from) _ r gs.gives in
    let announce = then-some (optional (codes "announce") false as_bool o.from) _ r ss.gives in
    record {
      object = o.from;
      guards = gs.from;
      sets = ss.from;
      announce = announce.from;
      is_object = o.held;
      is_guards = gs.held;
      is_sets = ss.held;
      is_announce = announce.held;
      made = sym (some-is _ r announce.gives);
    }
