-- The sheet of gift cards.
use Rattle.std.specs.Prelude.{ℕ, Bool, true, false, List, [], ◌∷◌, codes, pos}
use Rattle.ax_values.specs.Grammar.{Name}
use Rattle.ax_values.specs.declared.given.Given.{Given}
use Rattle.ax_rules.specs.Expr.{constant, field}
use Rattle.ax_rules.specs.Nodes.{expr_of as seen}
use Rattle.ax_rules.specs.Rules.{Rules}
use Rattle.ax_rules.specs.SagaRules.{SagaRules}
use Rattle.ax_rules.specs.declared.expr.Expr.{Expr}
use Rattle.ax_rules.specs.declared.guard.Test.{Test}
use Rattle.ax_rules.specs.declared.guard.Guard.{Guard}
use Rattle.ax_rules.specs.declared.rule.Set.{Set}
use Rattle.ax_rules.specs.declared.rule.Rule.{Rule}
use Rattle.ax_rules.specs.declared.rules.Initial.{Initial}
use Rattle.ax_rules.specs.declared.saga_rules.ParamKind.{ParamKind}
use Rattle.ax_rules.specs.declared.saga_rules.Source.{Source}
use Rattle.ax_rules.specs.declared.saga_rules.GivenParam.{GivenParam}
use Rattle.ax_upcast.specs.declared.event.GivenField.{GivenField}
use Rattle.ax_upcast.specs.declared.event.Template.{Template}
use Rattle.ax_upcast.specs.declared.upcaster.Act.{Act}
use Rattle.ax_upcast.specs.declared.upcaster.Upcaster.{Upcaster}
use Rattle.ax_sheet_parts.specs.Sheet.{Sheet}
use Rattle.ax_sheet_parts.specs.declared.params.Param.{Param}
use Rattle.ax_sheet_parts.specs.declared.parts.NamedCommand.{NamedCommand}

abbrev pub amount : Expr
amount = Expr.Arg (codes "amount")

abbrev pub copied : Name → Name → GivenField
copied to from = record { name = to; given = Given.Copy from }

abbrev pub at_zero : Name → Initial
at_zero name = record { name = name; value = pos 0 }

abbrev pub number_param : Name → Param
number_param name = record { name = name; kind = ParamKind.Int }

abbrev pub text_param : Name → Param
text_param name = record { name = name; kind = ParamKind.Text }

abbrev pub guard : Test → Expr → Expr → Guard
guard test l r = record { left = l; test = test; right = r }

abbrev pub set : ℕ → Expr → Set
set k e = record { field = k; value = e }

abbrev pub rule : Name → List Guard → List Set → Bool → Rule
rule kind guards sets announce = record { kind = kind; guards = guards; sets = sets; announce = announce }

abbrev pub template : Name → List GivenField → Template
template kind fields = record { kind = kind; revision = 1; fields = fields }

abbrev pub with_amount : List GivenField
with_amount = copied (codes "amount") (codes "amount") ∷ []

abbrev pub card : Rules
card = record {
  fields = at_zero (codes "issued") ∷ at_zero (codes "remaining") ∷ [];
  rules =
      rule (codes "credited") [] (set 1 (Expr.Add (field 1) (seen amount)) ∷ []) false
      ∷ rule (codes "issued") [] (set 0 (Expr.Int (pos 1)) ∷ set 1 amount ∷ []) false
      ∷ rule (codes "redeemed") [] (set 1 (Expr.Sub (field 1) (seen amount)) ∷ []) false
      ∷ rule (codes "transferred") [] (set 1 (Expr.Sub (field 1) (seen amount)) ∷ []) false ∷ [];
}

abbrev pub is_positive : Name → Guard
is_positive name = guard Test.Less (Expr.Int (pos 0)) (Expr.Arg name)

abbrev pub has_issued : ℕ → Guard
has_issued n = guard Test.Equal (Expr.Field 0) (Expr.Int (pos n))

abbrev pub is_covered_by : ℕ → Guard
is_covered_by k = guard Test.AtMost amount (Expr.Field k)

abbrev pub card_commands : List NamedCommand
card_commands =
    record { name = codes "buy"; command = record { params = number_param (codes "amount") ∷ number_param (codes "fee") ∷ []; guards = has_issued 0 ∷ is_positive (codes "amount") ∷ is_positive (codes "fee") ∷ []; events = template (codes "bought") (copied (codes "amount") (codes "amount") ∷ copied (codes "fee") (codes "fee") ∷ []) ∷ [] } }
    ∷ record { name = codes "credit"; command = record { params = number_param (codes "amount") ∷ text_param (codes "transfer") ∷ []; guards = has_issued 1 ∷ is_positive (codes "amount") ∷ []; events = template (codes "credited") (copied (codes "amount") (codes "amount") ∷ copied (codes "transfer") (codes "transfer") ∷ []) ∷ [] } }
    ∷ record { name = codes "issue"; command = record { params = number_param (codes "amount") ∷ []; guards = has_issued 0 ∷ is_positive (codes "amount") ∷ []; events = template (codes "issued") with_amount ∷ [] } }
    ∷ record { name = codes "redeem"; command = record { params = number_param (codes "amount") ∷ []; guards = has_issued 1 ∷ is_positive (codes "amount") ∷ is_covered_by 1 ∷ []; events = template (codes "redeemed") with_amount ∷ [] } }
    ∷ record { name = codes "transfer"; command = record { params = number_param (codes "amount") ∷ text_param (codes "to") ∷ text_param (codes "transfer") ∷ []; guards = has_issued 1 ∷ is_positive (codes "amount") ∷ is_covered_by 1 ∷ []; events = template (codes "transferred") (copied (codes "amount") (codes "amount") ∷ copied (codes "to") (codes "to") ∷ copied (codes "transfer") (codes "transfer") ∷ []) ∷ [] } }
    ∷ []

abbrev pub card_chain : List Upcaster
card_chain =
    record { kind = codes "bought"; revision = 1; act = Act.Split (template (codes "issued") with_amount ∷ template (codes "redeemed") (copied (codes "amount") (codes "fee") ∷ []) ∷ []) } ∷ []

abbrev pub count_one : List Set
count_one = set 0 (Expr.Add (field 0) (constant (pos 1))) ∷ []

abbrev pub activity : Rules
activity = record {
  fields = at_zero (codes "count") ∷ [];
  rules = rule (codes "issued") [] count_one true ∷ rule (codes "redeemed") [] count_one false ∷ [];
}

abbrev pub spent : List Set
spent = set 0 (Expr.Sub (field 0) (seen amount)) ∷ []

abbrev pub added : List Set
added = set 0 (Expr.Add (field 0) (seen amount)) ∷ []

abbrev pub balance : Rules
balance = record {
  fields = at_zero (codes "remaining") ∷ [];
  rules =
      rule (codes "credited") [] added false
      ∷ rule (codes "issued") [] added false
      ∷ rule (codes "redeemed") (is_covered_by 0 ∷ []) spent false
      ∷ rule (codes "transferred") (is_covered_by 0 ∷ []) spent false ∷ [];
}

abbrev pub given_copy : ParamKind → Name → GivenParam
given_copy kind name = record { name = name; kind = kind; given = Given.Copy name }

abbrev pub by_transfer : Source
by_transfer = Source.Property (codes "transfer")

abbrev pub transfers : SagaRules
transfers = record {
  fields = at_zero (codes "amount") ∷ [];
  handlers =
      record { kind = codes "credited"; by = by_transfer; start = false; guards = []; sets = []; associate = []; dissociate = []; send = []; end = true }
      ∷ record {
        kind = codes "transferred";
        by = by_transfer;
        start = true;
        guards = [];
        sets = set 0 amount ∷ [];
        associate = [];
        dissociate = [];
        send = record { command = codes "credit"; target = Source.Property (codes "to"); params = given_copy ParamKind.Int (codes "amount") ∷ given_copy ParamKind.Text (codes "transfer") ∷ [] } ∷ [];
        end = false;
      } ∷ [];
}

abbrev pub cards : Sheet
cards = record {
  name = codes "cards";
  revision = 1;
  aggregate = card;
  commands = card_commands;
  chain = card_chain;
  projections = record { name = codes "activity"; rules = activity } ∷ record { name = codes "balance"; rules = balance } ∷ [];
  sagas = record { name = codes "transfers"; rules = transfers } ∷ [];
}
