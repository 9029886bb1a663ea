-- What an answer unfolds to compute the reader of sheets on a literal.
use Rattle.std.specs.Prelude.{⊤}
use Rattle.std.specs.Fmt.{digits}
use Rattle.serde_json.proofs.OnLiterals.{serde_json_on_literals}
use Rattle.ax_sheet_rules.specs.Shape.{IsSheet, act_of, association_of, chain_of, command_of, default_of, dispatch_of, events_of, expr_of, fields_of, from_of, given_field_of, given_of, given_param_of, guard_of, guards_of, handler_of, initial_of, key_of, param_of, params_of, projection_of, rename_of, retype_of, rule_of, rules_of, saga_of, set_of, sheet_around, sheet_of, split_of, template_of, templates_of, upcaster_of, value_of}

unfoldable pub sheets_on_literals : ⊤
unfolding digits serde_json_on_literals IsSheet act_of association_of chain_of command_of default_of dispatch_of events_of expr_of fields_of from_of given_field_of given_of given_param_of guard_of guards_of handler_of initial_of key_of param_of params_of projection_of rename_of retype_of rule_of rules_of saga_of set_of sheet_around sheet_of split_of template_of templates_of upcaster_of value_of
sheets_on_literals = tt
