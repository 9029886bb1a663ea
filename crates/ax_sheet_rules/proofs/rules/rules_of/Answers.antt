use Rattle.std.proofs.Common.{arith}
use Rattle.std.proofs.lemmas.Grind.{common_steps}
use Rattle.serde_json.specs.View.{view}
use Rattle.ax_sheet_rules.proofs.Places.{rules_fit}
use Rattle.ax_sheet_rules.proofs.rules.rules_of.Goals as goal

pub of-requires : goal.of-requires
of-requires c = rules_fit c.args.announcing c.in-Some-2.fields (view c.in-Some.object.now) c.in-Some-3.rules (grind (arith, common_steps))
