use Rattle.std.proofs.Common.{arith, map}
use Rattle.std.proofs.lemmas.Grind.{common_steps}
use Rattle.serde_json.specs.View.{view}
use Rattle.ax_sheet_rules.proofs.Counts.{found, other}
use Rattle.ax_sheet_rules.proofs.readers.object_of.Goals as goal

pub returns-then-len-count_of : goal.returns-then-len-count_of
returns-then-len-count_of c = record { value = found (map (λ key. key.now) c.args.keys.now) (view c.args.value.now) c.in_ok-members.members.now.entries (grind (arith, common_steps)) (grind (arith, common_steps)) }

pub returns-else-len-count_of : goal.returns-else-len-count_of
returns-else-len-count_of c = record { value = other (map (λ key. key.now) c.args.keys.now) (view c.args.value.now) c.in_ok-members.members.now.entries (grind (arith, common_steps)) (grind (arith, common_steps)) }
