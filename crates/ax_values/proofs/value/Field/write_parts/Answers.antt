use Rattle.ax_values.specs.Grammar.{IsReadBack}
use Rattle.std.proofs.lemmas.Result.{on_ok_weaker}
use Rattle.ax_values.proofs.Values.{field_in-field_text}
use Rattle.ax_values.proofs.value.Field.write_parts.Goals as goal

pub returns-clause-again : goal.returns-clause-again
unfolding IsReadBack
returns-clause-again c = on_ok_weaker c.write-2.result (field_in-field_text c.args.self.now c.in_ok-write.ensures.again) c.write-2.ensures.again
