use Rattle.std.proofs.Common.{arith}
use Rattle.std.proofs.lemmas.Grind.{common_steps}
use Rattle.ax_values.proofs.Lists.{front-inner}
use Rattle.ax_tokens.proofs.text.write_gaps.Goals as goal

pub returns-in_err-write_led-in-len1-up-clause-front : goal.returns-in_err-write_led-in-len1-up-clause-front
returns-in_err-write_led-in-len1-up-clause-front c = grind (arith, common_steps, front-inner)
