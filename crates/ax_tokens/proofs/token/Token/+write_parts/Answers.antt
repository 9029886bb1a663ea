use Rattle.std.proofs.Common.{arith}
use Rattle.std.proofs.lemmas.Grind.{common_steps}
use Rattle.ax_values.proofs.Lists.{front-inner}
use Rattle.ax_tokens.proofs.token.Token.+write_parts.Goals as goal

pub returns-in_err-write_parts-in-Merged-2-clause-front : goal.returns-in_err-write_parts-in-Merged-2-clause-front
returns-in_err-write_parts-in-Merged-2-clause-front t c = grind (arith, common_steps, front-inner)

pub returns-in_err-write_plain-in-Replay-2-clause-front : goal.returns-in_err-write_plain-in-Replay-2-clause-front
returns-in_err-write_plain-in-Replay-2-clause-front t c = grind (arith, common_steps, front-inner)
