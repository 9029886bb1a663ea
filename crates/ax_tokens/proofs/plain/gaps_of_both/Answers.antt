use Rattle.ax_tokens.proofs.Gaps.{outside-is}
use Rattle.std.proofs.lemmas.Grind.{common_steps}
use Rattle.std.proofs.Common.{arith}
use Rattle.ax_tokens.proofs.plain.gaps_of_both.Goals as goal

pub returns : goal.returns
returns c =
    let e = outside-is c.args.other.now c.args.gaps.now c.gaps-rest.ensures.canonical c.requires in
    grind (arith, common_steps, e)
