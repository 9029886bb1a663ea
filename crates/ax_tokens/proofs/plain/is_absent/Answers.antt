use Rattle.std.proofs.Common.{◌∙◌}
use Rattle.ax_tokens.proofs.Gaps.{searched-is}
use Rattle.ax_tokens.proofs.plain.is_absent.Goals as goal

pub returns : goal.returns
returns c = c.is_err.ensures.value ∙ searched-is c.args.gaps.now c.args.index c.binary_search.result c.binary_search.ensures.position c.requires
