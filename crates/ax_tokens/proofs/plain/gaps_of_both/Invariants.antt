use Rattle.std.proofs.Common.{◌≡◌, ◌++◌, drop}
use Rattle.ax_tokens.proofs.Gaps.{outside}
use Rattle.ax_tokens.proofs.plain.gaps_of_both.Given as goal

-- the gaps so far and those of the rest are all
abbrev pub invariant-loop-gap : goal.invariant-loop-gap
invariant-loop-gap l = l.both.items ++ outside l.other.next l.rest (drop l.gap-index l.gaps) ≡ outside l.other.next l.other.gaps l.gaps
