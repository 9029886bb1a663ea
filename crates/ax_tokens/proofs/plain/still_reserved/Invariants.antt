use Rattle.std.proofs.Common.{◌≡◌, ◌++◌, drop, not}
use Rattle.std.specs.Prelude.{filter}
use Rattle.ax_tokens.specs.Plain.{settles}
use Rattle.ax_tokens.proofs.plain.still_reserved.Given as goal

-- the gaps so far and those of the rest are all
abbrev pub invariant-loop-gap : goal.invariant-loop-gap
invariant-loop-gap l = l.kept.items ++ filter (λ gap. not (settles l.cells l.to gap)) (drop l.gap-index l.gaps) ≡ filter (λ gap. not (settles l.cells l.to gap)) l.gaps
