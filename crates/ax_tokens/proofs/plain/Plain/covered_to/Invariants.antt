use Rattle.std.proofs.Common.{◌||◌, ◌≤◌, max}
use Rattle.ax_tokens.specs.Plain.{has, settles}
use Rattle.ax_tokens.proofs.Gaps.{IsWalked}
use Rattle.ax_tokens.proofs.plain.Plain.covered_to.Given as goal

abbrev pub invariant-loop-index : goal.invariant-loop-index
invariant-loop-index l = record {
  walked : IsWalked (λ i. has l.self i || settles l.cells l.to i) l.index l.next l.kept l.gaps.items;
  bound : l.index ≤ max l.self.next l.to;
}
