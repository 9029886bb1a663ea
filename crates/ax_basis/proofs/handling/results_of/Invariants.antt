-- what is made of the shares so far; the rules apply to the rows of the shares that are left
use Rattle.std.proofs.Common.{◌≡◌, map, take, drop, IsTrue}
use Rattle.ax_basis.specs.Basis.{shares_fit}
use Rattle.ax_basis.specs.Outcomes.{share_result}
use Rattle.ax_basis.proofs.handling.results_of.Given as goal

abbrev pub invariant-loop-share : goal.invariant-loop-share
invariant-loop-share l = record {
  made : l.results.items ≡ map (share_result l.rules l.fn.basis.keep) (take l.share-index l.shares);
  fit : IsTrue (shares_fit l.rules (drop l.share-index l.shares));
}
