-- no cell so far is void
use Rattle.std.proofs.Common.{◌≡◌, ◌+◌, drop}
use Rattle.ax_log.specs.Answers.{first_void}
use Rattle.ax_log.proofs.log.first_void.Given as goal

abbrev pub invariant-loop-offset : goal.invariant-loop-offset
invariant-loop-offset l = first_void (l.first + l.offset) (drop l.offset l.cells) ≡ first_void l.first l.cells
