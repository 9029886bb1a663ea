use Rattle.std.proofs.Common.{◌≡◌, ◌+◌, ◌≤◌, drop}
use Rattle.ax_script.specs.Judging.{shows_in}
use Rattle.ax_script.proofs.judge.count_shows.Given as goal

-- the shows so far and those of the steps that are left
abbrev pub invariant-loop-order : goal.invariant-loop-order
invariant-loop-order l = (l.shows + shows_in (drop l.order-index l.steps) ≡ shows_in l.steps) × (l.shows ≤ l.order-index)
