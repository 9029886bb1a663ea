-- no processor so far has the name
use Rattle.std.proofs.Common.{◌≡◌, ◌+◌, drop}
use Rattle.ax_values.specs.Words.{same_name, place_where}
use Rattle.ax_world.proofs.named.number_of.Given as goal

abbrev pub invariant-loop-number : goal.invariant-loop-number
invariant-loop-number l = place_where (λ q. same_name q.name l.name) l.processors ≡ l.number + place_where (λ q. same_name q.name l.name) (drop l.number l.processors)
