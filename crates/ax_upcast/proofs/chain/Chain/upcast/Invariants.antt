use Rattle.std.proofs.Common.{◌≡◌, [], ◌∷◌, drop}
use Rattle.ax_upcast.specs.Upcast.{chained, event_of_record}
use Rattle.ax_upcast.proofs.chain.Chain.upcast.Given as goal

-- the rules that are left make of the members what all make of the record
abbrev pub invariant-loop-rule : goal.invariant-loop-rule
invariant-loop-rule l = chained (drop l.rule-index l.rule-items) l.members.items ≡ chained l.self (event_of_record l.event ∷ [])
