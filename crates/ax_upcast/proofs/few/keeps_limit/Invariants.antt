use Rattle.std.proofs.Common.{◌≡◌, [], ◌∷◌, drop}
use Rattle.std.specs.List.{list_all}
use Rattle.ax_upcast.specs.Upcast.{stays_few, first_form, keeps_limit}
use Rattle.ax_upcast.proofs.few.keeps_limit.Given as goal

-- the rules that are left decide
abbrev pub invariant-loop-rule : goal.invariant-loop-rule
invariant-loop-rule l = list_all (λ u. stays_few l.rules (first_form u ∷ [])) (drop l.rule-index l.rules) ≡ keeps_limit l.rules
