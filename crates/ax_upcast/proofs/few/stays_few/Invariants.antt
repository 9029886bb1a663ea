use Rattle.std.proofs.Common.{◌≡◌, [], ◌∷◌, drop, map}
use Rattle.ax_upcast.specs.Upcast.{stays_few}
use Rattle.ax_upcast.specs.Forms.{form_of}
use Rattle.ax_upcast.proofs.few.stays_few.Given as goal

-- the rules that are left decide
abbrev pub invariant-loop-rule : goal.invariant-loop-rule
invariant-loop-rule l = stays_few (drop l.rule-index l.rules) (map form_of l.forms.items) ≡ stays_few l.rules (form_of l.fn.first ∷ [])
