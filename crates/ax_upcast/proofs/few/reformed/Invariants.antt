use Rattle.std.proofs.Common.{◌≡◌, ◌++◌, drop, map}
use Rattle.std.specs.List.{flat_map}
use Rattle.ax_upcast.specs.Upcast.{reformed}
use Rattle.ax_upcast.specs.Forms.{form_of}
use Rattle.ax_upcast.proofs.few.reformed.Given as goal

-- what became of the forms so far, with what becomes of those that are left
abbrev pub invariant-loop-form : goal.invariant-loop-form
invariant-loop-form l =
    map form_of l.later.items ++ flat_map (reformed l.rule) (map form_of (drop l.form-index l.forms)) ≡ flat_map (reformed l.rule) (map form_of l.forms)
