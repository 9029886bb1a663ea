use Rattle.std.proofs.Common.{◌≡◌, ◌++◌, drop, map}
use Rattle.ax_upcast.specs.Upcast.{form_of_template}
use Rattle.ax_upcast.specs.Forms.{form_of}
use Rattle.ax_upcast.proofs.few.add_all.Given as goal

-- the forms so far, with those of the parts that are left
abbrev pub invariant-loop-part : goal.invariant-loop-part
invariant-loop-part l = map form_of l.out.items ++ map form_of_template (drop l.part-index l.parts) ≡ map form_of l.initial.out.items ++ map form_of_template l.parts
