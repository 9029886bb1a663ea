-- the value of the field among those that are left is its value among all
use Rattle.std.proofs.Common.{◌≡◌, drop}
use Rattle.ax_values.specs.Words.{field_of}
use Rattle.ax_upcast.proofs.fields.value_of.Given as goal

abbrev pub invariant-loop-field : goal.invariant-loop-field
invariant-loop-field l = field_of l.name (drop l.field-index l.fields) ≡ field_of l.name l.fields
