use Rattle.std.proofs.Common.{◌≡◌, drop}
use Rattle.ax_values.specs.Words.{field_of}
use Rattle.ax_values.proofs.payload.Payload.get.Given as goal

-- the value is found among the fields that are left
abbrev pub invariant-loop-field : goal.invariant-loop-field
invariant-loop-field l = field_of l.name (drop l.field-index l.field-items) ≡ field_of l.name l.self
