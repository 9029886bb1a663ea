use Rattle.std.proofs.Common.{◌≡◌, ◌++◌, take, drop}
use Rattle.ax_values.specs.Words.{field_of, remove_field}
use Rattle.ax_upcast.proofs.fields.take.Given as goal

-- no field so far has the name
abbrev pub invariant-loop-place : goal.invariant-loop-place
invariant-loop-place l = record {
  value : field_of l.name (drop l.place l.field-items) ≡ field_of l.name l.field-items;
  rest : take l.place l.field-items ++ remove_field l.name (drop l.place l.field-items) ≡ remove_field l.name l.field-items;
}
