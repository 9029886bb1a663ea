use Rattle.std.proofs.Common.{◌≡◌, map, take}
use Rattle.ax_rules.proofs.rules.start_row.Given as goal

-- the values so far
abbrev pub invariant-loop-field : goal.invariant-loop-field
invariant-loop-field l = l.values.items ≡ map (λ f. f.value) (take l.field-index l.fields)
