use Rattle.std.proofs.Common.{◌≡◌, map, take}
use Rattle.serde_json.specs.View.{view}
use Rattle.ax_sheet_writing.proofs.parts.list_of.Given as goal

-- the values so far
abbrev pub invariant-loop-part : goal.invariant-loop-part
invariant-loop-part g l = map view l.values.items ≡ map (g.T.Written.written l.fields) (take l.part-index l.parts)
