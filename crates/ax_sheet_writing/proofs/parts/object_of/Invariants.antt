use Rattle.std.proofs.Common.{◌≡◌, take}
use Rattle.serde_json.specs.View.{members_view}
use Rattle.ax_sheet_writing.specs.Text.{members_data}
use Rattle.ax_sheet_writing.proofs.parts.object_of.Given as goal

-- the members so far
abbrev pub invariant-loop-part : goal.invariant-loop-part
invariant-loop-part g l = members_view l.map.entries ≡ members_data (g.T.Keyed.key l.fields) (g.T.Written.written l.fields) (take l.part-index l.parts)
