use Rattle.std.proofs.Common.{◌≡◌, drop}
use Rattle.serde_json.specs.View.{items_view}
use Rattle.ax_values.proofs.Lists.{behind}
use Rattle.ax_sheet_rules.specs.Members.{each_item}
use Rattle.ax_sheet_rules.proofs.each.each_item.Given as goal

-- those so far, in front of those of the values that are left
abbrev pub invariant-loop-value : goal.invariant-loop-value
invariant-loop-value g l = behind l.parts (each_item (g.R.ReadsItem.read l.reader) (items_view (drop l.value-index l.values))) ≡ each_item (g.R.ReadsItem.read l.reader) (items_view l.values)
