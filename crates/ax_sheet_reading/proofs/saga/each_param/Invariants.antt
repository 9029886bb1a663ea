use Rattle.std.proofs.Common.{◌≡◌, drop}
use Rattle.serde_json.specs.View.{members_view}
use Rattle.ax_values.proofs.Lists.{behind}
use Rattle.ax_sheet_rules.specs.Shape.{each_param}
use Rattle.ax_sheet_reading.proofs.saga.each_param.Given as goal

-- those so far, in front of those of the parameters and members that are left
abbrev pub invariant-loop-param : goal.invariant-loop-param
invariant-loop-param l = behind l.all (each_param (drop l.param-index l.params) (members_view l.entries)) ≡ each_param l.params (members_view l.members.entries)
