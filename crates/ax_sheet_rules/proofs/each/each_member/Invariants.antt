use Rattle.std.proofs.Common.{◌≡◌}
use Rattle.serde_json.specs.View.{members_view}
use Rattle.ax_values.proofs.Lists.{behind}
use Rattle.ax_sheet_rules.specs.Members.{each_member}
use Rattle.ax_sheet_rules.proofs.each.each_member.Given as goal

-- those so far, in front of those of the members that are left
abbrev pub invariant-loop-key : goal.invariant-loop-key
invariant-loop-key g l = behind l.parts (each_member (g.R.ReadsMember.read l.reader) (members_view l.key-iterator)) ≡ each_member (g.R.ReadsMember.read l.reader) (members_view l.members.entries)
