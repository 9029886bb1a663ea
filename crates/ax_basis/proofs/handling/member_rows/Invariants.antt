-- the rows so far
use Rattle.std.proofs.Common.{◌≡◌, take}
use Rattle.ax_basis.specs.Basis.{member_rows}
use Rattle.ax_basis.proofs.handling.member_rows.Given as goal

abbrev pub invariant-loop-member : goal.invariant-loop-member
invariant-loop-member l = l.rows.items ≡ member_rows (take l.member-index l.members)
