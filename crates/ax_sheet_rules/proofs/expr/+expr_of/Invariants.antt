use Rattle.std.proofs.Common.{◌+◌, ◌*◌}
use Rattle.ax_sheet_rules.proofs.expr.+expr_of.Given as goal

abbrev pub decreases-expr_of : goal.decreases-expr_of
decreases-expr_of l = 2 * l.room

abbrev pub decreases-operation_of : goal.decreases-operation_of
decreases-operation_of l = 2 * l.room + 1
