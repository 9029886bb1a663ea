-- What an expression of the program is.
use Rattle.ax_rules.specs.Expr.{Expr, constant, field, argument, sum, difference, product}
use Rattle.ax_rules.specs.declared.expr.Expr.{Expr as Node}

-- one level: the operands are seen as expressions
abbrev pub expr_of : Node → Expr
expr_of (Node.Int z) = constant z
expr_of (Node.Field k) = field k
expr_of (Node.Arg name) = argument name
expr_of (Node.Add e f) = sum e f
expr_of (Node.Sub e f) = difference e f
expr_of (Node.Mul e f) = product e f
