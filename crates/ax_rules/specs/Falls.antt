-- Each operand is smaller than the expression.
use Rattle.std.specs.Prelude.{◌≤◌, max}
use Rattle.std.proofs.Common.{arith}
use Rattle.ax_rules.specs.Expr.{size_of}
use Rattle.ax_rules.specs.Nodes.{expr_of}
use Rattle.ax_rules.specs.declared.expr.Expr.{Expr as Node}
use Rattle.ax_rules.specs.declared.expr.Operand.TheDeep.{deep-Expr}

pub falls : (e : Node) → max (deep-Expr e) 0 ≤ size_of (expr_of e)
falls (Node.Int z) = omega arith
falls (Node.Field k) = omega arith
falls (Node.Arg name) = omega arith
falls (Node.Add e f) = omega arith
falls (Node.Sub e f) = omega arith
falls (Node.Mul e f) = omega arith
