use Rattle.std.proofs.Common.{◌-◌, ◌^◌, arith}
use Rattle.ax_values.specs.Grammar.{IsReadBack}
use Rattle.ax_values.proofs.Numbers.{number_to-decimal}
use Rattle.ax_values.proofs.number.write_number.Goals as goal

pub returns-in_err-extend_from_slice-clause-again : goal.returns-in_err-extend_from_slice-clause-again
unfolding IsReadBack
returns-in_err-extend_from_slice-clause-again c = number_to-decimal (2 ^ 64 - 1) c.args.number (omega arith) (omega arith)

pub returns-clause-again : goal.returns-clause-again
unfolding IsReadBack
returns-clause-again c = number_to-decimal (2 ^ 64 - 1) c.args.number (omega arith) (omega arith)
