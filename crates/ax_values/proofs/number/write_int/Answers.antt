use Rattle.ax_values.specs.Grammar.{IsReadBack}
use Rattle.ax_values.proofs.Numbers.{int_in-signed_decimal}
use Rattle.ax_values.proofs.number.write_int.Goals as goal

pub returns-in_err-extend_from_slice-clause-again : goal.returns-in_err-extend_from_slice-clause-again
unfolding IsReadBack
returns-in_err-extend_from_slice-clause-again c = int_in-signed_decimal c.args.int c.ranges.int.sfits

pub returns-clause-again : goal.returns-clause-again
unfolding IsReadBack
returns-clause-again c = int_in-signed_decimal c.args.int c.ranges.int.sfits
