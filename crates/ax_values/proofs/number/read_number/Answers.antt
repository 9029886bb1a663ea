use Rattle.std.proofs.Common.{sym}
use Rattle.ax_values.proofs.Numbers.{written-digits}
use Rattle.ax_values.proofs.number.read_number.Goals as goal

pub returns-then-is_numeral-clause-written : goal.returns-then-is_numeral-clause-written
returns-then-is_numeral-clause-written c = written-digits c.args.text.now c.value_of.result (sym c.if-is_numeral.ensures) c.value_of.ensures
