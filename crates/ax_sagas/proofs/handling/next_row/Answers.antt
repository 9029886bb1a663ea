use Rattle.ax_sagas.proofs.RowLaws.{long-row}
use Rattle.ax_sagas.proofs.handling.next_row.Goals as goal

pub returns-in-Ok-clause-long : goal.returns-in-Ok-clause-long
returns-in-Ok-clause-long c = long-row c.parts-2.result.now c.args.row.now c.args.payload.now c.args.row.now c.in-Ok.row c.in_ok-row.field-0 c.in-Ok.is c.in_ok-row.ensures
