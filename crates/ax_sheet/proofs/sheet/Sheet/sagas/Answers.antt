use Rattle.ax_sheet.proofs.Rising.{sheet_rises}
use Rattle.ax_sheet.proofs.sheet.Sheet.sagas.Goals as goal

pub returns-clause-rising : goal.returns-clause-rising
returns-clause-rising c = rw (← c.self.view_is) (sheet_rises c.self.inside.parts c.self.invariant).sagas
