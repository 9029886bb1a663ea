use Rattle.ax_sheet.proofs.Sheets.{sheet_fits}
use Rattle.ax_sheet.proofs.Rising.{sheet_rises}
use Rattle.ax_sheet.proofs.sheet.Sheet.commands.Goals as goal

pub returns-clause-rising : goal.returns-clause-rising
returns-clause-rising c = rw (← c.self.view_is) (sheet_rises c.self.inside.parts c.self.invariant).commands

pub returns-clause-shape : goal.returns-clause-shape
returns-clause-shape c = rw (← c.self.view_is) (sheet_fits c.self.inside.parts c.self.invariant)
