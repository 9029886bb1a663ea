use Rattle.std.proofs.Common.{◌∙◌, sym}
use Rattle.ax_basis.proofs.Fitting.{applied-fits}
use Rattle.ax_basis.proofs.handling.tried.Goals as goal

pub returns-in-Row-clause-fits : goal.returns-in-Row-clause-fits
returns-in-Row-clause-fits c = applied-fits c.args.rules.now c.args.row.now c.in-Row.row c.args.item.now.item c.requires (sym c.in_ok-row.ensures ∙ c.in-Row.is)
