use Rattle.std.proofs.Common.{◌≡◌, drop}
use Rattle.ax_sheet_parts.specs.Sheet.{fits_params}
use Rattle.ax_sheet.proofs.decision.all_fit.Given as goal

-- what is left decides
abbrev pub invariant-loop-place : goal.invariant-loop-place
invariant-loop-place l = fits_params (drop l.place l.params) (drop l.place l.fields) ≡ fits_params l.params l.fields
