-- the fields so far, and those that are left
use Rattle.std.proofs.Common.{◌≡◌, ◌++◌, drop}
use Rattle.ax_values.specs.Words.{spaced}
use Rattle.ax_report.specs.Reports.{field_words}
use Rattle.ax_report.proofs.line.write_fields.Given as goal

abbrev pub invariant-loop-place : goal.invariant-loop-place
invariant-loop-place l = l.out.items ++ spaced (field_words (drop l.place l.fields) (drop l.place l.row)) ≡ l.initial.out.items ++ spaced (field_words l.fields l.row)
