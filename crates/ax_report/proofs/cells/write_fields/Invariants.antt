-- the words so far, and those of the fields that are left
use Rattle.std.proofs.Common.{◌≡◌, ◌++◌, drop}
use Rattle.ax_values.specs.Words.{spaced, payload_words}
use Rattle.ax_report.proofs.cells.write_fields.Given as goal

abbrev pub invariant-loop-field : goal.invariant-loop-field
invariant-loop-field l = l.out.items ++ spaced (payload_words (drop l.field-index l.fields)) ≡ l.initial.out.items ++ spaced (payload_words l.fields)
