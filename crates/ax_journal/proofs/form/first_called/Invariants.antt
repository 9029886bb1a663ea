use Rattle.std.proofs.Common.{◌≡◌, drop}
use Rattle.std.specs.List.{find}
use Rattle.ax_journal.specs.Form.{kind, is_called}
use Rattle.ax_journal.proofs.form.first_called.Given as goal

-- the first of the forms that are left is the first of all
abbrev pub invariant-loop-form : goal.invariant-loop-form
invariant-loop-form l = find (λ f. is_called l.shown l.word (kind f)) (drop l.form-index l.forms) ≡ find (λ f. is_called l.shown l.word (kind f)) l.forms
