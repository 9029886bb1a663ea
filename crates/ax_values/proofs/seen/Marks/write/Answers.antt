use Rattle.std.proofs.lemmas.Result.{on_ok_weaker}
use Rattle.ax_values.proofs.Seens.{marks_in-marks_text}
use Rattle.ax_values.proofs.seen.Marks.write.Goals as goal

pub returns-clause-again : goal.returns-clause-again
returns-clause-again c =
    rw c.undo_on_error.ensures.value (on_ok_weaker c.write_bracketed-written.result
    (λ h. marks_in-marks_text c.args.self.now h c.parts.ensures.rising) (rw c.parts.ensures.value at c.write_bracketed-written.ensures.again))
