use Rattle.std.proofs.lemmas.Result.{on_ok_weaker}
use Rattle.ax_values.proofs.Payloads.{payload_of-words}
use Rattle.ax_values.proofs.payload.Payload.write.Goals as goal

pub returns-clause-again : goal.returns-clause-again
returns-clause-again c =
    rw c.undo_on_error.ensures.value (on_ok_weaker c.write_fields-written.result
    (λ h. payload_of-words c.args.self.now h c.parts.ensures.rising) (rw c.parts.ensures.value at c.write_fields-written.ensures.again))
