use Rattle.std.proofs.Common.{sym}
use Rattle.ax_values.proofs.Payloads.{from_fields}
use Rattle.ax_values.proofs.payload.Payload.from_words.Goals as goal

pub returns-in-Some-clause-written : goal.returns-in-Some-clause-written
returns-in-Some-clause-written c = from_fields _ c.in-Some.fields.items (sym (rw c.in-Some.is at c.in_ok-fields.ensures))
