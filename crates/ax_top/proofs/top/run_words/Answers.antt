use Rattle.std.proofs.Common.{Err, refl, sym, ap}
use Rattle.ax_top.proofs.HeadlineLaws.{reads-delivered, reads-given, answered-usage, answered-script, answered-long, answered-read_fault, answered-memory}
use Rattle.ax_top.proofs.top.run_words.Goals as goal

pub returns-in_default-clause-answer : goal.returns-in_default-clause-answer
returns-in_default-clause-answer g c = answered-usage _ (sym c.in_default.ensures) c.deliver.ensures.outcome (reads-delivered _ _ _ c.deliver.ensures.delivered refl)

pub returns-in-Ok-Some-clause-answer : goal.returns-in-Ok-Some-clause-answer
returns-in-Ok-Some-clause-answer g c =
    let whole = rw c.in-Ok-Some.field-0-is at c.in-Ok-Some.ensures.whole in
    let answered = rw c.deref.ensures.value at c.answer.ensures.answer in
    let right = rw c.deref.ensures.value at c.answer.ensures.right in
    answered-script _ c.in-Some.task c.in-Ok-Some.bytes.items c.answer.result (sym c.in-Some.ensures) whole.1 answered right c.give.ensures.outcome
    (reads-given c.answer.result _ _ _ c.give.ensures.delivered c.in-Ok-Some.ensures.kept)

pub returns-in-Ok-None-clause-answer : goal.returns-in-Ok-None-clause-answer
returns-in-Ok-None-clause-answer g c =
    let long = rw c.in-Ok-None.field-0-is at c.in-Ok-None.ensures.long in
    answered-long _ c.in-Some.task c.refusal.result (sym c.in-Some.ensures) long c.refusal.ensures.answer c.give-in-Ok-None.ensures.outcome
    (reads-given c.refusal.result _ _ _ c.give-in-Ok-None.ensures.delivered c.in-Ok-None.ensures.kept)

pub returns-in-Err-Failed-clause-answer : goal.returns-in-Err-Failed-clause-answer
returns-in-Err-Failed-clause-answer g c = answered-read_fault _ refl refl (c.in-Err-Failed.ensures.failed (ap Err c.in-Err-Failed.field-0-is))

pub returns-in-Err-Memory-clause-answer : goal.returns-in-Err-Memory-clause-answer
returns-in-Err-Memory-clause-answer g c = answered-memory _ refl refl (c.in-Err-Memory.ensures.wanting (ap Err c.in-Err-Memory.field-0-is))
