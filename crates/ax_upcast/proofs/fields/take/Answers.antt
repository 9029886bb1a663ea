use Rattle.ax_upcast.proofs.Rising.{rises-taken}
use Rattle.ax_upcast.proofs.fields.take.Goals as goal

pub returns-then-same-clause-rising : goal.returns-then-same-clause-rising
returns-then-same-clause-rising c =
    rw (c.remove.ensures.items, ← c.deref-field-items.ensures.value)
    (rises-taken c.deref-field-items.result.now c.loop-place.place c.field-item.result c.loop-place-test.true c.field-item.is (rw c.deref-field-items.ensures.value c.requires))
