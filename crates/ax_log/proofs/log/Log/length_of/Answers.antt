use Rattle.std.proofs.Common.{◌+◌, ◌≤◌, ap, ◌∙◌, arith}
use Rattle.ax_log.specs.Log.{length_of}
use Rattle.ax_log.specs.Order.{max_cells}
use Rattle.ax_log.specs.Puts.{LogView}
use Rattle.ax_log.proofs.Heads.{counted, counted_few}
use Rattle.ax_log.proofs.log.Log.length_of.Goals as goal

pub overflow_add-result : goal.overflow_add-result
overflow_add-result c =
    let e = counted c.args.aggregate.now c.self.inside.cells.items c.self.inside.streams.before.items c.self.inside.streams.last.entries c.last_of-last.result c.index.result.now c.in-Event.event c.self.invariant c.last_of-last.ensures c.if-last-eq0.false c.index.ensures c.in-Event.is in
    let few : c.in-Event.event.seq + 1 ≤ max_cells = counted_few c.args.aggregate.now c.self.inside.cells.items c.in-Event.event c.self.invariant.0 e in
    omega (arith, few)

pub returns : goal.returns
returns c =
    counted c.args.aggregate.now c.self.inside.cells.items c.self.inside.streams.before.items c.self.inside.streams.last.entries c.last_of-last.result c.index.result.now c.in-Event.event c.self.invariant c.last_of-last.ensures c.if-last-eq0.false c.index.ensures c.in-Event.is
    ∙ ap (λ (log : LogView). length_of c.args.aggregate.now log.cells) c.self.view_is
