use Rattle.std.proofs.Common.{List, ◌^◌, ◌<◌, length, ap, arith}
use Rattle.ax_journal.specs.declared.order.Order.{Order}
use Rattle.ax_script.specs.Queues.{queue_of}
use Rattle.ax_machine.proofs.Performed.{few-left}
use Rattle.ax_machine.proofs.machine.Machine.left.Goals as goal

pub overflow_cast-result : goal.overflow_cast-result
overflow_cast-result c =
    let few : length (queue_of c.self.inside.left.items c.args.actor) < 2 ^ 32 = few-left _ c.args.actor c.self.invariant.0 in
    let same = ap (λ (q : List (List Order)). length (queue_of q c.args.actor)) c.deref.ensures.value in
    omega (arith, few, same, c.count_left.ensures)
