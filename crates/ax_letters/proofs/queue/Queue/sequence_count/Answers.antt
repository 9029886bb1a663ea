use Rattle.std.proofs.Common.{vec_capacity, subst}
use Rattle.ax_letters.specs.Letters.{IsQueue}
use Rattle.ax_letters.proofs.Changed.{queue-kept}
use Rattle.ax_letters.proofs.queue.Queue.sequence_count.Goals as goal

pub returns-clause-kept : goal.returns-clause-kept
returns-clause-kept c =
    subst (λ v. IsQueue v.sequences) c.self.view_is
    (queue-kept c.self.inside.sequences.items c.self.inside.prepared.items (vec_capacity c.self.inside.sequences) c.self.invariant)
