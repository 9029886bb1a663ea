use Rattle.ax_log.proofs.Heads.{index_kept}
use Rattle.ax_log.proofs.log.Log.room.Goals as goal

pub invariant_of-self-2 : goal.invariant_of-self-2
invariant_of-self-2 c =
    index_kept c.self.inside.cells.items c.reserve.new.self.items c.self.inside.streams.before.items c.room.new.self.before.items c.self.inside.streams.last.entries c.room.new.self.last.entries c.self.invariant
    c.in_ok-reserve.ensures.items c.room.ensures.before c.room.ensures.last
