use Rattle.std.proofs.Common.{sym, subst}
use Rattle.ax_log.specs.Puts.{LogView, CanPut}
use Rattle.ax_log.proofs.Heads.{index_after}
use Rattle.ax_log.proofs.log.Log.put.Goals as goal

pub invariant_of-self : goal.invariant_of-self
invariant_of-self c =
    index_after c.self.inside.cells.items c.put_at.new.list.items c.self.inside.streams.before.items c.note.new.self.before.items c.self.inside.streams.last.entries c.note.new.self.last.entries c.args.put c.self.invariant
    (subst (λ (log : LogView). CanPut log.cells c.args.put) (sym c.self.view_is) c.requires.can)
    c.put_at.ensures.items c.note.ensures.before c.note.ensures.last
