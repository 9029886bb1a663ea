use Rattle.std.proofs.Common.{◌≤◌, ap, ◌∙◌, arith, length}
use Rattle.ax_log.specs.Puts.{LogView}
use Rattle.ax_log.specs.Index.{last_of}
use Rattle.ax_log.proofs.Heads.{back_start, back_step}
use Rattle.ax_log.proofs.log.Log.stream.Goals as goal

pub loop-at-init : goal.loop-at-init
loop-at-init c =
    let h = c.self.invariant.1 in
    let size = ap (λ (log : LogView). length log.cells) c.self.view_is in
    let le : last_of c.args.aggregate.now c.self.inside.streams.last.entries ≤ length c.self.inside.cells.items = (h.lasts c.args.aggregate.now).within in
    record {
      long = ap length c.before-before.ensures ∙ h.long ∙ size;
      within = omega (arith, size, le, c.last_of-at.ensures);
      back = back_start c.args.aggregate.now c.self.inside.cells.items c.args.self.now.cells c.self.inside.streams.before.items c.before-before.result.now c.self.inside.streams.last.entries c.last_of-at.result c.new-indexes.result.items
          h (ap (λ (log : LogView). log.cells) c.self.view_is) c.before-before.ensures c.last_of-at.ensures c.new-indexes.ensures.items;
    }

pub loop-at-smaller : goal.loop-at-smaller
loop-at-smaller c =
    let i = c.loop-at.invariant in
    (back_step c.args.aggregate.now c.args.self.now.cells c.before-before.result.now c.loop-at.at c.loop-at.indexes.items c.push.new.self.items i.back c.loop-at-test.true i.within i.long c.in_ok-push.ensures.items).0

pub loop-at-preserved : goal.loop-at-preserved
loop-at-preserved c =
    let i = c.loop-at.invariant in
    let s = back_step c.args.aggregate.now c.args.self.now.cells c.before-before.result.now c.loop-at.at c.loop-at.indexes.items c.push.new.self.items i.back c.loop-at-test.true i.within i.long c.in_ok-push.ensures.items in
    record { long = i.long; within = omega (arith, s.0, i.within); back = s.1 }
