use Rattle.ax_report.proofs.Shown.{names-next}
use Rattle.ax_report.proofs.names.names_of.Goals as goal

pub loop-place-preserved : goal.loop-place-preserved
loop-place-preserved c =
    names-next c.args.table.now.entries c.loop-place.place (record { name = c.in-Some.name.now; value = c.in-Some.field-0-1.now }) c.loop-place.names.items c.push.new.self.items _ c.in-Some.ensures c.loop-place.invariant c.in_ok-copy.ensures c.in_ok-push.ensures.items
