use Rattle.std.proofs.Common.{[], subst}
use Rattle.ax_report.specs.Reports.{AddsRows}
use Rattle.ax_report.proofs.Shown.{shown-move}
use Rattle.ax_report.proofs.steps.show_rows.Goals as goal

pub returns : goal.returns
returns c =
    shown-move c.args.world.now.tables c.args.processor c.projection-rules.result.now c.table.result.now.entries c.add_rows.new.lines _ c.facts.ensures c.requires c.projection-rules.ensures c.table.ensures
    (subst (λ fs. AddsRows fs c.table.result.now.entries [] c.add_rows.new.lines) c.fields.ensures (subst (λ old. AddsRows c.fields.result.now c.table.result.now.entries old c.add_rows.new.lines) c.new-report.ensures c.in_ok-add_rows.ensures))
    c.reported.ensures
