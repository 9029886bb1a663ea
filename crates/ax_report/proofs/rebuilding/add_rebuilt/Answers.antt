use Rattle.std.proofs.Common.{◌≡◌, ◌∙◌, sym, ap, subst}
use Rattle.ax_projections.specs.Rebuild.{rebuilt}
use Rattle.ax_state.specs.Setting.{processor_at}
use Rattle.ax_world.specs.WorldTables.{state_of}
use Rattle.ax_report.specs.Reports.{AddsRows}
use Rattle.ax_world.proofs.Projections.{read-processor}
use Rattle.ax_report.proofs.Shown.{not-saga, skipped, not-skipped, on-ok, rebuilt-added}
use Rattle.ax_report.proofs.rebuilding.add_rebuilt.Goals as goal

pub returns-then-declared : goal.returns-then-declared
returns-then-declared c =
    skipped (state_of c.args.world.now.tables) c.args.processor c.args.lines.now
    (ap (λ q. q.saga) (read-processor c.args.world.now.tables.setting c.args.processor c.index-parts-processor.result c.parts.result.now c.requires c.index-parts-processor.is (c.parts.ensures ∙ c.processors.ensures)) ∙ c.if-declared.true)

pub projection-rules-requires : goal.projection-rules-requires
projection-rules-requires c =
    not-saga c.args.world.now.tables.setting.processors c.args.processor c.requires
    (ap (λ q. q.saga) (read-processor c.args.world.now.tables.setting c.args.processor c.index-parts-processor.result c.parts.result.now c.requires c.index-parts-processor.is (c.parts.ensures ∙ c.processors.ensures)) ∙ c.if-declared.false)

pub returns : goal.returns
returns c =
    let is : processor_at c.args.world.now.tables.setting c.args.processor ≡ c.index-parts-processor.result =
    read-processor c.args.world.now.tables.setting c.args.processor c.index-parts-processor.result c.parts.result.now c.requires c.index-parts-processor.is (c.parts.ensures ∙ c.processors.ensures)
    in
    on-ok c.add_rows.result
    (λ added. not-skipped (state_of c.args.world.now.tables) c.args.processor c.args.lines.now c.add_rows.new.lines (ap (λ q. q.saga) is ∙ c.if-declared.false)
    (rebuilt-added (state_of c.args.world.now.tables) c.args.processor c.index-parts-processor.result c.projection-rules.result.now c.in_ok-table.table.entries c.in_ok-processor_line.field-0 c.args.lines.now c.push.new.self c.add_rows.new.lines
    (sym is) c.in_ok-processor_line.ensures c.in_ok-push.ensures.ok c.projection-rules.ensures
    (c.in_ok-table.ensures
    ∙ ap (λ ch. rebuilt c.projection-rules.result.now ch c.cells.result.now) (c.chain.ensures.value ∙ ap (λ s. s.chain) c.sheet.ensures)
    ∙ ap (λ cs. rebuilt c.projection-rules.result.now c.args.world.now.tables.setting.sheet.chain cs) (c.cells.ensures.value ∙ c.log.ensures.value))
    (subst (λ fs. AddsRows fs c.in_ok-table.table.entries c.push.new.self c.add_rows.new.lines) c.fields.ensures added)))
    c.add_rows.ensures
