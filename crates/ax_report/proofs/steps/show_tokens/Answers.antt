use Rattle.std.proofs.Common.{◌∙◌, map, sym, ap}
use Rattle.ax_world.proofs.ProcessorStates.{processor_state-place}
use Rattle.ax_report.specs.TokenReports.{token_line}
use Rattle.ax_report.proofs.Reported.{few-halves, report-move}
use Rattle.ax_report.proofs.steps.show_tokens.Goals as goal

pub token_lines-requires : goal.token_lines-requires
token_lines-requires c = few-halves c.args.world.now.tables c.args.processor c.rows-2.result.now c.facts.ensures c.requires (c.rows-2.ensures.value ∙ c.rows.ensures)

pub returns : goal.returns
returns c =
    report-move c.args.world.now.tables _ c.in_ok-report.report c.reported.result c.facts.ensures
    (c.in_ok-report.ensures ∙ ap (map token_line) (c.rows-2.ensures.value ∙ c.rows.ensures ∙ sym (ap (λ x. x.rows) (processor_state-place c.args.world.now.tables c.args.processor))))
    c.reported.ensures
