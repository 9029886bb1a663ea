use Rattle.std.proofs.Common.{sym, ap, ◌∙◌}
use Rattle.ax_journal.specs.Orders.{one_step}
use Rattle.ax_journal.proofs.OrderLaws.{alone}
use Rattle.ax_journal.proofs.fields.Fields.steps.Goals as goal

pub returns-in-Some : goal.returns-in-Some
returns-in-Some c =
    let d = c.in_default in
    rw (alone c.args.form c.args.self d.not-Do d.not-Work d.not-Retry ∙ ap one_step (sym c.step.ensures ∙ c.in-Some.is)) c.one.ensures
