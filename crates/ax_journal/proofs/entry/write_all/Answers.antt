use Rattle.std.proofs.Common.{◌∙◌}
use Rattle.std.proofs.lemmas.Result.{on_ok_weaker}
use Rattle.ax_journal.proofs.LineLaws.{entry_parts}
use Rattle.ax_journal.proofs.entry.write_all.Goals as goal

pub returns-clause-ok : goal.returns-clause-ok
returns-clause-ok c =
    let line =
    rw (c.in_ok-push-2.ensures.items, c.in_ok-write_reply.ensures.ok, c.in_ok-extend_from_slice.ensures.items, c.in_ok-write_order.ensures.ok, c.in_ok-push.ensures.items, c.in_ok-write.ensures.ok, c.parts.ensures) at c.write_lines.ensures.ok in
    on_ok_weaker c.write_lines.result (λ e. e ∙ entry_parts c.args.out.now.items c.args.entry.now) line
