use Rattle.ax_journal.proofs.reply_text.write_log_values.Goals as goal

pub returns-in-Rejected-clause-ok : goal.returns-in-Rejected-clause-ok
returns-in-Rejected-clause-ok c = rw c.in-Rejected.is c.write_parts-in-Rejected.ensures.ok
