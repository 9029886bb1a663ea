use Rattle.ax_values.specs.Grammar.{IsReadBack}
use Rattle.ax_laws.proofs.Options.{on-ok}
use Rattle.ax_values.proofs.Items.{mark_in-mark_text}
use Rattle.ax_values.proofs.seen.Mark.write_parts.Goals as goal

pub returns-clause-again : goal.returns-clause-again
unfolding IsReadBack
returns-clause-again c = rw (← c.self.view_is) (on-ok c.write_u32-2.result (mark_in-mark_text _ c.in_ok-write_u32.ensures.again c.self.invariant))
