use Rattle.ax_values.specs.Grammar.{IsReadBack}
use Rattle.ax_laws.proofs.Options.{on-ok}
use Rattle.ax_values.proofs.Items.{item_in-item_text}
use Rattle.ax_values.proofs.item.ItemName.write_parts.Goals as goal

pub returns-clause-again : goal.returns-clause-again
unfolding IsReadBack
returns-clause-again c =
    rw (← c.self.view_is) (on-ok c.write_u32-2.result (item_in-item_text _ c.in_ok-write.ensures.again c.in_ok-write_u32.ensures.again c.self.invariant))
