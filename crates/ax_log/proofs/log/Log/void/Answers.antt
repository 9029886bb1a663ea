use Rattle.std.proofs.Common.{sym, ap, ◌∙◌, subst}
use Rattle.ax_log.specs.Log.{option_is, is_reserved}
use Rattle.ax_log.specs.Order.{IsOrdered}
use Rattle.ax_log.specs.Puts.{LogView}
use Rattle.ax_log.proofs.Order.{can_void}
use Rattle.ax_log.proofs.log.Log.void.Goals as goal

pub returns-clause-fits : goal.returns-clause-fits
returns-clause-fits c =
    can_void _ _ (ap (option_is is_reserved) (sym c.in-Some-Reserved.ensures) ∙ ap is_reserved c.in-Some-Reserved.field-0-is)
    (subst (λ (log : LogView). IsOrdered log.cells) c.self.view_is c.self.invariant.0)
