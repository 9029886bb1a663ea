-- the commands so far, in front of those of the dispatches that are left
use Rattle.std.proofs.Common.{◌≡◌, drop}
use Rattle.ax_values.specs.Grammar.{each_in}
use Rattle.ax_values.proofs.Lists.{behind}
use Rattle.ax_sagas.specs.Sagas.{sending_of}
use Rattle.ax_sagas.proofs.dispatching.sendings_of.Given as goal

abbrev pub invariant-loop-dispatch : goal.invariant-loop-dispatch
invariant-loop-dispatch l =
    behind l.sends.items (each_in (sending_of l.item) (drop l.dispatch-index l.dispatches)) ≡ each_in (sending_of l.item) l.dispatches
