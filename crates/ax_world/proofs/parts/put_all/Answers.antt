use Rattle.std.proofs.Common.{◌≡◌, ◌∙◌, ◌∷◌, sym, ap, subst}
use Rattle.std.specs.Vec.Iter.{into_iter_items}
use Rattle.ax_log.specs.Puts.{LogView, CanPutAll, HasRoom, put_all}
use Rattle.ax_log.proofs.CellsMade.{room-behind}
use Rattle.ax_world.proofs.parts.put_all.Goals as goal

pub loop-change-preserved : goal.loop-change-preserved
loop-change-preserved c =
    let steps : into_iter_items c.loop-change.change-iterator ≡ c.in-Some.change ∷ into_iter_items c.next.new.self = c.in-Some.ensures.steps.0 in
    let room : HasRoom c.loop-change.log.room (c.in-Some.change ∷ into_iter_items c.next.new.self) = subst (HasRoom c.loop-change.log.room) steps c.loop-change.invariant.2 in
    let can : CanPutAll c.loop-change.log.cells (c.in-Some.change ∷ into_iter_items c.next.new.self) = subst (CanPutAll c.loop-change.log.cells) steps c.loop-change.invariant.3 in (
      tt,
      tt,
      subst (λ (log : LogView). HasRoom log.room (into_iter_items c.next.new.self)) (sym c.put.ensures) (room-behind c.loop-change.log c.in-Some.change (into_iter_items c.next.new.self) room),
      subst (λ (log : LogView). CanPutAll log.cells (into_iter_items c.next.new.self)) (sym c.put.ensures) can.1,
      ap (λ (log : LogView). put_all (into_iter_items c.next.new.self) log.cells) c.put.ensures ∙ ap (λ ps. put_all ps c.loop-change.log.cells) (sym steps) ∙ c.loop-change.invariant.4,
    )
