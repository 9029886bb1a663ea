use Rattle.std.proofs.Common.{◌≡◌, ◌∙◌, ◌≤◌, ◌∷◌, List, sym, ap, subst}
use Rattle.std.specs.Vec.Iter.{into_iter_items}
use Rattle.ax_state.specs.Every.{count}
use Rattle.ax_world.specs.EditsApplied.{edits_applied}
use Rattle.ax_world.specs.Fits.{CanMakeAll, HasRoom, is_cells}
use Rattle.ax_world.proofs.Rooms.{room-left, single-left}
use Rattle.ax_world.specs.declared.edit.Edit.{Edit}
use Rattle.ax_world.proofs.parts.Parts.make_all.Goals as goal

pub loop-edit-preserved : goal.loop-edit-preserved
loop-edit-preserved c =
    let steps : into_iter_items c.loop-edit.edit-iterator ≡ c.in-Some.edit ∷ into_iter_items c.next.new.self = c.in-Some.ensures.steps.0 in
    let single : count is_cells (c.in-Some.edit ∷ into_iter_items c.next.new.self) ≤ 1 = subst (λ (es : List Edit). count is_cells es ≤ 1) steps c.loop-edit.invariant.2 in
    let room : HasRoom c.loop-edit.self.room (c.in-Some.edit ∷ into_iter_items c.next.new.self) = subst (HasRoom c.loop-edit.self.room) steps c.loop-edit.invariant.3 in
    let can : CanMakeAll c.loop-edit.self.tables (c.in-Some.edit ∷ into_iter_items c.next.new.self) = subst (CanMakeAll c.loop-edit.self.tables) steps c.loop-edit.invariant.4 in (
      tt,
      tt,
      single-left c.in-Some.edit (into_iter_items c.next.new.self) single,
      room-left c.loop-edit.self.room c.make.new.self.room c.in-Some.edit (into_iter_items c.next.new.self) single room c.make.ensures.room,
      subst (λ w. CanMakeAll w (into_iter_items c.next.new.self)) (sym c.make.ensures.tables) can.1,
      ap (edits_applied (into_iter_items c.next.new.self)) c.make.ensures.tables ∙ ap (λ es. edits_applied es c.loop-edit.self.tables) (sym steps) ∙ c.loop-edit.invariant.5,
    )
