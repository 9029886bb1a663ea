use Rattle.std.proofs.Common.{◌≡◌, ◌+◌, ◌/◌, min, [], ◌∷◌, ◌∙◌, sym, ap, subst}
use Rattle.std.specs.Prelude.{IfOk, IfSome}
use Rattle.ax_world.specs.WorldTables.{DeskTables, state_of}
use Rattle.ax_world.specs.Moves.{IsMove}
use Rattle.ax_world.specs.declared.edit.Edit.{Edit}
use Rattle.ax_world.specs.declared.edit.Move.{Move}
use Rattle.ax_journal.specs.declared.reply.Reply.{Reply}
use Rattle.ax_step_claims.specs.Claiming.{NamesOwned, refused_reply, merge_at}
use Rattle.ax_world.proofs.HeldFences.{held-desk}
use Rattle.ax_world.proofs.ProcessorStates.{place-declared}
use Rattle.ax_step_claims.proofs.HeldMoves.{merge-made, merge-refused}
use Rattle.ax_step_claims.proofs.Moves.{ok-is}
use Rattle.ax_step_claims.proofs.halves.merge_segment.Goals as goal

pub returns-in-Ok : goal.returns-in-Ok
returns-in-Ok c =
    let held = held-desk c.args.world.now.tables c.args.actor c.args.processor c.args.segment c.desk.result.now c.parts.result.now c.held_fence-held.result c.desk.ensures.desk (c.parts.ensures ∙ ap (λ (d : DeskTables). d.held) c.behind-world.view_is) c.held_fence-held.ensures in
    let made = merge-made c.args.world.now.tables c.args.actor c.args.processor c.args.segment c.clock-now.ensures.world c.in_ok-rows.rows c.merge.new.self c.held_fence-held.result (c.in_ok-rows.ensures ∙ c.rows.ensures) held
    (c.fence-fence.result + 1) (ap (λ n. n + 1) c.fence-fence.ensures.value) c.clock-now.result c.clock-now.ensures.value c.actor_name.result.now c.actor_name.ensures c.in-Ok.field-0 c.in-Ok.ensures in
    ok-is (IsMove c.args.world.now.tables _) _ c.merge_move.result (subst (λ o. IfSome o (λ other. IfOk c.merge_move.result (λ (y : Move). y
    ≡ record { edits = Edit.SetRows c.args.processor c.merge.new.self ∷ Edit.Fence (c.fence-fence.result + 1) ∷ []; reply = Reply.Merged (record { id = min c.args.segment.id other.id; mask = c.args.segment.mask / 2 }); report = [] })))
    made.is c.merge_move.ensures)
    (made.move (place-declared c.args.world.now.tables c.args.processor c.clock-now.ensures.world c.requires.processor))

pub refusal-requires : goal.refusal-requires
refusal-requires c =
    let held = held-desk c.args.world.now.tables c.args.actor c.args.processor c.args.segment c.desk.result.now c.parts.result.now c.held_fence-held.result c.desk.ensures.desk (c.parts.ensures ∙ ap (λ (d : DeskTables). d.held) c.behind-world.view_is) c.held_fence-held.ensures in
    subst (NamesOwned c.merge.new.self) (sym c.in-Err-Refused.refused-is)
    (merge-refused c.args.world.now.tables c.args.actor c.args.processor c.args.segment c.clock-now.ensures.world c.in_ok-rows.rows c.merge.new.self c.held_fence-held.result (c.in_ok-rows.ensures ∙ c.rows.ensures) held
    (c.fence-fence.result + 1) (ap (λ n. n + 1) c.fence-fence.ensures.value) c.clock-now.result c.clock-now.ensures.value c.actor_name.result.now c.actor_name.ensures c.in-Err-Refused.refused (rw c.in-Err-Refused.field-0-is at c.in-Err-Refused.ensures)).named

pub returns-in-Err-Refused : goal.returns-in-Err-Refused
returns-in-Err-Refused c =
    let held = held-desk c.args.world.now.tables c.args.actor c.args.processor c.args.segment c.desk.result.now c.parts.result.now c.held_fence-held.result c.desk.ensures.desk (c.parts.ensures ∙ ap (λ (d : DeskTables). d.held) c.behind-world.view_is) c.held_fence-held.ensures in
    ok-is (IsMove c.args.world.now.tables _) _ c.refusal.result c.refusal.ensures
    (subst (λ x. IsMove c.args.world.now.tables (merge_at (state_of c.args.world.now.tables) c.args.actor c.args.processor c.args.segment) (record { edits = []; reply = refused_reply c.merge.new.self x; report = [] })) (sym c.in-Err-Refused.refused-is)
    (merge-refused c.args.world.now.tables c.args.actor c.args.processor c.args.segment c.clock-now.ensures.world c.in_ok-rows.rows c.merge.new.self c.held_fence-held.result (c.in_ok-rows.ensures ∙ c.rows.ensures) held
    (c.fence-fence.result + 1) (ap (λ n. n + 1) c.fence-fence.ensures.value) c.clock-now.result c.clock-now.ensures.value c.actor_name.result.now c.actor_name.ensures c.in-Err-Refused.refused (rw c.in-Err-Refused.field-0-is at c.in-Err-Refused.ensures)).move)
