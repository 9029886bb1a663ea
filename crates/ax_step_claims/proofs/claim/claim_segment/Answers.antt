use Rattle.std.proofs.Common.{◌≡◌, ℕ, ◌+◌, ◌<◌, [], ◌∷◌, ◌∙◌, sym, ap, subst}
use Rattle.ax_state.specs.State.{actor_name}
use Rattle.ax_world.specs.WorldTables.{DeskTables, state_of}
use Rattle.ax_world.specs.Moves.{IsMove}
use Rattle.ax_world.specs.declared.edit.Edit.{Edit}
use Rattle.ax_world.proofs.ProcessorStates.{place-declared}
use Rattle.ax_step_claims.specs.Claiming.{NamesOwned, refused_reply, hold_fence}
use Rattle.ax_step_claims.proofs.Answered.{refusal, grant, names-owned, refused-move, claim-move}
use Rattle.ax_step_claims.proofs.Moves.{ok-is}
use Rattle.ax_journal.specs.declared.reply.Reply.{Reply}
use Rattle.ax_step_claims.proofs.claim.claim_segment.Goals as goal

pub refusal-requires : goal.refusal-requires
refusal-requires c =
    let k = refusal c.args.segment c.in_ok-owner.owner c.clock-now.result _ c.in_ok-rows.rows c.claim.new.self (c.in-Err.refused, c.in-Err._owner) c.in-Err.ensures in
    subst (λ rows. NamesOwned rows c.in-Err.refused) (sym k.0) (names-owned _ _ _ _ c.in-Err.refused k.1)

pub returns-in-Err : goal.returns-in-Err
returns-in-Err c =
    let k = refusal c.args.segment c.in_ok-owner.owner c.clock-now.result _ c.in_ok-rows.rows c.claim.new.self (c.in-Err.refused, c.in-Err._owner) c.in-Err.ensures in
    let name : c.in_ok-owner.owner ≡ actor_name (state_of c.args.world.now.tables) c.args.actor = c.in_ok-owner.ensures ∙ c.actor_name.ensures in
    ok-is (IsMove c.args.world.now.tables _) _ c.refusal.result c.refusal.ensures
    (refused-move c.args.world.now.tables c.args.actor c.args.processor c.args.segment c.in_ok-rows.rows c.in-Err.refused _ c.clock-now.ensures.world (c.in_ok-rows.ensures ∙ c.rows.ensures)
    (rw (sym name, sym c.clock-now.ensures.value) k.1)
    (ap (λ rows. refused_reply rows c.in-Err.refused) k.0))

pub returns : goal.returns
returns c =
    let k = grant c.args.segment c.in_ok-owner.owner c.clock-now.result _ c.in_ok-rows.rows c.claim.new.self c.in_default.field-0 c.in_default.ensures in
    let held = c.parts.ensures ∙ ap (λ (d : DeskTables). d.held) c.desk.view_is in
    subst (IsMove c.args.world.now.tables _) (sym (c.of.ensures ∙ ap (λ es. record { edits = es; reply = Reply.Fenced (c.fence-fence.result + 1); report = [] }) (c.in_ok-edits.ensures
    ∙ ap (λ d. Edit.SetRows c.args.processor c.claim.new.self ∷ Edit.Fence (c.fence-fence.result + 1) ∷ Edit.SetDesk c.args.actor d ∷ [])
    (c.in_ok-desk.ensures ∙ ap (λ hs. record c.desk-desk.result.now { held = hs }) (c.in_ok-held.ensures ∙ ap (hold_fence c.args.processor c.args.segment (c.fence-fence.result + 1)) held)))))
    (claim-move c.args.world.now.tables c.args.actor c.args.processor c.args.segment c.clock-now.result (c.fence-fence.result + 1) c.in_ok-owner.owner c.in_ok-rows.rows c.claim.new.self c.desk-desk.result.now
    c.clock-now.ensures.world (place-declared c.args.world.now.tables c.args.processor c.clock-now.ensures.world c.requires.processor) (subst (λ (n : ℕ). c.args.actor < n) (sym c.clock-now.ensures.world.state.actors) c.requires.actor) c.desk-desk.ensures.desk c.desk-desk.ensures.batch
    c.clock-now.ensures.value (ap (λ n. n + 1) c.fence-fence.ensures.value) (c.in_ok-owner.ensures ∙ c.actor_name.ensures) (c.in_ok-rows.ensures ∙ c.rows.ensures) k)
