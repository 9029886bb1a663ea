use Rattle.std.proofs.Common.{ℕ, ◌+◌, ◌<◌, [], ◌∷◌, ◌∙◌, sym, ap, subst}
use Rattle.ax_world.specs.WorldTables.{DeskTables, state_of}
use Rattle.ax_world.specs.declared.edit.Edit.{Edit}
use Rattle.ax_journal.specs.declared.reply.Reply.{Reply}
use Rattle.ax_step_claims.specs.Claiming.{let_go}
use Rattle.ax_world.specs.Moves.{IsMove}
use Rattle.ax_world.proofs.HeldFences.{held-desk}
use Rattle.ax_world.proofs.ProcessorStates.{place-declared}
use Rattle.ax_step_claims.proofs.HeldMoves.{release-refused, release-made}
use Rattle.ax_step_claims.proofs.Moves.{ok-is}
use Rattle.ax_step_claims.proofs.held.release_segment.Goals as goal

pub refusal-requires : goal.refusal-requires
refusal-requires c =
    let held = held-desk c.args.world.now.tables c.args.actor c.args.processor c.args.segment c.desk-desk.result.now c.parts.result.now c.held_fence-held.result c.desk-desk.ensures.desk (c.parts.ensures ∙ ap (λ (d : DeskTables). d.held) c.desk.view_is) c.held_fence-held.ensures in
    (release-refused c.args.world.now.tables c.args.actor c.args.processor c.args.segment c.facts.ensures c.in_ok-rows.rows c.release.new.self c.held_fence-held.result (c.in_ok-rows.ensures ∙ c.rows.ensures) held
    (c.fence-fence.result + 1) (ap (λ n. n + 1) c.fence-fence.ensures.value) c.in-Err.refused c.in-Err.ensures).named

pub returns-in-Err : goal.returns-in-Err
returns-in-Err c =
    let held = held-desk c.args.world.now.tables c.args.actor c.args.processor c.args.segment c.desk-desk.result.now c.parts.result.now c.held_fence-held.result c.desk-desk.ensures.desk (c.parts.ensures ∙ ap (λ (d : DeskTables). d.held) c.desk.view_is) c.held_fence-held.ensures in
    ok-is (IsMove c.args.world.now.tables _) _ c.refusal.result c.refusal.ensures
    (release-refused c.args.world.now.tables c.args.actor c.args.processor c.args.segment c.facts.ensures c.in_ok-rows.rows c.release.new.self c.held_fence-held.result (c.in_ok-rows.ensures ∙ c.rows.ensures) held
    (c.fence-fence.result + 1) (ap (λ n. n + 1) c.fence-fence.ensures.value) c.in-Err.refused c.in-Err.ensures).move

pub returns : goal.returns
returns c =
    let held = held-desk c.args.world.now.tables c.args.actor c.args.processor c.args.segment c.desk-desk.result.now c.parts.result.now c.held_fence-held.result c.desk-desk.ensures.desk (c.parts.ensures ∙ ap (λ (d : DeskTables). d.held) c.desk.view_is) c.held_fence-held.ensures in
    let there = c.parts-2.ensures ∙ ap (λ (d : DeskTables). d.held) c.desk.view_is in
    subst (IsMove c.args.world.now.tables _) (sym (c.of.ensures ∙ ap (λ es. record { edits = es; reply = Reply.Done; report = [] }) (c.in_ok-edits.ensures
    ∙ ap (λ d. Edit.SetRows c.args.processor c.release.new.self ∷ Edit.Fence (c.fence-fence.result + 1) ∷ Edit.SetDesk c.args.actor d ∷ [])
    (c.in_ok-desk.ensures ∙ ap (λ hs. record c.desk-desk.result.now { held = hs }) (c.in_ok-left.ensures ∙ ap (let_go c.args.processor c.args.segment) there)))))
    (release-made c.args.world.now.tables c.args.actor c.args.processor c.args.segment c.facts.ensures c.in_ok-rows.rows c.release.new.self c.held_fence-held.result (c.in_ok-rows.ensures ∙ c.rows.ensures) held
    (c.fence-fence.result + 1) (ap (λ n. n + 1) c.fence-fence.ensures.value) c.in_default.field-0 c.desk-desk.result.now (place-declared c.args.world.now.tables c.args.processor c.facts.ensures c.requires.processor)
    (subst (λ (n : ℕ). c.args.actor < n) (sym c.facts.ensures.state.actors) c.requires.actor) c.desk-desk.ensures.desk c.desk-desk.ensures.batch c.in_default.ensures)
