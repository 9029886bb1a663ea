use Rattle.std.proofs.Common.{◌+◌, [], ◌∙◌, sym, ap, subst}
use Rattle.ax_world.specs.WorldTables.{DeskTables, state_of}
use Rattle.ax_world.specs.Moves.{IsMove}
use Rattle.ax_step_claims.specs.Claiming.{refused_reply, split_at}
use Rattle.ax_world.proofs.HeldFences.{held-desk}
use Rattle.ax_world.proofs.ProcessorStates.{place-declared}
use Rattle.ax_step_claims.proofs.HeldMoves.{split-made, split-refused}
use Rattle.ax_step_claims.proofs.Moves.{ok-is}
use Rattle.ax_step_claims.proofs.halves.split_segment.Goals as goal

pub returns-in-Ok : goal.returns-in-Ok
returns-in-Ok c =
    let held = held-desk c.args.world.now.tables c.args.actor c.args.processor c.args.segment c.desk.result.now c.parts.result.now c.held_fence-held.result c.desk.ensures.desk (c.parts.ensures ∙ ap (λ (d : DeskTables). d.held) c.behind-world.view_is) c.held_fence-held.ensures in
    ok-is (IsMove c.args.world.now.tables _) _ c.split_move.result c.split_move.ensures
    (split-made c.args.world.now.tables c.args.actor c.args.processor c.args.segment c.facts.ensures c.in_ok-rows.rows c.split.new.self c.held_fence-held.result (c.in_ok-rows.ensures ∙ c.rows.ensures) held
    (c.fence-fence.result + 1) (ap (λ n. n + 1) c.fence-fence.ensures.value) c.in-Ok.field-0 (place-declared c.args.world.now.tables c.args.processor c.facts.ensures c.requires.processor) c.in-Ok.ensures)

pub returns-in-Err-Refused : goal.returns-in-Err-Refused
returns-in-Err-Refused c =
    let held = held-desk c.args.world.now.tables c.args.actor c.args.processor c.args.segment c.desk.result.now c.parts.result.now c.held_fence-held.result c.desk.ensures.desk (c.parts.ensures ∙ ap (λ (d : DeskTables). d.held) c.behind-world.view_is) c.held_fence-held.ensures in
    ok-is (IsMove c.args.world.now.tables _) _ c.refusal.result c.refusal.ensures
    (subst (λ x. IsMove c.args.world.now.tables (split_at (state_of c.args.world.now.tables) c.args.actor c.args.processor c.args.segment) (record { edits = []; reply = refused_reply c.split.new.self x; report = [] })) (sym c.in-Err-Refused.refused-is)
    (split-refused c.args.world.now.tables c.args.actor c.args.processor c.args.segment c.facts.ensures c.in_ok-rows.rows c.split.new.self c.held_fence-held.result (c.in_ok-rows.ensures ∙ c.rows.ensures) held
    (c.fence-fence.result + 1) (ap (λ n. n + 1) c.fence-fence.ensures.value) c.in-Err-Refused.refused (rw c.in-Err-Refused.field-0-is at c.in-Err-Refused.ensures)).move)
