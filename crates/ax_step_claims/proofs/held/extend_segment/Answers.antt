use Rattle.std.proofs.Common.{[], ◌∙◌, sym, ap, subst}
use Rattle.ax_world.specs.WorldTables.{DeskTables}
use Rattle.ax_world.specs.Moves.{IsMove}
use Rattle.ax_world.proofs.HeldFences.{held-desk}
use Rattle.ax_world.proofs.ProcessorStates.{place-declared}
use Rattle.ax_step_claims.proofs.HeldMoves.{extend-refused, extend-made}
use Rattle.ax_step_claims.proofs.Moves.{ok-is}
use Rattle.ax_journal.specs.declared.reply.Reply.{Reply}
use Rattle.ax_step_claims.proofs.held.extend_segment.Goals as goal

pub refusal-requires : goal.refusal-requires
refusal-requires c =
    let held = held-desk c.args.world.now.tables c.args.actor c.args.processor c.args.segment c.desk.result.now c.parts.result.now c.held_fence-held.result c.desk.ensures.desk (c.parts.ensures ∙ ap (λ (d : DeskTables). d.held) c.behind-world.view_is) c.held_fence-held.ensures in
    (extend-refused c.args.world.now.tables c.args.actor c.args.processor c.args.segment c.clock-now.ensures.world c.in_ok-rows.rows c.extend.new.self c.held_fence-held.result (c.in_ok-rows.ensures ∙ c.rows.ensures) held
    c.clock-now.result c.clock-now.ensures.value c.in-Err.refused c.in-Err.ensures).named

pub returns-in-Err : goal.returns-in-Err
returns-in-Err c =
    let held = held-desk c.args.world.now.tables c.args.actor c.args.processor c.args.segment c.desk.result.now c.parts.result.now c.held_fence-held.result c.desk.ensures.desk (c.parts.ensures ∙ ap (λ (d : DeskTables). d.held) c.behind-world.view_is) c.held_fence-held.ensures in
    ok-is (IsMove c.args.world.now.tables _) _ c.refusal.result c.refusal.ensures
    (extend-refused c.args.world.now.tables c.args.actor c.args.processor c.args.segment c.clock-now.ensures.world c.in_ok-rows.rows c.extend.new.self c.held_fence-held.result (c.in_ok-rows.ensures ∙ c.rows.ensures) held
    c.clock-now.result c.clock-now.ensures.value c.in-Err.refused c.in-Err.ensures).move

pub returns : goal.returns
returns c =
    let held = held-desk c.args.world.now.tables c.args.actor c.args.processor c.args.segment c.desk.result.now c.parts.result.now c.held_fence-held.result c.desk.ensures.desk (c.parts.ensures ∙ ap (λ (d : DeskTables). d.held) c.behind-world.view_is) c.held_fence-held.ensures in
    subst (IsMove c.args.world.now.tables _) (sym (c.of.ensures ∙ ap (λ es. record { edits = es; reply = Reply.Now c.clock-now.result; report = [] }) c.in_ok-edits.ensures))
    (extend-made c.args.world.now.tables c.args.actor c.args.processor c.args.segment c.clock-now.ensures.world c.in_ok-rows.rows c.extend.new.self c.held_fence-held.result (c.in_ok-rows.ensures ∙ c.rows.ensures) held
    c.clock-now.result c.clock-now.ensures.value c.in_default.field-0 (place-declared c.args.world.now.tables c.args.processor c.clock-now.ensures.world c.requires.processor) c.in_default.ensures)
