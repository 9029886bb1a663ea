use Rattle.std.proofs.Common.{◌∙◌, sym, ap, subst}
use Rattle.std.specs.Prelude.{IfOk}
use Rattle.std.specs.Option.{option_copied}
use Rattle.ax_claims.specs.Rows.{row_at}
use Rattle.ax_state.specs.State.{ProcessorState}
use Rattle.ax_world.specs.WorldTables.{DeskTables}
use Rattle.ax_world.specs.Moves.{IsMove}
use Rattle.ax_world.proofs.ProcessorStates.{processor_state-place}
use Rattle.ax_world.proofs.HeldFences.{held-desk}
use Rattle.ax_step_work.proofs.Fetches.{refused-fetch, held-row}
use Rattle.ax_step_work.proofs.fetching.fetch.Goals as goal

pub returns-in-Some : goal.returns-in-Some
returns-in-Some c =
    let held = held-desk c.args.world.now.tables c.args.actor c.args.processor c.args.segment c.desk.result.now c.parts.result.now c.held_fence-held.result c.desk.ensures.desk (c.parts.ensures ∙ ap (λ (d : DeskTables). d.held) c.behind-world.view_is) c.held_fence-held.ensures in
    let rows = c.get-row.ensures ∙ ap (row_at c.args.segment) (c.rows.ensures ∙ sym (ap (λ (x : ProcessorState). x.rows) (processor_state-place c.args.world.now.tables c.args.processor))) in
    subst (IsMove c.args.world.now.tables _) (sym c.without_edits.ensures)
    (refused-fetch c.args.world.now.tables c.args.actor c.args.processor c.args.segment c.args.most c.held_fence-held.result (option_copied c.get-row.result) c.in-Some.refusal c.facts.ensures held rows (sym c.held_check.ensures ∙ c.in-Some.is))

pub fetch_row-requires-clause-found : goal.fetch_row-requires-clause-found
fetch_row-requires-clause-found c =
    let held = held-desk c.args.world.now.tables c.args.actor c.args.processor c.args.segment c.desk.result.now c.parts.result.now c.held_fence-held.result c.desk.ensures.desk (c.parts.ensures ∙ ap (λ (d : DeskTables). d.held) c.behind-world.view_is) c.held_fence-held.ensures in
    (held-row c.args.world.now.tables c.args.actor c.args.processor c.args.segment c.args.most c.held_fence-held.result (option_copied c.get-row.result) c.in-Some-row.row.now held (c.get-row.ensures ∙ ap (row_at c.args.segment) c.rows.ensures) (ap option_copied c.in-Some-row.is) (sym c.held_check.ensures ∙ c.in_default.is)).found

pub fetch_row-requires-clause-held : goal.fetch_row-requires-clause-held
fetch_row-requires-clause-held c =
    let held = held-desk c.args.world.now.tables c.args.actor c.args.processor c.args.segment c.desk.result.now c.parts.result.now c.held_fence-held.result c.desk.ensures.desk (c.parts.ensures ∙ ap (λ (d : DeskTables). d.held) c.behind-world.view_is) c.held_fence-held.ensures in
    (held-row c.args.world.now.tables c.args.actor c.args.processor c.args.segment c.args.most c.held_fence-held.result (option_copied c.get-row.result) c.in-Some-row.row.now held (c.get-row.ensures ∙ ap (row_at c.args.segment) c.rows.ensures) (ap option_copied c.in-Some-row.is) (sym c.held_check.ensures ∙ c.in_default.is)).held

pub returns-in-Some-row : goal.returns-in-Some-row
returns-in-Some-row c =
    let held = held-desk c.args.world.now.tables c.args.actor c.args.processor c.args.segment c.desk.result.now c.parts.result.now c.held_fence-held.result c.desk.ensures.desk (c.parts.ensures ∙ ap (λ (d : DeskTables). d.held) c.behind-world.view_is) c.held_fence-held.ensures in
    let k = held-row c.args.world.now.tables c.args.actor c.args.processor c.args.segment c.args.most c.held_fence-held.result (option_copied c.get-row.result) c.in-Some-row.row.now held (c.get-row.ensures ∙ ap (row_at c.args.segment) c.rows.ensures) (ap option_copied c.in-Some-row.is) (sym c.held_check.ensures ∙ c.in_default.is) in
    subst (λ a. IfOk c.fetch_row.result (IsMove c.args.world.now.tables a)) k.is c.fetch_row.ensures
