use Rattle.std.proofs.Common.{IsTrue, ◌++◌, ◌∷◌, [], length, filter, true, Some, None, refl, ◌∙◌, sym, ap, subst}
use Rattle.ax_log.specs.Log.{events}
use Rattle.ax_tokens.specs.Nodes.{token_of}
use Rattle.ax_tokens.specs.Tokens.{gaps_fit}
use Rattle.ax_claims.specs.Rows.{TokenRow}
use Rattle.ax_basis.specs.Basis.{Basis}
use Rattle.ax_world.specs.Moves.{IsMove}
use Rattle.ax_state.specs.Batches.{is_fetched}
use Rattle.ax_step_work.specs.Reach.{HasSettled}
use Rattle.ax_step_work.specs.Working.{fetched_token}
use Rattle.ax_step_work.specs.Sharing.{read_shares, taken}
use Rattle.ax_step_work.proofs.Fetches.{fetch-fits, fetch-settled, fetch-move, fetched-is}
use Rattle.ax_step_work.proofs.fetching.fetch_row.Goals as goal
use Rattle.ax_world.specs.declared.edit.Edit.{Edit}
use Rattle.ax_journal.specs.declared.reply.Reply.{Reply}

pub fetched_token-requires-clause-fits : goal.fetched_token-requires-clause-fits
fetched_token-requires-clause-fits c =
    subst (λ (r : TokenRow). IsTrue (gaps_fit r.token)) (sym c.row.view_is) (fetch-fits c.args.world.now.tables c.args.actor c.args.processor c.args.most c.args.row.now c.log.ensures.world c.requires.found)

pub fetched_token-requires-clause-settled : goal.fetched_token-requires-clause-settled
fetched_token-requires-clause-settled c =
    subst (λ (r : TokenRow). HasSettled r.token c.cells-cells.result.now) (sym c.row.view_is)
    (subst (HasSettled c.args.row.now.token) (sym (c.cells-cells.ensures.value ∙ c.log.ensures.value)) (fetch-settled c.args.world.now.tables c.args.actor c.args.processor c.args.most c.args.row.now c.log.ensures.world c.requires.found))

pub returns : goal.returns
returns c =
    let cells = c.cells-cells.ensures.value ∙ c.log.ensures.value in
    let old = ap token_of c.in_ok-old.ensures ∙ ap (λ (r : TokenRow). r.token) c.row.view_is in
    let made : Basis = record { processor = c.args.processor; segment = c.args.row.now.segment; fence = c.args.row.now.fence; old = token_of c.in_ok-old.old; new = token_of c.in_ok-new.new; keep = true; shares = c.in_ok-shares.shares } in
    subst (IsMove c.args.world.now.tables _)
    (sym (c.of.ensures ∙ ap (λ es. record { edits = es; reply = Reply.Fetched c.in_ok-shares.records; report = [] }) (c.in_ok-push.ensures.ok ∙ ap (λ es. es ++ Edit.SetDesk c.args.actor c.in_ok-desk.desk ∷ []) c.new-edits.ensures)))
    (fetch-move c.args.world.now.tables c.args.actor c.args.processor c.args.most c.args.row.now c.desk.result.now c.in_ok-desk.desk made c.cells-cells.result.now c.in_ok-shares.records
    c.log.ensures.world c.requires.projection c.requires.actor c.requires.found c.requires.held c.desk.ensures.desk cells
    (fetched-is c.args.world.now.tables c.args.processor c.args.most c.args.row.now (token_of c.in_ok-old.old) (token_of c.in_ok-new.new) c.cells-cells.result.now old
    (c.in_ok-new.ensures ∙ ap (λ (r : TokenRow). fetched_token None r.segment r.token c.cells-cells.result.now c.args.most) c.row.view_is) cells)
    refl
    (c.in_ok-shares.ensures.shares ∙ ap (λ (r : TokenRow). read_shares c.args.world.now.tables c.args.processor (taken r.segment r.token (token_of c.in_ok-new.new))) c.row.view_is
    ∙ ap (λ t. read_shares c.args.world.now.tables c.args.processor (taken c.args.row.now.segment t (token_of c.in_ok-new.new))) (sym old))
    (c.in_ok-desk.ensures
    ∙ ap (λ (r : TokenRow). record c.desk.result.now { batch = Some (record { processor = c.args.processor; segment = r.segment; fence = r.fence; old = token_of c.in_ok-old.old; new = token_of c.in_ok-new.new; keep = true; shares = c.in_ok-shares.shares }) }) c.row.view_is)
    (c.in_ok-shares.ensures.records ∙ ap (λ (r : TokenRow). length (filter (is_fetched None r.segment r.token (token_of c.in_ok-new.new)) (events c.args.world.now.tables.cells))) c.row.view_is
    ∙ ap (λ cs. length (filter (is_fetched None c.args.row.now.segment c.args.row.now.token (token_of c.in_ok-new.new)) (events cs))) (sym cells)))
