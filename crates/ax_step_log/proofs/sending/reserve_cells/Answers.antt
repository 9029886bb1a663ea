use Rattle.std.proofs.Common.{◌+◌, ◌<◌, ◌≤◌, ◌≡◌, length, arith, ap, sym, subst, ◌∙◌}
use Rattle.std.specs.Prelude.{Option, IfSome}
use Rattle.std.proofs.lemmas.Result.{IfOk-weaker}
use Rattle.ax_log.specs.Log.{length_of}
use Rattle.ax_log.specs.Order.{max_cells}
use Rattle.ax_state.specs.State.{Reservation}
use Rattle.ax_state.proofs.Lists.{IfSome-map}
use Rattle.ax_world.specs.WorldTables.{DeskTables, desk_of, state_of}
use Rattle.ax_world.specs.Moves.{IsMove}
use Rattle.ax_step_log.specs.Logging.{sent_events}
use Rattle.ax_step_log.specs.SendParts.{puts_number}
use Rattle.ax_step_log.proofs.Sends.{IsSend, make-send, move-send, number-reserved, stream-within}
use Rattle.ax_step_log.proofs.Appends.{older-within}
use Rattle.ax_step_log.proofs.sending.reserve_cells.Goals as goal

pub release-requires : goal.release-requires
release-requires c =
    let size : length c.args.world.now.tables.cells ≤ max_cells = c.log-log.ensures.world.state.log.size in
    subst (λ (o : Option Reservation). IfSome o (λ r. r.first + length r.records < 4294967296)) (sym (ap (λ (d : DeskTables). d.reservation) c.desk.view_is))
    (IfSome-map (λ r. r.first + length r.records ≤ length c.args.world.now.tables.cells) (λ r. r.first + length r.records < 4294967296) (λ r le. omega arith) c.desk-desk.result.now.reservation
    (older-within c.args.world.now.tables c.args.actor (desk_of c.desk-desk.result.now) c.log-log.ensures.world c.desk-desk.ensures.desk))

first-seq : (c : goal.In_ok-puts) → c.first_number-first_seq.result ≡ length_of c.args.aggregate.now c.args.world.now.tables.cells
first-seq c = number-reserved c.args.aggregate.now c.args.events c.log-log.result.now.cells c.args.world.now.tables.cells c.actor_name-name.result.now c.clock.result (length c.parts.result.now) c.in-Ok.puts c.first_number-first_seq.result
    c.log-log.ensures.value c.requires.fit (ap length c.parts.ensures) c.in-Ok.ensures.puts (c.first_number-first_seq.ensures ∙ ap puts_number c.parts-2.ensures)

pub records_of-requires : goal.records_of-requires
records_of-requires c =
    let size : length c.args.world.now.tables.cells ≤ max_cells = c.log-log.ensures.world.state.log.size in
    let seq : c.first_number-first_seq.result ≡ length_of c.args.aggregate.now c.args.world.now.tables.cells = first-seq c in
    let within : length_of c.args.aggregate.now c.args.world.now.tables.cells ≤ length c.args.world.now.tables.cells = stream-within c.args.aggregate.now c.args.world.now.tables.cells in
    let few : length c.args.events ≤ 8 = c.requires.fit.few in omega arith

pub returns : goal.returns
returns c =
    IfOk-weaker c.cells_and_desk.result _ _
    (λ mv e. subst (IsMove c.args.world.now.tables (sent_events (state_of c.args.world.now.tables) c.args.actor c.args.aggregate.now c.args.events)) (sym e)
    (move-send c.args.world.now.tables c.args.actor c.args.aggregate.now c.args.events c.in_ok-puts.puts c.desk-desk.result.now c.in_ok-desk.desk (length c.cells.result.now) (length c.parts.result.now) c.first_number-first_seq.result
    c.log-log.ensures.world c.requires.fit is_send first (ap length c.parts.ensures) seq)) c.cells_and_desk.ensures
  where
    first : length c.cells.result.now ≡ length c.args.world.now.tables.cells
    first = ap length (c.cells.ensures.value ∙ c.log-log.ensures.value)

    seq : c.first_number-first_seq.result ≡ length_of c.args.aggregate.now c.args.world.now.tables.cells
    seq = number-reserved c.args.aggregate.now c.args.events c.log-log.result.now.cells c.args.world.now.tables.cells c.actor_name-name.result.now c.clock.result (length c.parts.result.now) c.in-Ok.puts c.first_number-first_seq.result
        c.log-log.ensures.value c.requires.fit (ap length c.parts.ensures) c.in-Ok.ensures.puts (c.first_number-first_seq.ensures ∙ ap puts_number c.parts-2.ensures)

    is_send : IsSend c.args.world.now.tables c.args.actor c.args.aggregate.now c.args.events c.in_ok-puts.puts c.desk-desk.result.now c.in_ok-desk.desk
    is_send = make-send c.args.world.now.tables c.args.actor c.args.aggregate.now c.args.events c.log-log.result.now.cells c.cells-2.result.now c.actor_name-name.result.now c.clock.result c.first_number-first_seq.result (length c.parts.result.now) (length c.cells.result.now) c.in-Ok.puts c.in_ok-puts.puts c.in_ok-records_of.field-0 c.desk.inside.reservation c.desk-desk.result.now c.in_ok-desk.desk
        c.desk-desk.ensures.desk c.desk-desk.ensures.batch (ap (λ (d : DeskTables). d.reservation) c.desk.view_is) c.actor_name-name.ensures c.log-log.ensures.value (c.cells-2.ensures.value ∙ c.log-log.ensures.value) c.clock.ensures.value (ap length c.parts.ensures)
        c.in-Ok.ensures.puts c.in-Ok.ensures.cause c.in_ok-puts.ensures seq first c.in_ok-records_of.ensures c.in_ok-desk.ensures
