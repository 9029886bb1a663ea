use Rattle.std.proofs.Common.{◌+◌, ◌<◌, ◌≤◌, ◌≡◌, ℕ, List, length, arith, ap, ap₂, sym, subst, ◌∙◌}
use Rattle.std.specs.Prelude.{map, Err}
use Rattle.std.specs.List.{list_all}
use Rattle.std.proofs.lemmas.Result.{IfOk-weaker}
use Rattle.ax_log.specs.Order.{max_cells, has_few_fields}
use Rattle.ax_log.specs.Puts.{CanPutAll, puts_at}
use Rattle.ax_log.specs.Answers.{HasCells, GoesOn, IsConflict, IsAppendAnswer, void_among}
use Rattle.ax_state.specs.Setting.{name_at}
use Rattle.ax_state.specs.State.{Reservation}
use Rattle.ax_state.specs.WellFormed.{IsReservation}
use Rattle.ax_values.specs.declared.cell.Cell.{Cell}
use Rattle.ax_log.specs.declared.fault.LogFault.{LogFault}
use Rattle.ax_log.specs.declared.put.CellPut.{CellPut}
use Rattle.ax_values.specs.declared.record.Record.{Record}
use Rattle.ax_world.specs.WorldTables.{desk_of, state_of}
use Rattle.ax_world.specs.Moves.{IsMove}
use Rattle.ax_step_log.specs.Logging.{appended_unless}
use Rattle.ax_step_log.specs.SendParts.{void_puts}
use Rattle.ax_step_log.proofs.AppendKept.{holds, within-held}
use Rattle.ax_step_log.proofs.Appends.{move-taken, move-conflict, has-cells, passed, voids-of}
use Rattle.ax_step_log.proofs.appending.append_records.Goals as goal

pub overflow_cast-count : goal.overflow_cast-count
overflow_cast-count c =
    let held = holds (state_of c.args.world.now.tables) c.args.actor (desk_of c.args.desk.now) c.args.reservation.now c.requires.desk c.requires.reservation c.log-log.ensures.world.state in
    let within : c.args.reservation.now.first + length c.args.reservation.now.records ≤ length c.args.world.now.tables.cells = within-held c.args.world.now.tables.cells (name_at c.args.world.now.tables.setting.actors c.args.actor) c.args.reservation.now held in
    let size : length c.args.world.now.tables.cells ≤ max_cells = c.log-log.ensures.world.state.log.size in
    let count : length c.parts.result.now ≡ length c.args.reservation.now.records = ap length (c.parts.ensures ∙ ap (λ (r : Reservation). r.records) c.reservation.view_is) in
    omega arith

pub append-requires-clause-some : goal.append-requires-clause-some
append-requires-clause-some c =
    let held = holds (state_of c.args.world.now.tables) c.args.actor (desk_of c.args.desk.now) c.args.reservation.now c.requires.desk c.requires.reservation c.log-log.ensures.world.state in
    let same : length c.into_parts.result.items ≡ length c.args.reservation.now.records = ap length (c.into_parts.ensures ∙ c.in_ok-records.ensures ∙ ap (λ (r : Reservation). r.records) c.reservation.view_is) in
    let some : 0 < length c.args.reservation.now.records = held.some in omega arith

pub append-requires-clause-place : goal.append-requires-clause-place
append-requires-clause-place c =
    let held = holds (state_of c.args.world.now.tables) c.args.actor (desk_of c.args.desk.now) c.args.reservation.now c.requires.desk c.requires.reservation c.log-log.ensures.world.state in
    passed HasCells c.args.world.now.tables.cells c.log-log.result.now.cells c.args.reservation.now.first c.reservation.inside.first c.args.reservation.now.records c.into_parts.result.items
    (sym c.log-log.ensures.value) (sym (ap (λ (r : Reservation). r.first) c.reservation.view_is)) (sym (c.into_parts.ensures ∙ c.in_ok-records.ensures ∙ ap (λ (r : Reservation). r.records) c.reservation.view_is))
    (has-cells c.args.world.now.tables.cells (name_at c.args.world.now.tables.setting.actors c.args.actor) c.args.reservation.now held)

pub void_puts-requires : goal.void_puts-requires
void_puts-requires c =
    let held = holds (state_of c.args.world.now.tables) c.args.actor (desk_of c.args.desk.now) c.args.reservation.now c.requires.desk c.requires.reservation c.log-log.ensures.world.state in
    let within : c.args.reservation.now.first + length c.args.reservation.now.records ≤ length c.args.world.now.tables.cells = within-held c.args.world.now.tables.cells (name_at c.args.world.now.tables.setting.actors c.args.actor) c.args.reservation.now held in
    let size : length c.args.world.now.tables.cells ≤ max_cells = c.log-log.ensures.world.state.log.size in
    let first : c.reservation.inside.first ≡ c.args.reservation.now.first = ap (λ (r : Reservation). r.first) c.reservation.view_is in
    let count : length c.parts.result.now ≡ length c.args.reservation.now.records = ap length (c.parts.ensures ∙ ap (λ (r : Reservation). r.records) c.reservation.view_is) in
    omega arith

pub unreachable-requires : goal.unreachable-requires
unreachable-requires c =
    let held = holds (state_of c.args.world.now.tables) c.args.actor (desk_of c.args.desk.now) c.args.reservation.now c.requires.desk c.requires.reservation c.log-log.ensures.world.state in
    let within : c.args.reservation.now.first + length c.args.reservation.now.records ≤ length c.args.world.now.tables.cells = within-held c.args.world.now.tables.cells (name_at c.args.world.now.tables.setting.actors c.args.actor) c.args.reservation.now held in
    let size : length c.args.world.now.tables.cells ≤ max_cells = c.log-log.ensures.world.state.log.size in
    let first : c.reservation.inside.first ≡ c.args.reservation.now.first = ap (λ (r : Reservation). r.first) c.reservation.view_is in
    let count : length c.into_parts.result.items ≡ length c.args.reservation.now.records = ap length (c.into_parts.ensures ∙ c.in_ok-records.ensures ∙ ap (λ (r : Reservation). r.records) c.reservation.view_is) in
    let full : max_cells < c.reservation.inside.first + length c.into_parts.result.items = subst (λ (f : LogFault). IsAppendAnswer {A = List CellPut} c.log-log.result.now.cells c.reservation.inside.first c.into_parts.result.items (Err f)) c.in-Err-LogFull.field-0-is c.in-Err-LogFull.ensures.cause in omega arith

pub returns-in_ok-desk-in-Ok : goal.returns-in_ok-desk-in-Ok
returns-in_ok-desk-in-Ok c =
    IfOk-weaker c.cells_and_desk.result _ _
    (λ mv e. subst (IsMove c.args.world.now.tables (appended_unless (state_of c.args.world.now.tables) c.args.actor c.args.reservation.now (void_among c.args.world.now.tables.cells c.args.reservation.now.first c.args.reservation.now.records))) (sym e)
    (move-taken c.args.world.now.tables c.args.actor c.args.reservation.now c.reservation.inside.first_seq (length c.parts.result.now) c.in-Ok.puts c.args.desk.now c.in_ok-desk-in-Ok.desk c.log-log.ensures.world c.requires.desk c.requires.batch c.requires.reservation goes puts can c.in_ok-desk-in-Ok.ensures
    (ap (λ (r : Reservation). r.first_seq) c.reservation.view_is) (ap length (c.parts.ensures ∙ ap (λ (r : Reservation). r.records) c.reservation.view_is)))) c.cells_and_desk.ensures
  where
    held : IsReservation c.args.world.now.tables.cells (name_at c.args.world.now.tables.setting.actors c.args.actor) c.args.reservation.now
    held = holds (state_of c.args.world.now.tables) c.args.actor (desk_of c.args.desk.now) c.args.reservation.now c.requires.desk c.requires.reservation c.log-log.ensures.world.state

    records : c.into_parts.result.items ≡ c.args.reservation.now.records
    records = c.into_parts.ensures ∙ c.in_ok-records.ensures ∙ ap (λ (r : Reservation). r.records) c.reservation.view_is

    goes : GoesOn c.args.world.now.tables.cells c.args.reservation.now.first c.args.reservation.now.records
    goes = passed (λ cs i rs. GoesOn cs i rs) c.log-log.result.now.cells c.args.world.now.tables.cells c.reservation.inside.first c.args.reservation.now.first c.into_parts.result.items c.args.reservation.now.records c.log-log.ensures.value (ap (λ (r : Reservation). r.first) c.reservation.view_is) records c.in-Ok.ensures.cause

    puts : c.in-Ok.puts ≡ puts_at c.args.reservation.now.first (map Cell.Event c.args.reservation.now.records)
    puts = c.in-Ok.ensures.puts ∙ ap₂ (λ (i : ℕ) (rs : List Record). puts_at i (map Cell.Event rs)) (ap (λ (r : Reservation). r.first) c.reservation.view_is) records

    can : CanPutAll c.args.world.now.tables.cells c.in-Ok.puts
    can = subst (λ (cs : List Cell). CanPutAll cs c.in-Ok.puts) c.log-log.ensures.value (c.in-Ok.ensures.fits (ap (λ (rs : List Record). list_all has_few_fields rs) records ∙ held.small))

pub returns-in_ok-desk-in-Err-Conflict : goal.returns-in_ok-desk-in-Err-Conflict
returns-in_ok-desk-in-Err-Conflict c =
    IfOk-weaker c.cells_and_desk-in-Err-Conflict.result _ _
    (λ mv e. subst (IsMove c.args.world.now.tables (appended_unless (state_of c.args.world.now.tables) c.args.actor c.args.reservation.now (void_among c.args.world.now.tables.cells c.args.reservation.now.first c.args.reservation.now.records))) (sym e)
    (move-conflict c.args.world.now.tables c.args.actor c.args.reservation.now c.in-Err-Conflict.expected c.in-Err-Conflict.found _ _ c.of-puts.result c.args.desk.now c.in_ok-desk-in-Err-Conflict.desk c.log-log.ensures.world c.requires.desk c.requires.batch c.requires.reservation conflict puts c.in_ok-desk-in-Err-Conflict.ensures c.in-Err-Conflict.expected-is c.in-Err-Conflict.found-is)) c.cells_and_desk-in-Err-Conflict.ensures
  where
    records : c.into_parts.result.items ≡ c.args.reservation.now.records
    records = c.into_parts.ensures ∙ c.in_ok-records.ensures ∙ ap (λ (r : Reservation). r.records) c.reservation.view_is

    conflict : IsConflict c.args.world.now.tables.cells c.args.reservation.now.first c.args.reservation.now.records c.in-Err-Conflict.expected c.in-Err-Conflict.found
    conflict = passed (λ cs i rs. IsConflict cs i rs c.in-Err-Conflict.expected c.in-Err-Conflict.found) c.log-log.result.now.cells c.args.world.now.tables.cells c.reservation.inside.first c.args.reservation.now.first c.into_parts.result.items c.args.reservation.now.records c.log-log.ensures.value (ap (λ (r : Reservation). r.first) c.reservation.view_is) records (subst (λ (f : LogFault). IsAppendAnswer {A = List CellPut} c.log-log.result.now.cells c.reservation.inside.first c.into_parts.result.items (Err f)) c.in-Err-Conflict.field-0-is c.in-Err-Conflict.ensures.cause)

    cells : c.cells.result.now ≡ c.args.world.now.tables.cells
    cells = c.cells.ensures.value ∙ c.log-log.ensures.value

    first : c.reservation.inside.first ≡ c.args.reservation.now.first
    first = ap (λ (r : Reservation). r.first) c.reservation.view_is

    count : length c.parts.result.now ≡ length c.args.reservation.now.records
    count = ap length (c.parts.ensures ∙ ap (λ (r : Reservation). r.records) c.reservation.view_is)

    puts : c.of-puts.result ≡ void_puts c.args.world.now.tables.cells c.args.reservation.now.first (length c.args.reservation.now.records)
    puts = c.of-puts.ensures ∙ c.in_ok-void_puts-in-Err-Conflict.ensures ∙ voids-of c.cells.result.now c.args.world.now.tables.cells c.reservation.inside.first c.args.reservation.now.first (length c.parts.result.now) (length c.args.reservation.now.records) cells first count
