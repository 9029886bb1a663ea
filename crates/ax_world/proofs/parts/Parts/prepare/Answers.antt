use Rattle.std.proofs.Common.{sym, ap}
use Rattle.ax_world.proofs.Rooms.{room-made}
use Rattle.ax_world.proofs.parts.Parts.prepare.Goals as goal

pub returns-clause-room : goal.returns-clause-room
returns-clause-room c =
    room-made c.reserve_entries.result c.args.self.now.tables c.args.edits.now c.reserve_cells.new.log.room c.self.inside.processor_tables.items c.reserve_entries.new.processor_tables.items c.requires.can
    (ap (λ v. v.tables.processor_tables) (sym c.self.view_is)) c.reserve_entries.ensures.processor_tables c.in_ok-reserve_cells.ensures.room c.reserve_entries.ensures.rows c.reserve_entries.ensures.marks
