use Rattle.ax_world.specs.WorldTables.{no_room}
use Rattle.ax_world.specs.EditsApplied.{rows_set}
use Rattle.ax_world.proofs.OneProcessorChanges.{tables-placed, unseen}
use Rattle.ax_world.proofs.places.set_rows.Goals as goal

pub returns-clause-processor_tables : goal.returns-clause-processor_tables
returns-clause-processor_tables c = tables-placed (rows_set c.args.rows) c.args.processor_tables.now.items c.args.processor c.index_mut-place.result.now c.set_rows.new.self c.requires c.index_mut-place.ensures.value c.set_rows.ensures.place

pub returns-clause-rooms : goal.returns-clause-rooms
returns-clause-rooms c = unseen (λ x. x.room) no_room c.args.processor_tables.now.items c.args.processor c.index_mut-place.result.now c.set_rows.new.self c.requires c.index_mut-place.ensures.value c.set_rows.ensures.room
