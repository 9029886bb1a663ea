use Rattle.std.proofs.Common.{arith}
use Rattle.ax_world.specs.EditsApplied.{row_put}
use Rattle.ax_world.proofs.OneProcessorChanges.{tables-placed, rooms-used, rooms-kept}
use Rattle.ax_world.proofs.places.put_row.Goals as goal

pub returns-clause-processor_tables : goal.returns-clause-processor_tables
returns-clause-processor_tables c = tables-placed (row_put c.args.aggregate c.args.value) c.args.processor_tables.now.items c.args.processor c.index_mut-place.result.now c.put_row.new.self c.requires.declared c.index_mut-place.ensures.value c.put_row.ensures.place

pub returns-clause-rows : goal.returns-clause-rows
returns-clause-rows c = rooms-used (λ r. r.rows) c.args.processor_tables.now.items c.args.processor c.index_mut-place.result.now c.put_row.new.self c.requires.declared c.index_mut-place.ensures.value c.put_row.ensures.rows

pub returns-clause-marks : goal.returns-clause-marks
returns-clause-marks c = rooms-kept (λ r. r.marks) c.args.processor_tables.now.items c.args.processor c.index_mut-place.result.now c.put_row.new.self c.requires.declared c.index_mut-place.ensures.value (omega (arith, c.put_row.ensures.marks))
