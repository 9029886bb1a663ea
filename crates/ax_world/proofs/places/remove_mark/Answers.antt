use Rattle.std.proofs.Common.{arith}
use Rattle.ax_world.specs.EditsApplied.{mark_removed}
use Rattle.ax_world.proofs.OneProcessorChanges.{tables-placed, rooms-kept}
use Rattle.ax_world.proofs.places.remove_mark.Goals as goal

pub returns-clause-processor_tables : goal.returns-clause-processor_tables
returns-clause-processor_tables c = tables-placed (mark_removed c.args.item.now) c.args.processor_tables.now.items c.args.processor c.index_mut-place.result.now c.remove_mark.new.self c.requires.declared c.index_mut-place.ensures.value c.remove_mark.ensures.place

pub returns-clause-rows : goal.returns-clause-rows
returns-clause-rows c = rooms-kept (λ r. r.rows) c.args.processor_tables.now.items c.args.processor c.index_mut-place.result.now c.remove_mark.new.self c.requires.declared c.index_mut-place.ensures.value (omega (arith, c.remove_mark.ensures.rows))

pub returns-clause-marks : goal.returns-clause-marks
returns-clause-marks c = rooms-kept (λ r. r.marks) c.args.processor_tables.now.items c.args.processor c.index_mut-place.result.now c.remove_mark.new.self c.requires.declared c.index_mut-place.ensures.value c.remove_mark.ensures.marks
