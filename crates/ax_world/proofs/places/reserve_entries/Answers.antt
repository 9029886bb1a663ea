use Rattle.std.proofs.Common.{rules, ◌∙◌}
use Rattle.std.proofs.lemmas.List.{length-set}
use Rattle.ax_state.specs.Every.{count}
use Rattle.ax_world.specs.WorldTables.{no_tables}
use Rattle.ax_world.specs.Fits.{puts_mark, puts_row}
use Rattle.ax_world.proofs.OneProcessorChanges.{unseen, rooms-next}
use Rattle.ax_world.proofs.places.reserve_entries.Goals as goal

pub returns-in_err-reserve-clause-processor_tables : goal.returns-in_err-reserve-clause-processor_tables
returns-in_err-reserve-clause-processor_tables c =
    unseen (λ x. x.place) no_tables c.loop-processor.processor_tables.items c.loop-processor.processor c.index_mut-place.result.now c.reserve.new.self (search rules) c.index_mut-place.ensures.value c.reserve.ensures.place ∙ c.loop-processor.invariant.1

pub loop-processor-preserved : goal.loop-processor-preserved
loop-processor-preserved c = (
  length-set c.loop-processor.processor_tables.items c.loop-processor.processor c.reserve.new.self ∙ c.loop-processor.invariant.0,
  unseen (λ x. x.place) no_tables c.loop-processor.processor_tables.items c.loop-processor.processor c.index_mut-place.result.now c.reserve.new.self (search rules) c.index_mut-place.ensures.value c.reserve.ensures.place ∙ c.loop-processor.invariant.1,
  rooms-next (λ r. r.rows) (λ q. count (puts_row q) c.args.edits.now) c.loop-processor.processor_tables.items c.loop-processor.processor c.reserve.new.self (search rules) (search rules) c.loop-processor.invariant.2,
  rooms-next (λ r. r.marks) (λ q. count (puts_mark q) c.args.edits.now) c.loop-processor.processor_tables.items c.loop-processor.processor c.reserve.new.self (search rules) (search rules) c.loop-processor.invariant.3,
)
