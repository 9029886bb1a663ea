use Rattle.std.proofs.Common.{◌∙◌, ap, map, None}
use Rattle.ax_state.specs.State.{first_processors, row_count}
use Rattle.ax_world.specs.WorldTables.{bare, no_desk}
use Rattle.ax_world.proofs.Starts.{started, starting-is}
use Rattle.ax_world.proofs.world.World.start.Goals as goal

pub invariant_of-result : goal.invariant_of-result
invariant_of-result c =
    started (record { sheet = c.args.sheet; processors = c.args.processors; actors = c.args.actors }) _ _ _ _ _
    (c.row_count-fence.ensures ∙ ap row_count c.parts-3.ensures) c.new.ensures c.new-2.ensures.items
    (c.in_ok-processor_tables.ensures ∙ ap (λ qs. map (bare None) (first_processors qs 1)) c.parts.ensures)
    (c.in_ok-desks.ensures ∙ ap (map (λ actor. no_desk)) c.parts-2.ensures)
    c.commands.ensures.shape (record { processors = c.requires.processors; actors = c.requires.actors })

pub returns : goal.returns
returns c =
    starting-is (record { sheet = c.args.sheet; processors = c.args.processors; actors = c.args.actors }) _ _ _ _ _
    (c.row_count-fence.ensures ∙ ap row_count c.parts-3.ensures) c.new.ensures c.new-2.ensures.items
    (c.in_ok-processor_tables.ensures ∙ ap (λ qs. map (bare None) (first_processors qs 1)) c.parts.ensures)
    (c.in_ok-desks.ensures ∙ ap (map (λ actor. no_desk)) c.parts-2.ensures)
