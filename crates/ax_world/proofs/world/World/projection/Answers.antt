use Rattle.std.proofs.Common.{Some, None, is_some, ◌∙◌, sym, ap, true≢false}
use Rattle.ax_state.specs.Every.{option_or}
use Rattle.ax_state.specs.Setting.{no_rules}
use Rattle.ax_world.proofs.Projections.{has-rules, named-rules}
use Rattle.ax_world.proofs.world.World.projection.Goals as goal

pub unreachable-requires : goal.unreachable-requires
unreachable-requires c =
    true≢false (sym (has-rules c.args.self.now.tables.setting c.args.processor c.facts.ensures.setting c.requires)
    ∙ ap is_some (named-rules c.args.self.now.tables.setting c.args.processor c.index-parts-processor.result c.parts.result.now c.sheet.result.now None c.requires c.index-parts-processor.is (c.parts.ensures ∙ c.processors.ensures) c.sheet.ensures c.in_default.ensures.value))

pub returns : goal.returns
returns c =
    sym (ap (option_or no_rules) (named-rules c.args.self.now.tables.setting c.args.processor c.index-parts-processor.result c.parts.result.now c.sheet.result.now (Some c.in-Some.rules.now) c.requires c.index-parts-processor.is (c.parts.ensures ∙ c.processors.ensures) c.sheet.ensures c.in-Some.ensures.value))
