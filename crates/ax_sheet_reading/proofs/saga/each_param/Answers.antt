use Rattle.std.proofs.Common.{◌+◌, drop, arith}
use Rattle.std.proofs.lemmas.Grind.{common_steps}
use Rattle.std.proofs.lemmas.List.{drop_more}
use Rattle.serde_json.specs.View.{members_view}
use Rattle.ax_sheet_rules.specs.Shape.{each_param}
use Rattle.ax_sheet_rules.proofs.Loops.{kept_param}
use Rattle.ax_sheet_reading.proofs.saga.each_param.Goals as goal

pub loop-param-preserved : goal.loop-param-preserved
loop-param-preserved c =
    kept_param c.loop-param.all c.param-item.result (drop (c.loop-param.param-index + 1) c.args.params.now) c.in-Some.key.now c.in-Some.value.now c.in-Some-2.given c.next.new.self
    (each_param c.args.params.now (members_view c.args.members.now.entries)) c.loop-param.invariant (grind (arith, common_steps, drop_more)) c.in-Some.ensures.steps
    (grind (arith, common_steps)) (grind (arith, common_steps))
