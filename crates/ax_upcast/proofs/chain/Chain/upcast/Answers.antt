use Rattle.ax_upcast.specs.Upcast.{event_of_record}
use Rattle.ax_upcast.proofs.Counts.{few_at_end}
use Rattle.ax_upcast.proofs.chain.Chain.upcast.Goals as goal

pub numbered-requires : goal.numbered-requires
numbered-requires c =
    let past = rw c.parts-rule-items.ensures.value at c.loop-rule-test.false in
    let same = rw c.parts-rule-items.ensures.value at c.loop-rule.invariant in
    few_at_end c.args.self.now (event_of_record c.args.event.now) c.loop-rule.rule-index c.loop-rule.members.items c.parts-rule-items.ensures.few past same
