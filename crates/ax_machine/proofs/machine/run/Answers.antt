use Rattle.std.proofs.Common.{◌∙◌, ap, sym, subst}
use Rattle.ax_script.specs.Plans.{Plan}
use Rattle.ax_machine.specs.Promises.{IsRightRun}
use Rattle.ax_machine.proofs.Along.{along-start, along-has, along-next, along-whole}
use Rattle.ax_machine.proofs.RunsWellFormed.{right-run}
use Rattle.ax_machine.proofs.machine.run.Goals as goal

pub loop-actor-init : goal.loop-actor-init
loop-actor-init c = (c.in_ok-machine.ensures.plan, along-start _ c.in_ok-machine.ensures.journal)

pub perform-requires : goal.perform-requires
perform-requires c =
    along-has c.loop-actor.machine _ c.loop-actor.actor-index 0 c.facts.ensures c.loop-actor.invariant.1
    (c.parts-actor-items.ensures ∙ c.in_ok-machine.ensures.schedule ∙ ap (λ (p : Plan). p.schedule) (sym c.loop-actor.invariant.0)) c.loop-actor-test.true

pub loop-actor-preserved : goal.loop-actor-preserved
loop-actor-preserved c = (
  c.in_ok-perform.ensures.plan ∙ c.loop-actor.invariant.0,
  along-next c.loop-actor.machine c.perform.new.self _ c.loop-actor.actor-index 0 c.facts.ensures c.loop-actor.invariant.1
      (c.parts-actor-items.ensures ∙ c.in_ok-machine.ensures.schedule ∙ ap (λ (p : Plan). p.schedule) (sym c.loop-actor.invariant.0)) c.loop-actor-test.true c.in_ok-perform.ensures.plan c.in_ok-perform.ensures.entry,
)

pub returns-clause-journal : goal.returns-clause-journal
returns-clause-journal c =
    (along-whole c.loop-actor.machine c.args.plan _ c.loop-actor.actor-index c.facts-2.ensures c.loop-actor.invariant.0
    (c.parts-actor-items.ensures ∙ c.in_ok-machine.ensures.schedule ∙ ap (λ (p : Plan). p.schedule) (sym c.loop-actor.invariant.0)) c.loop-actor.auto.actor-index-end c.loop-actor-test.false c.loop-actor.invariant.1).journal

pub returns-clause-state : goal.returns-clause-state
returns-clause-state c =
    (along-whole c.loop-actor.machine c.args.plan _ c.loop-actor.actor-index c.facts-2.ensures c.loop-actor.invariant.0
    (c.parts-actor-items.ensures ∙ c.in_ok-machine.ensures.schedule ∙ ap (λ (p : Plan). p.schedule) (sym c.loop-actor.invariant.0)) c.loop-actor.auto.actor-index-end c.loop-actor-test.false c.loop-actor.invariant.1).state

pub returns-clause-places : goal.returns-clause-places
returns-clause-places c =
    (along-whole c.loop-actor.machine c.args.plan _ c.loop-actor.actor-index c.facts-2.ensures c.loop-actor.invariant.0
    (c.parts-actor-items.ensures ∙ c.in_ok-machine.ensures.schedule ∙ ap (λ (p : Plan). p.schedule) (sym c.loop-actor.invariant.0)) c.loop-actor.auto.actor-index-end c.loop-actor-test.false c.loop-actor.invariant.1).places

pub returns-clause-orders : goal.returns-clause-orders
returns-clause-orders c =
    (along-whole c.loop-actor.machine c.args.plan _ c.loop-actor.actor-index c.facts-2.ensures c.loop-actor.invariant.0
    (c.parts-actor-items.ensures ∙ c.in_ok-machine.ensures.schedule ∙ ap (λ (p : Plan). p.schedule) (sym c.loop-actor.invariant.0)) c.loop-actor.auto.actor-index-end c.loop-actor-test.false c.loop-actor.invariant.1).orders

pub returns-clause-right : goal.returns-clause-right
returns-clause-right c = subst IsRightRun c.loop-actor.invariant.0 (right-run _ c.facts-2.ensures.commands c.facts-2.ensures.plan c.facts-2.ensures.performed)
