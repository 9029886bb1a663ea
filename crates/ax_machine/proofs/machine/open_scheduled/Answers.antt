use Rattle.std.proofs.Common.{◌≡◌, ◌+◌, ◌≤◌, ℕ, List, length, ap, sym, ◌∙◌, subst, arith}
use Rattle.ax_state.specs.WellFormed.{AreCommands}
use Rattle.ax_world.specs.WorldTables.{starting}
use Rattle.ax_journal.specs.declared.order.Order.{Order}
use Rattle.ax_script.specs.declared.plan.PlanParts.{PlanParts}
use Rattle.ax_script.specs.Plans.{Plan, IsPlan}
use Rattle.ax_script.specs.Queues.{all_of}
use Rattle.ax_machine.specs.Machines.{IsMachine}
use Rattle.ax_machine.proofs.Performed.{machine-start}
use Rattle.ax_machine.proofs.machine.open_scheduled.Goals as goal

-- a place for each turn of the schedule is one for each order
room-start : (plan : Plan) (left : List (List Order)) (len turns room : ℕ) → IsPlan plan → len ≡ 0 → left ≡ plan.orders → turns ≡ length plan.schedule → turns ≤ room → len + length (all_of left) ≤ room
room-start plan left len turns room p e l t r =
    let whole = p.schedule.whole in
    let all = ap (λ (q : List (List Order)). length (all_of q)) l in omega (arith, e, t, r, whole, all)

pub invariant_of-machine : goal.invariant_of-machine
invariant_of-machine c =
    let orders = c.in_ok-left.ensures ∙ ap (λ (r : PlanParts). r.orders) c.into_parts-sheet.ensures.value in
    let tables = c.in_ok-world.ensures ∙ ap (λ (r : PlanParts). starting (record { sheet = r.sheet; processors = r.processors; actors = r.actors })) c.into_parts-sheet.ensures.value in
    let turns = ap length (c.parts.ensures ∙ ap (λ (r : PlanParts). r.schedule) c.into_parts-sheet.ensures.value) in (
      subst (λ (p : Plan). IsMachine (record { plan = p; journal = c.in_ok-journal.journal.items; tables = c.in_ok-world.world.tables; left = c.in_ok-left.left.items })) (sym c.of-kept.ensures)
          (machine-start c.args.plan _ _ _ c.into_parts-sheet.ensures.plan (subst AreCommands c.sheet.ensures.value c.commands.ensures.shape) c.requires c.in_ok-journal.ensures.items tables orders),
      room-start c.args.plan _ _ _ _ c.into_parts-sheet.ensures.plan c.in_ok-journal.ensures.len orders turns c.in_ok-journal.ensures.capacity,
    )
