use Rattle.std.proofs.Common.{sym, ◌∙◌, ap, arith, subst, true, ◌≡◌, length, List, ◌∷◌}
use Rattle.std.specs.Vec.Iter.{into_iter_items}
use Rattle.ax_ports.specs.declared.keeper.TableRow.{TableRow}
use Rattle.ax_ports.specs.declared.keeper.Change.{Change}
use Rattle.ax_ports.specs.Tables.{changes_made, are_rows}
use Rattle.ax_ports.proofs.RowOrder.{rows-changed}
use Rattle.ax_ports.proofs.memory_keeper.make_all.Goals as goal

pub loop-change-preserved : goal.loop-change-preserved
loop-change-preserved c =
    let steps : into_iter_items c.loop-change.change-iterator ≡ c.in-Some.change ∷ into_iter_items c.next.new.self = c.in-Some.ensures.steps.0 in
    let made = c.make.ensures.made in
    let rows = c.loop-change.rows.items in (
      tt,
      tt,
      omega (arith, ap length steps, c.make.ensures.len, c.make.ensures.capacity, c.loop-change.invariant.2),
      subst (λ (rs : List TableRow). are_rows rs ≡ true) (sym made) (rows-changed c.in-Some.change rows c.loop-change.invariant.3),
      ap (changes_made (into_iter_items c.next.new.self)) made ∙ (sym (ap (λ (cs : List Change). changes_made cs rows) steps) ∙ c.loop-change.invariant.4),
    )
