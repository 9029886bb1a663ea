use Rattle.std.proofs.Common.{sym, ◌∙◌}
use Rattle.ax_upcast.proofs.Counts.{flat_map-untouched}
use Rattle.ax_upcast.proofs.chain.replaced.Goals as goal

pub returns-then-not-is_for_any : goal.returns-then-not-is_for_any
returns-then-not-is_for_any c =
    let untouched = rw c.deref.ensures.value at (sym c.is_for_any.ensures ∙ c.if-not-is_for_any.true) in
    sym (flat_map-untouched c.args.rule.now c.args.members.items untouched)
