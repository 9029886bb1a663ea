use Rattle.std.proofs.Common.{◌∙◌, sym, ap, subst}
use Rattle.std.specs.Prelude.{position}
use Rattle.ax_claims.specs.Rows.{AreRows}
use Rattle.ax_claims.specs.Changes.{is_claimed, reset_rows}
use Rattle.ax_claims.proofs.HeldRows.{small-place, position-within, reset-kept}
use Rattle.ax_claims.proofs.rows.Rows.reset_all.Goals as goal

pub overflow_cast-first : goal.overflow_cast-first
overflow_cast-first c =
    record {
      fits = small-place c.self.inside.rows.items c.in-Some.place c.self.invariant
          (position-within (is_claimed c.args.actor.now c.args.now) c.self.inside.rows.items c.in-Some.place (c.in-Some.ensures ∙ ap (position (is_claimed c.args.actor.now c.args.now)) c.deref.ensures.value));
    }

pub invariant_of-self : goal.invariant_of-self
invariant_of-self c =
    subst AreRows (sym (c.in_ok-rows.ensures ∙ ap (reset_rows c.args.actor.now c.args.now c.args.fence) c.deref-2.ensures.value))
    (reset-kept c.args.actor.now c.args.now c.args.fence c.self.inside.rows.items c.self.invariant)
