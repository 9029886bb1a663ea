use Rattle.std.proofs.Common.{◌∙◌, sym, ap}
use Rattle.ax_claims.specs.Changes.{held_check}
use Rattle.ax_claims.proofs.Answered.{within, read-row}
use Rattle.ax_claims.proofs.rows.held_place.Goals as goal

pub bounds-rows-place : goal.bounds-rows-place
bounds-rows-place c = within c.args.segment c.args.rows.now c.in-Some.place c.in-Some.ensures.value

pub returns-in-Some-refused-clause-refused : goal.returns-in-Some-refused-clause-refused
returns-in-Some-refused-clause-refused c =
    ap (held_check c.args.held) (read-row c.args.segment c.args.rows.now c.in-Some.place c.index-rows-place.result c.in-Some.ensures.value c.index-rows-place.is) ∙ sym c.in-Some-refused.ensures

pub returns-in-None-clause-held : goal.returns-in-None-clause-held
returns-in-None-clause-held c =
    ap (held_check c.args.held) (read-row c.args.segment c.args.rows.now c.in-Some.place c.index-rows-place.result c.in-Some.ensures.value c.index-rows-place.is) ∙ sym c.in-None.ensures
