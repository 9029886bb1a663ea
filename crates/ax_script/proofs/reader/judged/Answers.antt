use Rattle.std.proofs.Common.{◌≡◌, None, sym, ◌∙◌}
use Rattle.ax_journal.specs.Form.{is_built}
use Rattle.ax_script.specs.Judging.{first_kind}
use Rattle.ax_script.specs.Stands.{Stands}
use Rattle.ax_script.proofs.Standing.{clear, has-actor, stands-line}
use Rattle.ax_script.proofs.reader.judged.Goals as goal

pub with_line-requires-clause-stands : goal.with_line-requires-clause-stands
with_line-requires-clause-stands c =
    let none : first_kind is_built c.args.reading c.args.line ≡ None = sym c.in_ok-kind.ensures ∙ c.in-None.is in
    let h : Stands c.args.reading = rw (← c.reading.view_is) c.reading.invariant in
    stands-line c.args.reading c.args.line h c.requires (clear is_built c.args.reading c.args.line none)

pub with_line-requires-clause-known : goal.with_line-requires-clause-known
with_line-requires-clause-known c =
    let none : first_kind is_built c.args.reading c.args.line ≡ None = sym c.in_ok-kind.ensures ∙ c.in-None.is in
    let h : Stands c.args.reading = rw (← c.reading.view_is) c.reading.invariant in
    has-actor c.args.reading c.args.line h (clear is_built c.args.reading c.args.line none)
