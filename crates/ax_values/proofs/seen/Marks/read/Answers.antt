use Rattle.std.proofs.Common.{sym, ap, ◌∙◌}
use Rattle.ax_values.specs.Seen.{bracketed}
use Rattle.ax_values.proofs.Seens.{from_pieces}
use Rattle.ax_values.proofs.seen.Marks.read.Goals as goal

pub returns-in-Some-2-clause-written : goal.returns-in-Some-2-clause-written
returns-in-Some-2-clause-written c =
    ap bracketed (from_pieces c.in-Some.inner.now c.in-Some-2.marks.items (sym (rw c.in-Some-2.is at c.in_ok-marks.ensures))) ∙ c.in-Some.ensures.whole
