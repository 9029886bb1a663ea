use Rattle.std.proofs.Common.{◌∙◌, ◌≡◌, ◌<◌, ap, Some, arith}
use Rattle.ax_segments.specs.Segments.{Segment, flipped}
use Rattle.ax_segments.proofs.Halves.{partner-partner, flipped-low, flipped-high}
use Rattle.ax_segments.proofs.segment.Segment.partner.Goals as goal
use Rattle.ax_segments.proofs.segment.Segment.partner.Goals.{then-self-bit, else-self-bit}

pub returns-clause-back : goal.returns-clause-back
returns-clause-back c =
    let s : Segment = record { id = c.self.inside.id; mask = c.self.inside.mask } in
    let low : 0 < s.mask = omega arith in
    let id : c.if-self-bit.id ≡ flipped s =
    elim c.if-self-bit.branch [ then-self-bit w ↦ (let f = flipped-low s w.if-self-bit.true in omega (arith, f, w.id-is)) | else-self-bit w ↦ (let f = flipped-high s w.if-self-bit.false in omega (arith, f, w.id-is)) ] in
    partner-partner s c.if-self-bit.id c.self.invariant low id ∙ ap Some c.self.view_is
