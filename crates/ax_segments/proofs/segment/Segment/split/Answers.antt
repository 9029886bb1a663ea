use Rattle.std.proofs.Common.{subst}
use Rattle.ax_segments.specs.Segments.{Segment, AreHalves, lower_half, upper_half}
use Rattle.ax_segments.proofs.Halves.{is_lower, is_upper, are_halves}
use Rattle.ax_segments.proofs.segment.Segment.split.Goals as goal

pub invariant_of-lower : goal.invariant_of-lower
invariant_of-lower c = is_lower (record { id = c.self.inside.id; mask = c.self.inside.mask }) c.self.invariant c.if-self-eq65535.false

pub invariant_of-upper : goal.invariant_of-upper
invariant_of-upper c = is_upper (record { id = c.self.inside.id; mask = c.self.inside.mask }) c.self.invariant c.if-self-eq65535.false

pub returns-clause-halves : goal.returns-clause-halves
returns-clause-halves c =
    let s : Segment = record { id = c.self.inside.id; mask = c.self.inside.mask } in
    subst (λ w. AreHalves w (lower_half s) (upper_half s)) c.self.view_is (are_halves s c.self.invariant.id)
