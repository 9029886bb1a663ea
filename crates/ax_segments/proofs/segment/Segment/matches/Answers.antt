use Rattle.std.proofs.Common.{◌∙◌, ap, ◌==◌}
use Rattle.ax_segments.specs.Segments.{matches}
use Rattle.ax_segments.proofs.Powers.{masked}
use Rattle.ax_segments.proofs.segment.Segment.matches.Goals as goal

pub returns-clause-value : goal.returns-clause-value
returns-clause-value c =
    ap (λ n. n == c.self.inside.id) (masked c.args.hash c.self.inside.mask c.self.invariant.power) ∙ ap (λ s. matches s c.args.hash) c.self.view_is
