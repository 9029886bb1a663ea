-- The order of segments is total.
use Rattle.std.specs.Cmp.{IsTotalOrder}
use Rattle.std.proofs.lemmas.Cmp.{then_total, on_total, nat_cmp_total}
use Rattle.ax_segments.specs.Segments.{Segment, segment_cmp}

pub segment_cmp_total : IsTotalOrder segment_cmp
segment_cmp_total =
    then_total (on_total (λ (x : Segment). x.id) nat_cmp_total) (on_total (λ (x : Segment). x.mask) nat_cmp_total)
