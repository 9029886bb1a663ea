use Rattle.std.proofs.Common.{arith}
use Rattle.ax_segments.proofs.Powers.{is_power}
use Rattle.ax_segments.proofs.segment.root.Goals as goal

pub invariant_of-result : goal.invariant_of-result
invariant_of-result c = record { power = is_power 0; mask = omega arith; id = omega arith }
