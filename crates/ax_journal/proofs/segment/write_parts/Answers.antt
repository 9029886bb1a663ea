use Rattle.std.proofs.Common.{◌≡◌, Some, subst}
use Rattle.ax_laws.proofs.Options.{on-ok}
use Rattle.ax_journal.specs.Segment.{segment_text, segment_in}
use Rattle.ax_journal.proofs.Segments.{segment_in-segment_text}
use Rattle.ax_journal.proofs.segment.write_parts.Goals as goal

pub returns-clause-again : goal.returns-clause-again
returns-clause-again c =
    on-ok c.write_u32-2.result (subst (λ s. segment_in (segment_text s) ≡ Some s) c.segment.view_is (segment_in-segment_text _ c.segment.invariant))
