-- A segment that is written is read again.
use Rattle.std.proofs.Common.{◌≡◌, ℕ, ◌+◌, Option, Some, option_and_then, refl, ap, ◌∙◌, arith}
use Rattle.std.specs.Int.{is_power_of_two}
use Rattle.std.specs.Fmt.{decimal}
use Rattle.ax_values.specs.Grammar.{Cut, ◌>>=◌, when, number_to}
use Rattle.ax_values.proofs.Options.{when-true}
use Rattle.ax_values.proofs.Numbers.{number_to-decimal}
use Rattle.ax_values.proofs.Cuts.{cut_at-append}
use Rattle.ax_values.proofs.Items.{lacks-decimal}
use Rattle.ax_segments.specs.Segments.{Segment, IsSegment}
use Rattle.ax_journal.specs.Segment.{segment_text, segment_in}

with_id : ℕ → ℕ → Option Segment
with_id mask id = when (is_power_of_two (mask + 1)) (record { id = id; mask = mask })

parts : Cut → Option Segment
parts t = number_to 65535 t.after >>= (λ mask. number_to mask t.before >>= with_id mask)

pub segment_in-segment_text : (s : Segment) → IsSegment s → segment_in (segment_text s) ≡ Some s
unfolding with_id parts
segment_in-segment_text s h =
    ap (option_and_then parts) (cut_at-append (decimal s.id) 47 (decimal s.mask) (lacks-decimal 47 s.id refl (omega (arith, h.id, h.mask))))
    ∙ ap (λ o. o >>= (λ mask. number_to mask (decimal s.id) >>= with_id mask)) (number_to-decimal 65535 s.mask h.mask (omega (arith, h.mask)))
    ∙ ap (λ o. o >>= with_id s.mask) (number_to-decimal s.mask s.id h.id (omega (arith, h.id, h.mask)))
    ∙ when-true (is_power_of_two (s.mask + 1)) s h.power
