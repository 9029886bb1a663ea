use Rattle.std.proofs.Common.{◌∙◌, ◌≡◌, ◌/◌, Bool, not, true, false, refl, ap, sym, subst, arith}
use Rattle.ax_segments.specs.Segments.{Segment, IsSegment, same_segment}
use Rattle.ax_segments.proofs.Halves.{AreParts, are_parts}
use Rattle.ax_segments.proofs.segment.Segment.merged_with.Goals as goal

not-false : (b : Bool) → not b ≡ false → b ≡ true
not-false true h = refl
not-false false h = cc

parts : (c : goal.After-min) → AreParts (record { id = c.min.result; mask = c.self.inside.mask / 2 }) c.args.self c.args.other
parts c =
    let same = not-false (same_segment c.in_ok-partner.field-0 c.args.other) (sym c.ne.ensures ∙ c.if-ne.false) in
    let self_id = ap (λ (x : Segment). x.id) c.self.view_is in
    let other_id = ap (λ (x : Segment). x.id) c.other.view_is in
    let mask = ap (λ (x : Segment). x.mask) c.self.view_is in
    are_parts c.args.self c.in_ok-partner.field-0 c.args.other c.min.result (c.self.inside.mask / 2) (subst IsSegment c.self.view_is c.self.invariant) (sym c.in_ok-partner.ensures.value) same
    (omega (arith, c.min.ensures, self_id, other_id))
    (ap (λ n. n / 2) mask)

pub invariant_of-result : goal.invariant_of-result
invariant_of-result c = (parts c).is

pub returns-clause-halves : goal.returns-clause-halves
returns-clause-halves c = (parts c).halves
