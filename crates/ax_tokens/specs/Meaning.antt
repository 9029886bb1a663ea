-- What the changes of a token do to the sets of all hashes. `what` is `covers`, `replays` or `meets`.
use Rattle.std.specs.Prelude.{◌≡◌, ◌↔◌, ℕ, Bool, true, ◌&&◌, ◌||◌, List, nat_lt, IsTrue, if◌then◌else◌}
use Rattle.ax_values.specs.declared.cell.Cell.{Cell}
use Rattle.ax_log.specs.Log.{is_settled}
use Rattle.ax_segments.specs.Segments.{Segment, IsSegment, is_upper, half_mask}
use Rattle.ax_tokens.specs.Plain.{has}
use Rattle.ax_tokens.specs.Tokens.{Token, covers, ever_covered, masks_fit, IsMet}

-- each hash has the indexes that it had
abbrev pub SameSets : (Token → ℕ → ℕ → ℕ → Bool) → Token → Token → Type 0
SameSets what old new = (mask hash index : ℕ) → what new mask hash index ≡ what old mask hash index

-- each hash has the indexes that it had, and those below `to` whose cells are not reserved
abbrev pub CoversTo : List Cell → ℕ → Token → Token → Type 0
CoversTo cells to old new = (mask hash index : ℕ) → covers new mask hash index ≡ (covers old mask hash index || (nat_lt index to && is_settled cells index))

-- each hash has the set of its half
abbrev pub ServesHalves : (Token → ℕ → ℕ → ℕ → Bool) → Token → Token → Token → Type 0
ServesHalves what lower upper both =
    (mask hash index : ℕ) → what both mask hash index ≡ (if is_upper mask hash then what upper (half_mask mask) hash index else what lower (half_mask mask) hash index)

-- in the part that serves the upper hashes, or the lower ones, each of these has the set that it had in the whole
abbrev pub IsPartFor : (Token → ℕ → ℕ → ℕ → Bool) → Bool → Token → Token → Type 0
IsPartFor what upper whole part = (mask hash index : ℕ) → is_upper mask hash ≡ upper → what part (half_mask mask) hash index ≡ what whole mask hash index

-- what all halves have ever covered is what some hash of the segment has met
abbrev pub IsAllMet : Token → Type 0
IsAllMet t = (segment : Segment) → IsSegment segment → IsTrue (masks_fit segment.mask t) → (index : ℕ) → (has (ever_covered t) index ≡ true) ↔ IsMet t segment index
