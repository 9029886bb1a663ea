-- The text of a segment, and its reader.
use Rattle.std.specs.Prelude.{◌+◌, ◌∷◌, ◌++◌, Option}
use Rattle.std.specs.Int.{is_power_of_two}
use Rattle.std.specs.Fmt.{decimal}
use Rattle.ax_values.specs.Grammar.{Line, ◌>>=◌, when, cut_at, number_to}
use Rattle.ax_segments.specs.Segments.{Segment, max_mask}

abbrev pub segment_text : Segment → Line
segment_text s = decimal s.id ++ 47 ∷ decimal s.mask

-- a mask that is a power of two less 1, and an id of at most the mask
abbrev pub segment_in : Line → Option Segment
segment_in w = do
  t ← cut_at 47 w
  mask ← number_to max_mask t.after
  id ← number_to mask t.before
  when (is_power_of_two (mask + 1)) (record { id = id; mask = mask })
