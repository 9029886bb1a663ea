-- The parts of a line, and their words.
use Rattle.std.specs.Prelude.{Bool, true, false, List, [], ◌∷◌}
use Rattle.std.specs.Fmt.{decimal}
use Rattle.ax_values.specs.Grammar.{Line}
use Rattle.ax_values.specs.Words.{payload_words, item_text}
use Rattle.ax_values.specs.Seen.{seen_words}
use Rattle.ax_journal.specs.Segment.{segment_text}
use Rattle.ax_journal.specs.declared.part.Part.{Part}

abbrev pub part_words : Part → List Line
part_words (Part.Word w) = w.now ∷ []
part_words (Part.Small n) = decimal n ∷ []
part_words (Part.Number n) = decimal n ∷ []
part_words (Part.Name a) = a.now ∷ []
part_words (Part.Segment s) = segment_text s ∷ []
part_words (Part.Item x) = item_text x.now ∷ []
part_words (Part.Seen s) = seen_words s.now
part_words (Part.Args fs) = payload_words fs.now
part_words (Part.Line l) = l.now ∷ []

abbrev pub is_nothing : List Line → Bool
is_nothing [] = true
is_nothing (w ∷ ws) = false
