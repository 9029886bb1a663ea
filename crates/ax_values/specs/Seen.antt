-- What a batch saw of an aggregate: its words, and their reader.
use Rattle.std.specs.Prelude.{Bool, true, false, List, [], ◌∷◌, ◌++◌, map, Option, Some, None, codes, if◌then◌else◌}
use Rattle.std.specs.Fmt.{decimal}
use Rattle.std.specs.Str.{bytes_eq}
use Rattle.ax_values.specs.Grammar.{Line, ◌>>=◌, when, each_in, pieces, between, u32_in, Mark}
use Rattle.ax_values.specs.Words.{rises, mark_below}
use Rattle.ax_values.specs.Readers.{mark_in}
use Rattle.ax_values.specs.declared.seen.Seen.{Seen}

-- ---- texts

-- the texts with a comma in front of each
abbrev pub comma_led : List Line → Line
comma_led [] = []
comma_led (x ∷ xs) = 44 ∷ (x ++ comma_led xs)

-- the texts with a comma between each two
abbrev pub commas : List Line → Line
commas [] = []
commas (x ∷ xs) = x ++ comma_led xs

abbrev pub bracketed : Line → Line
bracketed t = 91 ∷ (t ++ 93 ∷ [])

abbrev pub mark_text : Mark → Line
mark_text k = decimal k.seq ++ 46 ∷ decimal k.part

abbrev pub marks_text : List Mark → Line
marks_text ks = bracketed (commas (map mark_text ks))

abbrev pub parked_text : Bool → Line
parked_text true = codes "parked"
parked_text false = codes "clear"

abbrev pub seen_words : Seen → List Line
seen_words s = decimal s.position ∷ parked_text s.parked ∷ marks_text s.marks ∷ []

-- ---- readers

-- the pieces between commas; of no bytes there are none
abbrev pub comma_pieces : Line → List Line
comma_pieces [] = []
comma_pieces (c ∷ cs) = pieces 44 (c ∷ cs)

-- marks that rise without repeats
abbrev pub marks_in : Line → Option (List Mark)
marks_in w = do
  inner ← between 91 93 w
  ms ← each_in mark_in (comma_pieces inner)
  when (rises mark_below ms) ms

abbrev pub parked_in : Line → Option Bool
parked_in w = if bytes_eq (codes "parked") w then Some true else when (bytes_eq (codes "clear") w) false

abbrev pub seen_in : List Line → Option Seen
seen_in (n ∷ p ∷ ms ∷ []) = do
  position ← u32_in n
  parked ← parked_in p
  marks ← marks_in ms
  Some (record { position = position; parked = parked; marks = marks })
seen_in ws = None
