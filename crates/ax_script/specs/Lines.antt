-- The lines of a script: those that have their end, and what stands after the last end.
use Rattle.std.specs.Prelude.{List, [], ◌∷◌}
use Rattle.ax_values.specs.Grammar.{Line, pieces}

-- the last piece, behind which no line ends
abbrev pub rest_of : List Line → Line
rest_of [] = []
rest_of (l ∷ []) = l
rest_of (l ∷ k ∷ ls) = rest_of (k ∷ ls)

-- all pieces but the last
abbrev pub ended_of : List Line → List Line
ended_of [] = []
ended_of (l ∷ []) = []
ended_of (l ∷ k ∷ ls) = l ∷ ended_of (k ∷ ls)

-- the lines that have their end, which is byte 10
abbrev pub ended_lines : Line → List Line
ended_lines text = ended_of (pieces 10 text)

-- the bytes after the last end of a line
abbrev pub last_bytes : Line → Line
last_bytes text = rest_of (pieces 10 text)
