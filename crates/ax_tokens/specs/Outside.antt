-- Walks along gaps that rise.
use Rattle.std.specs.Prelude.{ℕ, ◌==◌, Bool, false, List, [], ◌∷◌, nat_lt, if◌then◌else◌}

-- what is left behind all front parts below an index
abbrev pub from : ℕ → List ℕ → List ℕ
from i [] = []
from i (g ∷ gs) = if nat_lt g i then from i gs else g ∷ gs

abbrev pub begins_with : ℕ → List ℕ → Bool
begins_with i [] = false
begins_with i (g ∷ gs) = g == i
