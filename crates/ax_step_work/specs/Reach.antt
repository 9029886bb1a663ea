-- How far a token reaches: between which indexes it covers all, and from which on it covers none.
use Rattle.std.specs.Prelude.{◌≡◌, ℕ, ◌<◌, ◌≤◌, Bool, true, false, ◌||◌, IsTrue, List, [], ◌∷◌, if◌then◌else◌}
use Rattle.ax_values.specs.declared.cell.Cell.{Cell}
use Rattle.ax_log.specs.Log.{Stored, is_settled}
use Rattle.ax_tokens.specs.Plain.{has}
use Rattle.ax_tokens.specs.Tokens.{Token, plain, merged, replay, covers}

-- each index that is at least a and below n is covered, for every hash
abbrev pub IsCoveredBetween : Token → ℕ → ℕ → Type 0
IsCoveredBetween t a n = (mask hash index : ℕ) → a ≤ index → index < n → covers t mask hash index ≡ true

-- no index from n on is covered, for any hash
abbrev pub IsOpenFrom : Token → ℕ → Type 0
IsOpenFrom t n = (mask hash index : ℕ) → n ≤ index → covers t mask hash index ≡ false

-- what it covers is not reserved in these cells
abbrev pub HasSettled : Token → List Cell → Type 0
HasSettled t cells = (mask hash index : ℕ) → covers t mask hash index ≡ true → IsTrue (is_settled cells index)

-- whether some half has covered the index
abbrev pub some_has : Token → ℕ → Bool
some_has (plain p) i = has p i
some_has (merged l u) i = some_has l i || some_has u i
some_has (replay r c) i = has c i

-- whether the cell, at its index, has an event that passes the test
abbrev pub event_is : (Stored → Bool) → ℕ → Cell → Bool
event_is test index (Cell.Event r) = test (record { index = index; record_of = r })
event_is test index (Cell.Reserved aggregate sequence writer time) = false
event_is test index Cell.Void = false

-- the event of the cell, at its index, where it passes the test
abbrev pub events_at : (Stored → Bool) → ℕ → Cell → List Stored
events_at test index (Cell.Event r) = if test (record { index = index; record_of = r }) then record { index = index; record_of = r } ∷ [] else []
events_at test index (Cell.Reserved aggregate sequence writer time) = []
events_at test index Cell.Void = []
