-- What is declared beside a sheet: processors of it, and actors.
use Rattle.std.specs.Prelude.{ℕ, ◌≤◌, ◌==◌, Bool, true, false, not, ◌&&◌, List, [], ◌∷◌, length, map, is_some, IsTrue, codes, if◌then◌else◌}
use Rattle.std.specs.List.{list_all, list_any}
use Rattle.ax_values.specs.Grammar.{Name}
use Rattle.ax_values.specs.Words.{same_name}
use Rattle.ax_sheet_parts.specs.Sheet.{Sheet, projection_named, saga_named}
use Rattle.ax_sheet_parts.specs.declared.parts.Processor as declared

abbrev pub Processor : Type 0
Processor = declared.Processor

abbrev pub same_flag : Bool → Bool → Bool
same_flag true b = b
same_flag false b = not b

-- no name stands twice
abbrev pub names_differ : List Name → Bool
names_differ [] = true
names_differ (a ∷ names) = not (list_any (λ b. same_name a b) names) && names_differ names

abbrev pub most_processors : ℕ
most_processors = 16

abbrev pub most_actors : ℕ
most_actors = 64

-- a processor starts with 1, 2, 4, 8 or 16 segments
abbrev pub is_segment_count : ℕ → Bool
is_segment_count n = list_any (λ k. k == n) (1 ∷ 2 ∷ 4 ∷ 8 ∷ 16 ∷ [])

-- it has the name of a saga of the sheet, or of a projection
abbrev pub is_of_sheet : Sheet → Processor → Bool
is_of_sheet sheet q = if q.saga then is_some (saga_named sheet q.name) else is_some (projection_named sheet q.name)

-- sagas count among the processors
pub record AreProcessors (sheet : Sheet) (processors : List Processor) : Type 0 where
  pub few : length processors ≤ most_processors
  pub differ : IsTrue (names_differ (map (λ q. q.name) processors))
  pub of_sheet : IsTrue (list_all (is_of_sheet sheet) processors)
  pub counts : IsTrue (list_all (λ q. is_segment_count q.segments) processors)

-- an actor has any name but the word of the schedule's line
abbrev pub is_actor_name : Name → Bool
is_actor_name a = not (same_name a (codes "schedule"))

pub record AreActors (actors : List Name) : Type 0 where
  pub few : length actors ≤ most_actors
  pub differ : IsTrue (names_differ actors)
  pub named : IsTrue (list_all is_actor_name actors)
