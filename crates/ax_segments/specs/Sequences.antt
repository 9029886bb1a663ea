-- The hash that the events of an aggregate are served by: that of the name of their sequence.
use Rattle.std.specs.Prelude.{ℕ, Option}
use Rattle.ax_values.specs.Grammar.{Name}
use Rattle.ax_values.specs.Words.{sequence_in}
use Rattle.ax_segments.specs.Segments.{hash_of}

-- where a processor is whole, `whole` is its name, and all its events are one sequence
abbrev pub hash_in : Option Name → Name → ℕ
hash_in whole a = hash_of (sequence_in whole a)
