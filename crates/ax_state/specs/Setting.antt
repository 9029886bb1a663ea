-- What a script declares: a sheet, processors of it, and actors. Each has its place in the head as its number.
use Rattle.std.specs.Prelude.{ℕ, Bool, false, not, List, [], Option, None, slice_get}
use Rattle.ax_values.specs.Grammar.{Name}
use Rattle.ax_log.specs.Log.{option_is}
use Rattle.ax_values.specs.Words.{same_name, place_where}
use Rattle.ax_rules.specs.Rules.{Rules}
use Rattle.ax_sheet.specs.Sheet.{Sheet, projection_named}
use Rattle.ax_sheet.specs.Declarations.{AreProcessors, AreActors, Processor}
use Rattle.ax_state.specs.Every.{option_or}

pub record Setting : Type 0 where
  pub sheet : Sheet
  pub processors : List Processor
  pub actors : List Name

-- what holds of the declarations of every script
pub record IsSetting (s : Setting) : Type 0 where
  pub processors : AreProcessors s.sheet s.processors
  pub actors : AreActors s.actors

abbrev pub name_at : List Name → ℕ → Name
name_at names k = option_or [] (slice_get names k)

-- the number of a processor's name
abbrev pub processor_number : List Processor → Name → ℕ
processor_number processors name = place_where (λ q. same_name q.name name) processors

abbrev pub no_processor : Processor
no_processor = record { name = []; saga = false; segments = 1 }

abbrev pub processor_at : Setting → ℕ → Processor
processor_at s p = option_or no_processor (slice_get s.processors p)

-- whether a number is that of a projection processor, or of a saga processor
abbrev pub is_projection : Setting → ℕ → Bool
is_projection s p = option_is (λ q. not q.saga) (slice_get s.processors p)

abbrev pub is_saga : Setting → ℕ → Bool
is_saga s p = option_is (λ q. q.saga) (slice_get s.processors p)

-- The name of a processor that is whole: all its events are one sequence. No processor is whole yet, and no proof but that of a step sees this.
unfoldable pub whole_at : Setting → ℕ → Option Name
whole_at s p = None

-- whether no token of the processor has a gap
unfoldable pub needs_no_gaps : Setting → ℕ → Bool
needs_no_gaps s p = is_saga s p

abbrev pub no_rules : Rules
no_rules = record { fields = []; rules = [] }

-- the rules of a projection processor
abbrev pub projection_at : Setting → ℕ → Rules
projection_at s p = option_or no_rules (projection_named s.sheet (processor_at s p).name)
