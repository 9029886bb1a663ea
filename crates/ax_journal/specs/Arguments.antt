-- The arguments of a command, as they stand in a script and in a journal.
use Rattle.std.specs.Prelude.{Bool, true, not, ◌&&◌, List, [], ◌∷◌, fold, Option}
use Rattle.std.specs.List.{list_any}
use Rattle.ax_values.specs.Grammar.{Line, ◌>>=◌, when, each_in}
use Rattle.ax_values.specs.Words.{Payload, same_name, field_cmp, put_rising}
use Rattle.ax_values.specs.Readers.{field_in, payload_in}
use Rattle.ax_values.specs.declared.value.Field.{Field}
use Rattle.ax_journal.specs.declared.arguments.Arguments.{Arguments}

abbrev pub same_field : Field → Field → Bool
same_field f g = same_name f.name g.name

-- no two have one name
abbrev pub all_differ : List Field → Bool
all_differ [] = true
all_differ (f ∷ fs) = not (list_any (same_field f) fs) && all_differ fs

abbrev pub put_in : Payload → Field → Payload
put_in fs f = put_rising field_cmp f fs

-- the fields, rising by name
abbrev pub sorted_fields : List Field → Payload
sorted_fields fs = fold put_in [] fs

-- fields in any order without repeats, kept rising by name
abbrev pub arguments_in : List Line → Option Payload
arguments_in ws = each_in field_in ws >>= λ fs. when (all_differ fs) (sorted_fields fs)

abbrev pub args_in : Arguments → List Line → Option Payload
args_in Arguments.AnyOrder = arguments_in
args_in Arguments.Rising = payload_in
