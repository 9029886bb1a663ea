-- The names that may stand behind `$`.
use Rattle.std.specs.Prelude.{Bool, true, false, ◌&&◌, List}
use Rattle.std.specs.List.{list_any}
use Rattle.ax_values.specs.Grammar.{Name}
use Rattle.ax_values.specs.Words.{same_name}
use Rattle.ax_rules.specs.declared.saga_rules.ParamKind.{ParamKind}
use Rattle.ax_sheet_parts.specs.declared.params.Param.{Param}
use Rattle.ax_sheet_rules.specs.declared.names.Names.{Names}

abbrev pub is_int : ParamKind → Bool
is_int ParamKind.Int = true
is_int ParamKind.Text = false

abbrev pub is_param : List Param → Name → Bool
is_param ps n = list_any (λ p. same_name p.name n) ps

abbrev pub is_int_param : List Param → Name → Bool
is_int_param ps n = list_any (λ p. same_name p.name n && is_int p.kind) ps

abbrev pub anything : Name → Bool
anything n = true

abbrev pub nothing : Name → Bool
nothing n = false

abbrev pub takes : Names → Name → Bool
takes Names.Any = anything
takes (Names.Of ps) = is_param ps.now
takes (Names.Ints ps) = is_int_param ps.now
takes Names.Nothing = nothing
