-- A sheet, the decision of a command, and look-ups.
use Rattle.std.specs.Prelude.{ℕ, suc, ◌^◌, ◌&&◌, Bool, true, false, List, [], ◌∷◌, length, find, Option, Some, None, Result, Ok, Err, option_map, nat_lt, nat_le, if◌then◌else◌}
use Rattle.std.specs.List.{list_all}
use Rattle.std.specs.Ordering.{is_lt}
use Rattle.ax_values.specs.Grammar.{Name}
use Rattle.ax_values.specs.Words.{Payload, same_name, name_cmp, rises}
use Rattle.ax_values.specs.declared.value.Value.{Value}
use Rattle.ax_rules.specs.Expr.{Row}
use Rattle.ax_rules.specs.Guards.{guard_fits, guard_holds}
use Rattle.ax_rules.specs.Rules.{Rules}
use Rattle.ax_rules.specs.SagaRules.{SagaRules}
use Rattle.ax_rules.specs.declared.cause.Cause.{Cause}
use Rattle.ax_rules.specs.declared.guard.Guard.{Guard}
use Rattle.ax_rules.specs.declared.saga_rules.ParamKind.{ParamKind}
use Rattle.ax_upcast.specs.declared.event.Template.{Template}
use Rattle.ax_sheet_parts.specs.declared.params.Param.{Param}
use Rattle.ax_sheet_parts.specs.declared.parts.NamedCommand as named
use Rattle.ax_sheet_parts.specs.Commands.{Command}
use Rattle.ax_sheet_parts.specs.declared.whole.SheetParts.{SheetParts}

abbrev pub Sheet : Type 0
Sheet = SheetParts

abbrev pub NamedCommand : Type 0
NamedCommand = named.NamedCommand

-- ---- look-ups

abbrev pub command_named : Sheet → Name → Option Command
command_named sheet name = option_map (λ c. c.command) (find (λ c. same_name c.name name) sheet.commands)

abbrev pub projection_named : Sheet → Name → Option Rules
projection_named sheet name = option_map (λ r. r.rules) (find (λ r. same_name r.name name) sheet.projections)

abbrev pub saga_named : Sheet → Name → Option SagaRules
saga_named sheet name = option_map (λ r. r.rules) (find (λ r. same_name r.name name) sheet.sagas)

-- ---- order

-- in byte order
abbrev pub name_below : Name → Name → Bool
name_below a b = is_lt (name_cmp a b)

-- each name is below the next, so none stands twice
abbrev pub names_rise : List Name → Bool
names_rise names = rises name_below names

-- ---- what fits

-- at most 16 fields
abbrev pub fits_record : Template → Bool
fits_record t = nat_le (length t.fields) 16

-- 1 to 8 of them
abbrev pub are_parts : List Template → Bool
are_parts ts = nat_lt 0 (length ts) && nat_le (length ts) 8

-- fewer than 2^32 guards, whose field places are below a number of fields; 1 to 8 events, each with at most 16 fields
abbrev pub command_fits : ℕ → Command → Bool
command_fits n c = nat_lt (length c.guards) (2 ^ 32) && (list_all (guard_fits n) c.guards && (are_parts c.events && list_all fits_record c.events))

abbrev pub is_kind : ParamKind → Value → Bool
is_kind ParamKind.Int (Value.Int z) = true
is_kind ParamKind.Int (Value.Text t) = false
is_kind ParamKind.Text (Value.Int z) = false
is_kind ParamKind.Text (Value.Text t) = true

-- the fields are exactly the parameters with their kinds: both rise by name
abbrev pub fits_params : List Param → Payload → Bool
fits_params [] [] = true
fits_params [] (f ∷ fs) = false
fits_params (p ∷ ps) [] = false
fits_params (p ∷ ps) (f ∷ fs) = same_name p.name f.name && is_kind p.kind f.value && fits_params ps fs

abbrev pub fits : Command → Payload → Bool
fits command args = fits_params command.params args

-- ---- the decision

-- whether a guard is true
abbrev pub is_held : Result Bool Cause → Bool
is_held (Ok b) = b
is_held (Err c) = false

-- the number of the first guard that is false or has no value, the guards being numbered from k
abbrev pub first_failing : ℕ → List Guard → Row → Payload → Option ℕ
first_failing k [] row args = None
first_failing k (g ∷ gs) row args = if is_held (guard_holds g row args) then first_failing (suc k) gs row args else Some k
