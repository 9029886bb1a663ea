-- What a sheet keeps.
use Rattle.std.proofs.Common.{◌≡◌, true, length, Some, sym, ap, ◌∙◌}
use Rattle.std.specs.List.{list_all}
use Rattle.std.specs.Prelude.{codes}
use Rattle.serde_json.specs.Data.{Data}
use Rattle.serde_json.specs.Find.{get}
use Rattle.ax_values.specs.Grammar.{Line}
use Rattle.ax_values.proofs.Options.{then-some}
use Rattle.ax_sheet_parts.specs.Sheet.{Sheet, command_fits}
use Rattle.ax_sheet_rules.specs.Shape.{sheet_of, json_in, sheet_in, IsSheet}
use Rattle.ax_sheet_reading.proofs.Apart.{sheet_parts}
use Rattle.ax_sheet_reading.proofs.Places.{commands_fit}

shaped : (d : Data) (s : Sheet) → sheet_of d ≡ Some s → list_all (λ c. command_fits (length s.aggregate.fields) c.command) s.commands ≡ true
shaped d s h =
    let p = sheet_parts d s h in
    let cd = then-some (get (codes "commands") p.object) _ p.commands p.is_commands in
    ap (λ (s : Sheet). list_all (λ c. command_fits (length s.aggregate.fields) c.command) s.commands) p.made ∙ commands_fit p.aggregate.fields cd.from p.commands cd.gives

-- the commands of a sheet fit its aggregate
pub sheet_fits : (s : Sheet) → IsSheet s → list_all (λ c. command_fits (length s.aggregate.fields) c.command) s.commands ≡ true
unfolding IsSheet sheet_in
sheet_fits s h = let d = then-some (json_in h.0) sheet_of s h.1 in shaped d.from s d.gives

pub is_sheet : (text : Line) (s : Sheet) → Some s ≡ sheet_in text → IsSheet s
unfolding IsSheet
is_sheet text s e = (text, sym e)
