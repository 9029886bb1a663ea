-- Field places in handlers and commands that are read are below the number of fields.
use Rattle.std.proofs.Common.{◌≡◌, true, List, length, IsTrue, codes, Some, sym, ap, ◌∙◌}
use Rattle.std.specs.List.{list_all}
use Rattle.serde_json.specs.Data.{Data}
use Rattle.serde_json.specs.Find.{get}
use Rattle.ax_values.specs.Grammar.{Name}
use Rattle.ax_laws.proofs.Tests.{and-true}
use Rattle.ax_values.proofs.Options.{when-some, then-some}
use Rattle.ax_rules.specs.declared.rules.Initial.{Initial}
use Rattle.ax_rules.specs.SagaRules.{handler_fits}
use Rattle.ax_rules.specs.declared.saga_rules.Handler.{Handler}
use Rattle.ax_sheet_rules.specs.Members.{list_of, named_of, wanted}
use Rattle.ax_sheet_rules.specs.Names.{anything, is_param, is_int_param}
use Rattle.ax_sheet_parts.specs.Sheet.{command_fits, are_parts, fits_record}
use Rattle.ax_sheet_parts.specs.declared.parts.NamedCommand.{NamedCommand}
use Rattle.ax_sheet_reading.proofs.Apart.{handler_parts, command_parts}
use Rattle.ax_sheet_rules.proofs.Places.{all_named, guards_fit, optional_guards, optional_sets}
use Rattle.ax_sheet_rules.specs.Shape.{handler_of, templates_of, template_of, events_of, command_of}

pub handler_fit : (commands : List NamedCommand) (fs : List Initial) (n : Name) (d : Data) (r : Handler) → handler_of commands fs n d ≡ Some r → handler_fits (length fs) r ≡ true
handler_fit commands fs n d r h =
    let p = handler_parts commands fs n d r h in
    let g = optional_guards fs anything p.guards (get (codes "guards") p.object) p.is_guards in
    ap (handler_fits (length fs)) p.made ∙ and-true _ _ g.0 (and-true _ _ g.1 (optional_sets fs anything p.sets (get (codes "sets") p.object) p.is_sets))

pub handlers_fit : (commands : List NamedCommand) (fs : List Initial) (o : Data) (rs : List Handler) → wanted (codes "on") (named_of (handler_of commands fs)) o ≡ Some rs → IsTrue (list_all (handler_fits (length fs)) rs)
handlers_fit commands fs o rs e = let d = then-some (get (codes "on") o) _ rs e in all_named (handler_of commands fs) (handler_fits (length fs)) (handler_fit commands fs) d.from rs d.gives

command_fit : (fs : List Initial) (n : Name) (d : Data) (c : NamedCommand) → command_of fs n d ≡ Some c → command_fits (length fs) c.command ≡ true
unfolding events_of templates_of
command_fit fs n d c h =
    let p = command_parts fs n d c h in
    let gd = then-some (get (codes "guards") p.object) _ p.guards p.is_guards in
    let g = guards_fit fs (is_int_param p.params) gd.from p.guards gd.gives in
    let ed = then-some (get (codes "events") p.object) _ p.events p.is_events in
    let all = then-some (templates_of (is_param p.params) ed.from) _ p.events ed.gives in
    let w = when-some (list_all fits_record all.from) all.from p.events all.gives in
    let listed = then-some (list_of (template_of (is_param p.params)) ed.from) _ all.from all.held in
    let v = when-some (are_parts listed.from) listed.from all.from listed.gives in
    ap (λ c. command_fits (length fs) c.command) p.made
    ∙ and-true _ _ g.0 (and-true _ _ g.1 (and-true _ _ (ap are_parts (sym (v.1 ∙ w.1)) ∙ v.0) (ap (list_all fits_record) (sym w.1) ∙ w.0)))

pub commands_fit : (fs : List Initial) (d : Data) (cs : List NamedCommand) → named_of (command_of fs) d ≡ Some cs → list_all (λ c. command_fits (length fs) c.command) cs ≡ true
commands_fit fs d cs h = all_named (command_of fs) (λ c. command_fits (length fs) c.command) (command_fit fs) d cs h
