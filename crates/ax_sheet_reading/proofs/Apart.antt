-- What is read, taken apart: of what each part was made, and where that stood.
use Rattle.std.specs.Prelude.{◌≡◌, ℕ, Bool, true, false, List, [], Some, codes}
use Rattle.std.proofs.Common.{sym}
use Rattle.serde_json.specs.Data.{Data}
use Rattle.serde_json.specs.Find.{as_bool}
use Rattle.ax_values.specs.Grammar.{Name}
use Rattle.ax_laws.proofs.Options.{some-is}
use Rattle.ax_values.proofs.Options.{when-some, then-some}
use Rattle.ax_rules.specs.Rules.{Rules}
use Rattle.ax_rules.specs.declared.guard.Guard.{Guard}
use Rattle.ax_rules.specs.declared.rule.Set.{Set}
use Rattle.ax_rules.specs.declared.rules.Initial.{Initial}
use Rattle.ax_rules.specs.declared.saga_rules.Source.{Source}
use Rattle.ax_rules.specs.declared.saga_rules.Association.{Association}
use Rattle.ax_rules.specs.declared.saga_rules.Dispatch.{Dispatch}
use Rattle.ax_rules.specs.declared.saga_rules.Handler.{Handler}
use Rattle.ax_upcast.specs.declared.event.Template.{Template}
use Rattle.ax_upcast.specs.declared.upcaster.Upcaster.{Upcaster}
use Rattle.ax_sheet_parts.specs.Sheet.{Sheet}
use Rattle.ax_sheet_parts.specs.declared.params.Param.{Param}
use Rattle.ax_sheet_parts.specs.declared.parts.NamedCommand.{NamedCommand}
use Rattle.ax_sheet_parts.specs.declared.parts.NamedRules.{NamedRules}
use Rattle.ax_sheet_parts.specs.declared.parts.NamedSaga.{NamedSaga}
use Rattle.ax_sheet_rules.specs.Members.{list_of, named_of, name_of, small_of, object_of, wanted, optional}
use Rattle.ax_sheet_rules.specs.Names.{anything, is_int_param}
use Rattle.ax_sheet_rules.specs.Shape.{guards_of, sets_of, key_of, association_of, dispatch_of, handler_keys, handler_of, params_of, events_of, command_keys, command_of, chain_of, projection_of, saga_of, rules_of, are_apart, sheet_keys, sheet_around, sheet_of}

-- ---- handlers

pub record HandlerParts (commands : List NamedCommand) (fs : List Initial) (n : Name) (d : Data) (r : Handler) : Type 0 where
  pub object : Data
  pub by : Source
  pub start : Bool
  pub guards : List Guard
  pub sets : List Set
  pub associate : List Association
  pub dissociate : List Association
  pub send : List Dispatch
  pub end : Bool
  pub is_object : object_of handler_keys d ≡ Some object
  pub is_by : wanted (codes "by") key_of object ≡ Some by
  pub is_start : optional (codes "start") false as_bool object ≡ Some start
  pub is_guards : optional (codes "guards") [] (guards_of fs anything) object ≡ Some guards
  pub is_sets : optional (codes "sets") [] (sets_of fs anything) object ≡ Some sets
  pub is_associate : optional (codes "associate") [] (list_of association_of) object ≡ Some associate
  pub is_dissociate : optional (codes "dissociate") [] (list_of association_of) object ≡ Some dissociate
  pub is_send : optional (codes "send") [] (list_of (dispatch_of commands)) object ≡ Some send
  pub is_end : optional (codes "end") false as_bool object ≡ Some end
  pub made : r ≡ record { kind = n; by = by; start = start; guards = guards; sets = sets; associate = associate; dissociate = dissociate; send = send; end = end }

pub handler_parts : (commands : List NamedCommand) (fs : List Initial) (n : Name) (d : Data) (r : Handler) → handler_of commands fs n d ≡ Some r → HandlerParts commands fs n d r
unfolding handler_of
handler_parts commands fs n d r h =
    let o = then-some (object_of handler_keys d) _ r h in
    let by = then-some (wanted (codes "by") key_of o.from) _ r o.gives in
    let start = then-some (optional (codes "start") false as_bool o.from) _ r by.gives in
    let gs = then-some (optional (codes "guards") [] (guards_of fs anything) o.from) _ r start.gives in
    let ss = then-some (optional (codes "sets") [] (sets_of fs anything) o.from) _ r gs.gives in
    let associate = then-some (optional (codes "associate") [] (list_of association_of) o.from) _ r ss.gives in
    let dissociate = then-some (optional (codes "dissociate") [] (list_of association_of) o.from) _ r associate.gives in
    let send = then-some (optional (codes "send") [] (list_of (dispatch_of commands)) o.from) _ r dissociate.gives in
    let end = then-some (optional (codes "end") false as_bool o.from) _ r send.gives in
    record {
      object = o.from;
      by = by.from;
      start = start.from;
      guards = gs.from;
      sets = ss.from;
      associate = associate.from;
      dissociate = dissociate.from;
      send = send.from;
      end = end.from;
      is_object = o.held;
      is_by = by.held;
      is_start = start.held;
      is_guards = gs.held;
      is_sets = ss.held;
      is_associate = associate.held;
      is_dissociate = dissociate.held;
      is_send = send.held;
      is_end = end.held;
      made = sym (some-is _ r end.gives);
    }

-- ---- commands

pub record CommandParts (fs : List Initial) (n : Name) (d : Data) (c : NamedCommand) : Type 0 where
  pub object : Data
  pub params : List Param
  pub guards : List Guard
  pub events : List Template
  pub is_object : object_of command_keys d ≡ Some object
  pub is_params : wanted (codes "params") params_of object ≡ Some params
  pub is_guards : wanted (codes "guards") (guards_of fs (is_int_param params)) object ≡ Some guards
  pub is_events : wanted (codes "events") (events_of params) object ≡ Some events
  pub made : c ≡ record { name = n; command = record { params = params; guards = guards; events = events } }

pub command_parts : (fs : List Initial) (n : Name) (d : Data) (c : NamedCommand) → command_of fs n d ≡ Some c → CommandParts fs n d c
unfolding command_of
command_parts fs n d c h =
    let o = then-some (object_of command_keys d) _ c h in
    let ps = then-some (wanted (codes "params") params_of o.from) _ c o.gives in
    let gs = then-some (wanted (codes "guards") (guards_of fs (is_int_param ps.from)) o.from) _ c ps.gives in
    let es = then-some (wanted (codes "events") (events_of ps.from) o.from) _ c gs.gives in
    record {
      object = o.from;
      params = ps.from;
      guards = gs.from;
      events = es.from;
      is_object = o.held;
      is_params = ps.held;
      is_guards = gs.held;
      is_events = es.held;
      made = sym (some-is _ c es.gives);
    }

-- ---- the sheet

pub record SheetParts (d : Data) (s : Sheet) : Type 0 where
  pub object : Data
  pub name : Name
  pub revision : ℕ
  pub aggregate : Rules
  pub commands : List NamedCommand
  pub chain : List Upcaster
  pub projections : List NamedRules
  pub sagas : List NamedSaga
  pub is_object : object_of sheet_keys d ≡ Some object
  pub is_name : wanted (codes "sheet") name_of object ≡ Some name
  pub is_revision : wanted (codes "revision") small_of object ≡ Some revision
  pub is_aggregate : wanted (codes "aggregate") (rules_of false) object ≡ Some aggregate
  pub is_commands : wanted (codes "commands") (named_of (command_of aggregate.fields)) object ≡ Some commands
  pub is_chain : wanted (codes "upcast") chain_of object ≡ Some chain
  pub is_projections : wanted (codes "projections") (named_of projection_of) object ≡ Some projections
  pub is_sagas : wanted (codes "sagas") (named_of (saga_of commands)) object ≡ Some sagas
  pub apart : are_apart projections sagas ≡ true
  pub made : s ≡ record { name = name; revision = revision; aggregate = aggregate; commands = commands; chain = chain; projections = projections; sagas = sagas }

pub sheet_parts : (d : Data) (s : Sheet) → sheet_of d ≡ Some s → SheetParts d s
unfolding sheet_of sheet_around
sheet_parts d s h =
    let o = then-some (object_of sheet_keys d) _ s h in
    let name = then-some (wanted (codes "sheet") name_of o.from) _ s o.gives in
    let revision = then-some (wanted (codes "revision") small_of o.from) _ s name.gives in
    let aggregate = then-some (wanted (codes "aggregate") (rules_of false) o.from) _ s revision.gives in
    let cs = then-some (wanted (codes "commands") (named_of (command_of aggregate.from.fields)) o.from) _ s aggregate.gives in
    let us = then-some (wanted (codes "upcast") chain_of o.from) _ s cs.gives in
    let ps = then-some (wanted (codes "projections") (named_of projection_of) o.from) _ s us.gives in
    let ss = then-some (wanted (codes "sagas") (named_of (saga_of cs.from)) o.from) _ s ps.gives in
    let w = when-some (are_apart ps.from ss.from) _ s ss.gives in
    record {
      object = o.from;
      name = name.from;
      revision = revision.from;
      aggregate = aggregate.from;
      commands = cs.from;
      chain = us.from;
      projections = ps.from;
      sagas = ss.from;
      is_object = o.held;
      is_name = name.held;
      is_revision = revision.held;
      is_aggregate = aggregate.held;
      is_commands = cs.held;
      is_chain = us.held;
      is_projections = ps.held;
      is_sagas = ss.held;
      apart = w.0;
      made = sym w.1;
    }
