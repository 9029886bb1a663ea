-- What is written for a sheet is read again as the sheet, and nests no deeper than the JSON that it was read from.
use Rattle.std.proofs.Common.{◌≡◌, ◌≤◌, ◌+◌, ℕ, suc, Bool, true, false, List, [], ◌∷◌, codes, Option, Some, option_map, refl, sym, ap, subst, ◌∙◌, arith}
use Rattle.std.specs.Str.{is_utf8, IsUtf8}
use Rattle.serde_json.specs.Data.{Data, string, object, Members, depth}
use Rattle.serde_json.specs.Find.{as_bool}
use Rattle.serde_json.specs.Read.{max_depth, read}
use Rattle.serde_json.proofs.Nesting.{depth-read}
use Rattle.ax_values.specs.Grammar.{Name, Line, when}
use Rattle.ax_laws.proofs.Options.{some-is}
use Rattle.ax_values.proofs.Options.{when-true, then-some, map-some}
use Rattle.ax_rules.specs.Rules.{Rules}
use Rattle.ax_rules.specs.declared.guard.Guard.{Guard}
use Rattle.ax_rules.specs.declared.rule.Set.{Set}
use Rattle.ax_rules.specs.declared.rules.Initial.{Initial}
use Rattle.ax_rules.specs.declared.saga_rules.Source.{Source}
use Rattle.ax_rules.specs.declared.saga_rules.Association.{Association}
use Rattle.ax_rules.specs.declared.saga_rules.Dispatch.{Dispatch}
use Rattle.ax_rules.specs.declared.saga_rules.Handler.{Handler}
use Rattle.ax_upcast.specs.declared.upcaster.Upcaster.{Upcaster}
use Rattle.ax_sheet_rules.specs.Members.{small_of, name_of, list_of, named_of, object_of, wanted, optional, is_there}
use Rattle.ax_sheet_rules.specs.Names.{anything}
use Rattle.ax_sheet_parts.specs.Sheet.{Sheet}
use Rattle.ax_sheet_parts.specs.declared.parts.NamedCommand.{NamedCommand}
use Rattle.ax_sheet_parts.specs.declared.parts.NamedRules.{NamedRules}
use Rattle.ax_sheet_parts.specs.declared.parts.NamedSaga.{NamedSaga}
use Rattle.ax_sheet_rules.specs.Shape.{guards_of, sets_of, fields_of, two_keys, rules_of, command_of, chain_of, key_of, association_of, dispatch_of, handler_keys, handler_of, saga_of, projection_of, sheet_keys, are_apart, sheet_around, sheet_of, json_in, sheet_in, IsSheet}
use Rattle.ax_sheet_writing.specs.Text.{list_data, named_data, small_data, guards_data, sets_data, fields_data, rules_data, command_data, upcaster_data, key_data, association_data, dispatch_data, changes_data, handler_data, saga_data, head_data, sheet_data}
use Rattle.ax_sheet_reading.proofs.Apart.{handler_parts, sheet_parts}
use Rattle.ax_sheet.proofs.Proper.{proper, read_proper}
use Rattle.ax_sheet_reading.proofs.Texts.{json_read}
use Rattle.ax_sheet.proofs.Same.{small_same, name_same}
use Rattle.ax_sheet.proofs.SameParts.{guards_same, sets_same, fields_same, key_same, associations_same, dispatches_same}
use Rattle.ax_sheet.proofs.Objects.{then-is, Row, row, Built, no_more, with_member, list_opt, flag_opt, with_list, with_flag, object_again, object_low, Back, wanted_again, optional_again, inner, opened, wanted_read, read_same, read_back, Kept, kept}
use Rattle.ax_sheet.proofs.Again.{flag_again, two_rows, named_back, rules_back, command_back, command_known, chain_back}

-- ---- handlers and sagas

abbrev handler_rows : Data → Option Data → Option Data → Option Data → Option Data → Option Data → Option Data → Option Data → List Row
handler_rows by end start send dissociate associate sets guards =
    row (codes "by") (Some by) ∷ row (codes "end") end ∷ row (codes "start") start ∷ row (codes "send") send ∷ row (codes "dissociate") dissociate ∷ row (codes "associate") associate ∷ row (codes "sets") sets
    ∷ row (codes "guards") guards ∷ []

eight_sums : (b e s n d a t g : ℕ) → b + (e + (s + (n + (d + (a + (t + (g + 0))))))) ≡ b + (s + (g + (t + (a + (d + (n + (e + 0)))))))
eight_sums b e s n d a t g = omega arith

-- what a handler holds beside its kind, each read again
record HandlerBack (cs : List NamedCommand) (fs : List Initial) (by : Source) (gs : List Guard) (ss : List Set) (links ds : List Association) (xs : List Dispatch) (m : ℕ) : Type 0 where
  key : Back key_of m by (key_data by)
  guards : Kept (guards_of fs anything) (guards_data fs) m gs
  sets : Kept (sets_of fs anything) (sets_data fs) m ss
  associate : Kept (list_of association_of) (list_data association_data) m links
  dissociate : Kept (list_of association_of) (list_data association_data) m ds
  send : Kept (list_of (dispatch_of cs)) (list_data dispatch_data) m xs

abbrev made : Name → Source → Bool → List Guard → List Set → List Association → List Association → List Dispatch → Bool → Handler
made n by start gs ss links ds xs end = record { kind = n; by = by; start = start; guards = gs; sets = ss; associate = links; dissociate = ds; send = xs; end = end }

handler_reads : (cs : List NamedCommand) (fs : List Initial) (n : Name) (by : Source) (start : Bool) (gs : List Guard) (ss : List Set) (links ds : List Association) (xs : List Dispatch) (end : Bool) (m : ℕ) (ms : Members) →
    Built m ms (handler_rows (key_data by) (flag_opt end) (flag_opt start) (list_opt (list_data dispatch_data) xs) (list_opt (list_data association_data) ds) (list_opt (list_data association_data) links) (list_opt (sets_data fs) ss) (list_opt (guards_data fs) gs)) →
    HandlerBack cs fs by gs ss links ds xs m → handler_of cs fs n (object ms) ≡ Some (made n by start gs ss links ds xs end)
unfolding handler_of
handler_reads cs fs n by start gs ss links ds xs end m ms built h =
    then-is (object_of handler_keys (object ms)) _ (object ms) _ (object_again handler_keys built refl
    (eight_sums 1 (is_there (flag_opt end)) (is_there (flag_opt start)) (is_there (list_opt (list_data dispatch_data) xs)) (is_there (list_opt (list_data association_data) ds)) (is_there (list_opt (list_data association_data) links))
    (is_there (list_opt (sets_data fs) ss)) (is_there (list_opt (guards_data fs) gs))))
    (then-is (wanted (codes "by") key_of (object ms)) _ by _ (wanted_again (codes "by") key_of by (key_data by) built refl refl h.key)
    (then-is (optional (codes "start") false as_bool (object ms)) _ start _ (optional_again (codes "start") false as_bool start (flag_opt start) built refl refl (flag_again start))
    (then-is (optional (codes "guards") [] (guards_of fs anything) (object ms)) _ gs _ (optional_again (codes "guards") [] (guards_of fs anything) gs (list_opt (guards_data fs) gs) built refl refl h.guards.again)
    (then-is (optional (codes "sets") [] (sets_of fs anything) (object ms)) _ ss _ (optional_again (codes "sets") [] (sets_of fs anything) ss (list_opt (sets_data fs) ss) built refl refl h.sets.again)
    (then-is (optional (codes "associate") [] (list_of association_of) (object ms)) _ links _ (optional_again (codes "associate") [] (list_of association_of) links (list_opt (list_data association_data) links) built refl refl h.associate.again)
    (then-is (optional (codes "dissociate") [] (list_of association_of) (object ms)) _ ds _ (optional_again (codes "dissociate") [] (list_of association_of) ds (list_opt (list_data association_data) ds) built refl refl h.dissociate.again)
    (then-is (optional (codes "send") [] (list_of (dispatch_of cs)) (object ms)) _ xs _ (optional_again (codes "send") [] (list_of (dispatch_of cs)) xs (list_opt (list_data dispatch_data) xs) built refl refl h.send.again)
    (then-is (optional (codes "end") false as_bool (object ms)) _ end _ (optional_again (codes "end") false as_bool end (flag_opt end) built refl refl (flag_again end)) refl))))))))

handler_kept : (cs : List NamedCommand) (fs : List Initial) (n : Name) (by : Source) (start : Bool) (gs : List Guard) (ss : List Set) (links ds : List Association) (xs : List Dispatch) (end : Bool) (m k : ℕ) → k ≡ suc m →
    HandlerBack cs fs by gs ss links ds xs m → Back (handler_of cs fs n) k (made n by start gs ss links ds xs end) (handler_data fs (made n by start gs ss links ds xs end))
unfolding handler_data changes_data
handler_kept cs fs n by start gs ss links ds xs end m k e h =
    let built = with_member (codes "by") (key_data by) h.key.low (with_flag (codes "end") end (with_flag (codes "start") start (with_list (codes "send") (list_data dispatch_data) xs h.send.low
    (with_list (codes "dissociate") (list_data association_data) ds h.dissociate.low (with_list (codes "associate") (list_data association_data) links h.associate.low
    (with_list (codes "sets") (sets_data fs) ss h.sets.low (with_list (codes "guards") (guards_data fs) gs h.guards.low (no_more m)))))))) in
    record { again = handler_reads cs fs n by start gs ss links ds xs end m _ built h; low = object_low k built e }

handler_back : (cs : List NamedCommand) (fs : List Initial) (n : Name) (d : Data) (r : Handler) → proper d ≡ true → handler_of cs fs n d ≡ Some r → Back (handler_of cs fs n) (depth d) r (handler_data fs r)
handler_back cs fs n d r p h =
    let q = handler_parts cs fs n d r h in
    let w = opened handler_keys d q.object p q.is_object in
    subst (λ r. Back (handler_of cs fs n) (depth d) r (handler_data fs r)) (sym q.made)
    (handler_kept cs fs n q.by q.start q.guards q.sets q.associate q.dissociate q.send q.end (inner q.object) (depth d) w.deep (record {
      key = read_same key_of (inner q.object) q.by (key_data q.by) (λ d p h. key_same d q.by p h) (wanted_read (codes "by") key_of q.object q.by w.good q.is_by);
      guards = kept (codes "guards") (guards_of fs anything) (guards_data fs) q.object q.guards (guards_same fs anything) w.good q.is_guards;
      sets = kept (codes "sets") (sets_of fs anything) (sets_data fs) q.object q.sets (sets_same fs anything) w.good q.is_sets;
      associate = kept (codes "associate") (list_of association_of) (list_data association_data) q.object q.associate associations_same w.good q.is_associate;
      dissociate = kept (codes "dissociate") (list_of association_of) (list_data association_data) q.object q.dissociate associations_same w.good q.is_dissociate;
      send = kept (codes "send") (list_of (dispatch_of cs)) (list_data dispatch_data) q.object q.send (dispatches_same cs) w.good q.is_send;
    }))

handler_named : (cs : List NamedCommand) (fs : List Initial) (n : Name) (d : Data) (r : Handler) → handler_of cs fs n d ≡ Some r → r.kind ≡ n
handler_named cs fs n d r h = ap (λ (r : Handler). r.kind) (handler_parts cs fs n d r h).made

saga_reads : (cs : List NamedCommand) (n : Name) (fs : List Initial) (hs : List Handler) (on fields : Data) (m : ℕ) (ms : Members) → Built m ms (two_rows on fields) → Back fields_of m fs fields →
    Back (named_of (handler_of cs fs)) m hs on → saga_of cs n (object ms) ≡ Some (record { name = n; rules = record { fields = fs; handlers = hs } })
unfolding saga_of
saga_reads cs n fs hs on fields m ms built f r =
    then-is (object_of two_keys (object ms)) _ (object ms) _ (object_again two_keys built refl refl)
    (then-is (wanted (codes "fields") fields_of (object ms)) _ fs _ (wanted_again (codes "fields") fields_of fs fields built refl refl f)
    (then-is (wanted (codes "on") (named_of (handler_of cs fs)) (object ms)) _ hs _ (wanted_again (codes "on") (named_of (handler_of cs fs)) hs on built refl refl r) refl))

saga_kept : (cs : List NamedCommand) (n : Name) (fs : List Initial) (hs : List Handler) (m k : ℕ) → k ≡ suc m → Back fields_of m fs (fields_data fs) →
    Back (named_of (handler_of cs fs)) m hs (named_data (λ (h : Handler). h.kind) (handler_data fs) hs) →
    Back (saga_of cs n) k (record { name = n; rules = record { fields = fs; handlers = hs } }) (saga_data (record { fields = fs; handlers = hs }))
unfolding saga_data
saga_kept cs n fs hs m k e f r =
    let built = with_member (codes "on") (named_data (λ (h : Handler). h.kind) (handler_data fs) hs) r.low (with_member (codes "fields") (fields_data fs) f.low (no_more m)) in
    record { again = saga_reads cs n fs hs (named_data (λ (h : Handler). h.kind) (handler_data fs) hs) (fields_data fs) m _ built f r; low = object_low k built e }

saga_back : (cs : List NamedCommand) (n : Name) (d : Data) (s : NamedSaga) → proper d ≡ true → saga_of cs n d ≡ Some s → Back (saga_of cs n) (depth d) s (saga_data s.rules)
unfolding saga_of
saga_back cs n d s p h =
    let o = then-some (object_of two_keys d) _ s h in
    let fs = then-some (wanted (codes "fields") fields_of o.from) _ s o.gives in
    let hs = then-some (wanted (codes "on") (named_of (handler_of cs fs.from)) o.from) _ s fs.gives in
    let w = opened two_keys d o.from p o.held in
    subst (λ (s : NamedSaga). Back (saga_of cs n) (depth d) s (saga_data s.rules)) (some-is _ s hs.gives)
    (saga_kept cs n fs.from hs.from (inner o.from) (depth d) w.deep
    (read_same fields_of (inner o.from) fs.from (fields_data fs.from) (λ d p h. fields_same d fs.from p h) (wanted_read (codes "fields") fields_of o.from fs.from w.good fs.held))
    (read_back (named_of (handler_of cs fs.from)) (inner o.from) hs.from (named_data (λ (h : Handler). h.kind) (handler_data fs.from) hs.from)
    (λ d p h. named_back (handler_of cs fs.from) (λ (h : Handler). h.kind) (handler_data fs.from) (handler_named cs fs.from) (handler_back cs fs.from) d hs.from p h)
    (wanted_read (codes "on") (named_of (handler_of cs fs.from)) o.from hs.from w.good hs.held)))

pub saga_named : (cs : List NamedCommand) (n : Name) (d : Data) (s : NamedSaga) → saga_of cs n d ≡ Some s → s.name ≡ n
unfolding saga_of
saga_named cs n d s h =
    let o = then-some (object_of two_keys d) _ s h in
    let fs = then-some (wanted (codes "fields") fields_of o.from) _ s o.gives in
    let hs = then-some (wanted (codes "on") (named_of (handler_of cs fs.from)) o.from) _ s fs.gives in
    ap (λ (s : NamedSaga). s.name) (sym (some-is _ s hs.gives))

-- ---- projections

projection_back : (n : Name) (d : Data) (x : NamedRules) → proper d ≡ true → projection_of n d ≡ Some x → Back (projection_of n) (depth d) x (rules_data x.rules)
unfolding projection_of
projection_back n d x p h =
    let r = map-some (rules_of true d) _ x h in
    let b = rules_back true d r.from p r.held in
    subst (λ (x : NamedRules). Back (projection_of n) (depth d) x (rules_data x.rules)) r.gives (record { again = ap (option_map (λ rules. record { name = n; rules = rules })) b.again; low = b.low })

pub projection_named : (n : Name) (d : Data) (x : NamedRules) → projection_of n d ≡ Some x → x.name ≡ n
unfolding projection_of
projection_named n d x h = let r = map-some (rules_of true d) _ x h in ap (λ (x : NamedRules). x.name) (sym r.gives)

-- ---- the sheet

abbrev sheet_rows : Data → Data → Data → Data → Data → Data → Data → List Row
sheet_rows sagas projections commands aggregate upcast revision name =
    row (codes "sagas") (Some sagas) ∷ row (codes "projections") (Some projections) ∷ row (codes "commands") (Some commands) ∷ row (codes "aggregate") (Some aggregate) ∷ row (codes "upcast") (Some upcast)
    ∷ row (codes "revision") (Some revision) ∷ row (codes "sheet") (Some name) ∷ []

abbrev commands_data : List Initial → List NamedCommand → Data
commands_data fs cs = named_data (λ (c : NamedCommand). c.name) (λ c. command_data fs c.command) cs

abbrev projections_data : List NamedRules → Data
projections_data ps = named_data (λ (p : NamedRules). p.name) (λ p. rules_data p.rules) ps

abbrev sagas_data : List NamedSaga → Data
sagas_data ss = named_data (λ (s : NamedSaga). s.name) (λ s. saga_data s.rules) ss

-- what a sheet holds, each read again
record SheetBack (name : Name) (revision : ℕ) (a : Rules) (cs : List NamedCommand) (us : List Upcaster) (ps : List NamedRules) (ss : List NamedSaga) (m : ℕ) : Type 0 where
  called : Back name_of m name (string name)
  revised : Back small_of m revision (small_data revision)
  aggregate : Back (rules_of false) m a (rules_data a)
  commands : Back (named_of (command_of a.fields)) m cs (commands_data a.fields cs)
  chain : Back chain_of m us (list_data upcaster_data us)
  projections : Back (named_of projection_of) m ps (projections_data ps)
  sagas : Back (named_of (saga_of cs)) m ss (sagas_data ss)
  apart : are_apart ps ss ≡ true

abbrev whole : Name → ℕ → Rules → List NamedCommand → List Upcaster → List NamedRules → List NamedSaga → Sheet
whole name revision a cs us ps ss = record { name = name; revision = revision; aggregate = a; commands = cs; chain = us; projections = ps; sagas = ss }

abbrev all_rows : Name → ℕ → Rules → List NamedCommand → List Upcaster → List NamedRules → List NamedSaga → List Row
all_rows name revision a cs us ps ss = sheet_rows (sagas_data ss) (projections_data ps) (commands_data a.fields cs) (rules_data a) (list_data upcaster_data us) (small_data revision) (string name)

around_reads : (name : Name) (revision : ℕ) (a : Rules) (cs : List NamedCommand) (us : List Upcaster) (ps : List NamedRules) (ss : List NamedSaga) (m : ℕ) (ms : Members) → Built m ms (all_rows name revision a cs us ps ss) →
    SheetBack name revision a cs us ps ss m → sheet_around name revision a (object ms) ≡ Some (whole name revision a cs us ps ss)
unfolding sheet_around
around_reads name revision a cs us ps ss m ms built h =
    then-is (wanted (codes "commands") (named_of (command_of a.fields)) (object ms)) _ cs _ (wanted_again (codes "commands") (named_of (command_of a.fields)) cs (commands_data a.fields cs) built refl refl h.commands)
    (then-is (wanted (codes "upcast") chain_of (object ms)) _ us _ (wanted_again (codes "upcast") chain_of us (list_data upcaster_data us) built refl refl h.chain)
    (then-is (wanted (codes "projections") (named_of projection_of) (object ms)) _ ps _ (wanted_again (codes "projections") (named_of projection_of) ps (projections_data ps) built refl refl h.projections)
    (then-is (wanted (codes "sagas") (named_of (saga_of cs)) (object ms)) _ ss _ (wanted_again (codes "sagas") (named_of (saga_of cs)) ss (sagas_data ss) built refl refl h.sagas)
    (when-true (are_apart ps ss) (whole name revision a cs us ps ss) h.apart))))

sheet_reads : (name : Name) (revision : ℕ) (a : Rules) (cs : List NamedCommand) (us : List Upcaster) (ps : List NamedRules) (ss : List NamedSaga) (m : ℕ) (ms : Members) → Built m ms (all_rows name revision a cs us ps ss) →
    SheetBack name revision a cs us ps ss m → sheet_of (object ms) ≡ Some (whole name revision a cs us ps ss)
unfolding sheet_of
sheet_reads name revision a cs us ps ss m ms built h =
    then-is (object_of sheet_keys (object ms)) _ (object ms) _ (object_again sheet_keys built refl refl)
    (then-is (wanted (codes "sheet") name_of (object ms)) _ name _ (wanted_again (codes "sheet") name_of name (string name) built refl refl h.called)
    (then-is (wanted (codes "revision") small_of (object ms)) _ revision _ (wanted_again (codes "revision") small_of revision (small_data revision) built refl refl h.revised)
    (then-is (wanted (codes "aggregate") (rules_of false) (object ms)) _ a _ (wanted_again (codes "aggregate") (rules_of false) a (rules_data a) built refl refl h.aggregate)
    (around_reads name revision a cs us ps ss m ms built h))))

sheet_kept : (name : Name) (revision : ℕ) (a : Rules) (cs : List NamedCommand) (us : List Upcaster) (ps : List NamedRules) (ss : List NamedSaga) (m k : ℕ) → k ≡ suc m → SheetBack name revision a cs us ps ss m →
    Back sheet_of k (whole name revision a cs us ps ss) (sheet_data (whole name revision a cs us ps ss))
unfolding sheet_data head_data
sheet_kept name revision a cs us ps ss m k e h =
    let built = with_member (codes "sagas") (sagas_data ss) h.sagas.low (with_member (codes "projections") (projections_data ps) h.projections.low (with_member (codes "commands") (commands_data a.fields cs) h.commands.low
    (with_member (codes "aggregate") (rules_data a) h.aggregate.low (with_member (codes "upcast") (list_data upcaster_data us) h.chain.low (with_member (codes "revision") (small_data revision) h.revised.low
    (with_member (codes "sheet") (string name) h.called.low (no_more m))))))) in
    record { again = sheet_reads name revision a cs us ps ss m _ built h; low = object_low k built e }

sheet_back : (d : Data) (s : Sheet) → proper d ≡ true → sheet_of d ≡ Some s → Back sheet_of (depth d) s (sheet_data s)
sheet_back d s p h =
    let q = sheet_parts d s h in
    let w = opened sheet_keys d q.object p q.is_object in
    let fs = q.aggregate.fields in
    subst (λ s. Back sheet_of (depth d) s (sheet_data s)) (sym q.made)
    (sheet_kept q.name q.revision q.aggregate q.commands q.chain q.projections q.sagas (inner q.object) (depth d) w.deep (record {
      called = read_same name_of (inner q.object) q.name (string q.name) (λ d p h. name_same d q.name h) (wanted_read (codes "sheet") name_of q.object q.name w.good q.is_name);
      revised = read_same small_of (inner q.object) q.revision (small_data q.revision) (λ d p h. small_same d q.revision p h) (wanted_read (codes "revision") small_of q.object q.revision w.good q.is_revision);
      aggregate = read_back (rules_of false) (inner q.object) q.aggregate (rules_data q.aggregate) (λ d p h. rules_back false d q.aggregate p h) (wanted_read (codes "aggregate") (rules_of false) q.object q.aggregate w.good q.is_aggregate);
      commands = read_back (named_of (command_of fs)) (inner q.object) q.commands (commands_data fs q.commands)
          (λ d p h. named_back (command_of fs) (λ (c : NamedCommand). c.name) (λ c. command_data fs c.command) (command_known fs) (command_back fs) d q.commands p h)
          (wanted_read (codes "commands") (named_of (command_of fs)) q.object q.commands w.good q.is_commands);
      chain = read_back chain_of (inner q.object) q.chain (list_data upcaster_data q.chain) (λ d p h. chain_back d q.chain p h) (wanted_read (codes "upcast") chain_of q.object q.chain w.good q.is_chain);
      projections = read_back (named_of projection_of) (inner q.object) q.projections (projections_data q.projections)
          (λ d p h. named_back projection_of (λ (x : NamedRules). x.name) (λ x. rules_data x.rules) projection_named projection_back d q.projections p h)
          (wanted_read (codes "projections") (named_of projection_of) q.object q.projections w.good q.is_projections);
      sagas = read_back (named_of (saga_of q.commands)) (inner q.object) q.sagas (sagas_data q.sagas)
          (λ d p h. named_back (saga_of q.commands) (λ (s : NamedSaga). s.name) (λ s. saga_data s.rules) (saga_named q.commands) (saga_back q.commands) d q.sagas p h)
          (wanted_read (codes "sagas") (named_of (saga_of q.commands)) q.object q.sagas w.good q.is_sagas);
      apart = q.apart;
    }))

-- the JSON value of a text
pub sheet_proper : (text : Line) (d : Data) → json_in text ≡ Some d → proper d ≡ true
unfolding json_in
sheet_proper text d h = let t = then-some (when (is_utf8 text) text) read d h in read_proper t.from d t.gives

-- the JSON that is written for a sheet is the sheet, and may be read
pub sheet_again : (s : Sheet) → IsSheet s → Back sheet_of max_depth s (sheet_data s)
unfolding IsSheet sheet_in json_in
sheet_again s h =
    let d = then-some (json_in h.0) sheet_of s h.1 in
    let text = then-some (when (is_utf8 h.0) h.0) read d.from d.held in
    let b = sheet_back d.from s (read_proper text.from d.from text.gives) d.gives in
    let low = b.low in
    let most = depth-read text.from d.from text.gives in
    record { again = b.again; low = omega (arith, low, most) }

-- a text that is read as that JSON is read as the sheet
pub text_again : (s : Sheet) (d : Data) (text : Line) → IsSheet s → IsUtf8 text → d ≡ sheet_data s → (depth d ≤ max_depth → read text ≡ Some d) → sheet_in text ≡ Some s
unfolding sheet_in
text_again s d text h u e written =
    let b = sheet_again s h in
    let low = b.low in
    then-is (json_in text) sheet_of (sheet_data s) s (sym (json_read text (sheet_data s) u (written (subst (λ d. depth d ≤ max_depth) (sym e) low) ∙ ap Some e))) b.again
