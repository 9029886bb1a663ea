-- What is written for a sheet is read again as the sheet, and nests no deeper than the JSON that it was read from.
use Rattle.std.proofs.Common.{◌≡◌, ◌≤◌, ◌+◌, ℕ, suc, Bool, true, false, ◌&&◌, List, [], ◌∷◌, length, map, codes, Option, Some, None, option_map, refl, sym, ap, subst, ◌∙◌, arith}
use Rattle.std.specs.List.{list_all}
use Rattle.std.specs.Prelude.{nat_le, ⊤}
use Rattle.serde_json.specs.Data.{Data, string, object, Items, no_items, item, Members, no_members, member, depth, items_depth, members_depth}
use Rattle.serde_json.specs.Find.{as_array, as_object, as_bool, get}
use Rattle.serde_json.specs.View.{items_of}
use Rattle.ax_values.specs.Grammar.{Name, name_in}
use Rattle.ax_laws.proofs.Tests.{both}
use Rattle.ax_laws.proofs.Options.{some-is}
use Rattle.ax_values.proofs.Options.{when-some, when-true, then-some, map-some}
use Rattle.ax_rules.specs.Rules.{Rules}
use Rattle.ax_rules.specs.declared.guard.Guard.{Guard}
use Rattle.ax_rules.specs.declared.rule.Set.{Set}
use Rattle.ax_rules.specs.declared.rule.Rule.{Rule}
use Rattle.ax_rules.specs.declared.rules.Initial.{Initial}
use Rattle.ax_upcast.specs.Upcast.{keeps_limit}
use Rattle.ax_upcast.specs.declared.event.Template.{Template}
use Rattle.ax_upcast.specs.declared.upcaster.Act.{Act}
use Rattle.ax_upcast.specs.declared.upcaster.Upcaster.{Upcaster}
use Rattle.ax_sheet_rules.specs.Members.{Pair, small_of, name_of, each_item, list_of, pair_of, each_member, named_of, object_of, wanted, or_empty, optional, is_there}
use Rattle.ax_sheet_rules.specs.Names.{anything, is_param, is_int_param}
use Rattle.ax_sheet_parts.specs.Sheet.{fits_record}
use Rattle.ax_sheet_parts.specs.declared.params.Param.{Param}
use Rattle.ax_sheet_parts.specs.declared.parts.NamedCommand.{NamedCommand}
use Rattle.ax_sheet_rules.specs.Shape.{guards_of, sets_of, fields_of, rule_keys, rule_of, two_keys, rules_of, templates_of, params_of, events_of, command_keys, command_of, act_of, upcaster_keys, upcaster_of, most_upcasters, chain_of}
use Rattle.ax_sheet_writing.specs.Text.{list_data, two_data, named_data, small_data, guards_data, sets_data, fields_data, rule_data, rules_data, template_data, params_data, command_data, act_data, upcaster_data}
use Rattle.ax_sheet_rules.proofs.Apart.{rule_parts}
use Rattle.ax_sheet_reading.proofs.Apart.{command_parts}
use Rattle.ax_sheet.proofs.Proper.{leads, proper, items_proper, members_proper}
use Rattle.ax_sheet.proofs.Same.{array_is, object_is, small_same, name_is, name_same, two_parts, plain, in_order}
use Rattle.ax_sheet.proofs.SameParts.{guards_same, sets_same, fields_same, templates_same, params_same, act_same}
use Rattle.ax_sheet.proofs.Objects.{then-is, Row, row, total, count_keys, Built, no_more, with_member, list_opt, flag_opt, with_list, with_flag, object_again, object_low, Back, wanted_again, optional_again, inner, whole_object, opened, wanted_read, read_same, read_back, Kept, kept, nothing_else}

-- ---- lists

items_back : {A : Type 0} (one : Data → Option A) (write : A → Data) → ((d : Data) (x : A) → proper d ≡ true → one d ≡ Some x → Back one (depth d) x (write x)) → (ds : Items) (xs : List A) → items_proper ds ≡ true →
    each_item one ds ≡ Some xs → (each_item one (items_of (map write xs)) ≡ Some xs) × (items_depth (items_of (map write xs)) ≤ items_depth ds)
items_back one write back no_items xs p h =
    let e = some-is [] xs h in subst (λ xs. (each_item one (items_of (map write xs)) ≡ Some xs) × (items_depth (items_of (map write xs)) ≤ 0)) e (refl, omega arith)
items_back one write back (item d ds) xs p h =
    let b = both (proper d) (items_proper ds) p in
    let x = then-some (one d) _ xs h in
    let ys = map-some (each_item one ds) _ xs x.gives in
    let first = back d x.from b.0 x.held in
    let more = items_back one write back ds ys.from b.1 ys.held in
    let low = first.low in
    let lows = more.1 in
    subst (λ xs. (each_item one (items_of (map write xs)) ≡ Some xs) × (items_depth (items_of (map write xs)) ≤ items_depth (item d ds))) ys.gives (
      then-is (one (write x.from)) _ x.from (x.from ∷ ys.from) first.again (ap (option_map (λ xs. x.from ∷ xs)) more.0),
      omega (arith, low, lows),
    )

list_back : {A : Type 0} (one : Data → Option A) (write : A → Data) → ((d : Data) (x : A) → proper d ≡ true → one d ≡ Some x → Back one (depth d) x (write x)) → (d : Data) (xs : List A) → proper d ≡ true →
    list_of one d ≡ Some xs → Back (list_of one) (depth d) xs (list_data write xs)
list_back one write back d xs p h =
    let ds = then-some (as_array d) (each_item one) xs h in
    let is = array_is d ds.from ds.held in
    let b = items_back one write back ds.from xs (ap proper is ∙ p) ds.gives in
    let low = b.1 in
    record { again = b.0; low = subst (λ d. depth (list_data write xs) ≤ depth d) is (omega (arith, low)) }

-- ---- named members

plain_back : {A : Type 0} (one : Name → Data → Option A) (name : A → Name) (write : A → Data) → ((n : Name) (d : Data) (x : A) → one n d ≡ Some x → name x ≡ n) →
    ((n : Name) (d : Data) (x : A) → proper d ≡ true → one n d ≡ Some x → Back (one n) (depth d) x (write x)) → (ms : Members) (xs : List A) → members_proper ms ≡ true → each_member one ms ≡ Some xs →
    (each_member one (plain name write xs) ≡ Some xs) × (members_depth (plain name write xs) ≤ members_depth ms)
plain_back one name write named back no_members xs p h =
    let e = some-is [] xs h in subst (λ xs. (each_member one (plain name write xs) ≡ Some xs) × (members_depth (plain name write xs) ≤ 0)) e (refl, omega arith)
plain_back one name write named back (member l d ms) xs p h =
    let b = both (proper d) (leads l ms && members_proper ms) p in
    let c = both (leads l ms) (members_proper ms) b.1 in
    let n = then-some (name_in l) _ xs h in
    let x = then-some (one n.from d) _ xs n.gives in
    let ys = map-some (each_member one ms) _ xs x.gives in
    let first = back n.from d x.from b.0 x.held in
    let more = plain_back one name write named back ms ys.from c.1 ys.held in
    let low = first.low in
    let lows = more.1 in
    let known : name_in (name x.from) ≡ Some n.from = ap name_in (named n.from d x.from x.held ∙ sym (name_is l n.from n.held)) ∙ n.held in
    subst (λ xs. (each_member one (plain name write xs) ≡ Some xs) × (members_depth (plain name write xs) ≤ members_depth (member l d ms))) ys.gives (
      then-is (name_in (name x.from)) _ n.from (x.from ∷ ys.from) known
          (then-is (one n.from (write x.from)) _ x.from (x.from ∷ ys.from) first.again (ap (option_map (λ xs. x.from ∷ xs)) more.0)),
      omega (arith, low, lows),
    )

pub named_back : {A : Type 0} (one : Name → Data → Option A) (name : A → Name) (write : A → Data) → ((n : Name) (d : Data) (x : A) → one n d ≡ Some x → name x ≡ n) →
    ((n : Name) (d : Data) (x : A) → proper d ≡ true → one n d ≡ Some x → Back (one n) (depth d) x (write x)) → (d : Data) (xs : List A) → proper d ≡ true → named_of one d ≡ Some xs →
    Back (named_of one) (depth d) xs (named_data name write xs)
named_back one name write named back d xs p h =
    let ms = then-some (as_object d) (each_member one) xs h in
    let is = object_is d ms.from ms.held in
    let q = ap proper is ∙ p in
    let b = plain_back one name write named back ms.from xs q ms.gives in
    let low = b.1 in
    let e = in_order one name write named ms.from xs q ms.gives in
    record {
      again = ap (each_member one) e ∙ b.0;
      low = subst (λ d. depth (named_data name write xs) ≤ depth d) is (subst (λ ns. depth (object ns) ≤ depth (object ms.from)) (sym e) (omega (arith, low)));
    }

-- ---- rules

-- a rule that may not announce does not
abbrev Quiet : Bool → Bool → Type 0
Quiet true b = ⊤
Quiet false b = b ≡ false

quiet_by : (o : Option Data) (b : Bool) → o ≡ None → or_empty false as_bool o ≡ Some b → b ≡ false
quiet_by None b e h = sym (some-is false b h)
quiet_by (Some d) b e h = cc

quiet : (announcing : Bool) (d o : Data) (b : Bool) → object_of (rule_keys announcing) d ≡ Some o → optional (codes "announce") false as_bool o ≡ Some b → Quiet announcing b
quiet true d o b e h = tt
quiet false d o b e h =
    let same = (whole_object (rule_keys false) d o e).0 in
    quiet_by (get (codes "announce") o) b (ap (get (codes "announce")) (sym same) ∙ nothing_else (codes "announce") (rule_keys false) d o refl e) h

pub flag_again : (b : Bool) → or_empty false as_bool (flag_opt b) ≡ Some b
flag_again false = refl
flag_again true = refl

three_sums : (a s g : ℕ) → a + (s + (g + 0)) ≡ g + (s + (a + 0))
three_sums a s g = omega arith

two_sums : (s g : ℕ) → 0 + (s + (g + 0)) ≡ g + (s + 0)
two_sums s g = omega arith

abbrev rule_rows : Option Data → Option Data → Option Data → List Row
rule_rows a s g = row (codes "announce") a ∷ row (codes "sets") s ∷ row (codes "guards") g ∷ []

rule_total : (announcing b : Bool) (s g : Option Data) → Quiet announcing b → total (rule_rows (flag_opt b) s g) ≡ count_keys (rule_keys announcing) (rule_rows (flag_opt b) s g)
rule_total true b s g q = three_sums (is_there (flag_opt b)) (is_there s) (is_there g)
rule_total false true s g q = cc
rule_total false false s g q = two_sums (is_there s) (is_there g)

rule_reads : (announcing : Bool) (fs : List Initial) (n : Name) (gs : List Guard) (ss : List Set) (b : Bool) (m : ℕ) (ms : Members) →
    Built m ms (rule_rows (flag_opt b) (list_opt (sets_data fs) ss) (list_opt (guards_data fs) gs)) →
    Kept (guards_of fs anything) (guards_data fs) m gs → Kept (sets_of fs anything) (sets_data fs) m ss → Quiet announcing b →
    rule_of announcing fs n (object ms) ≡ Some (record { kind = n; guards = gs; sets = ss; announce = b })
unfolding rule_of
rule_reads announcing fs n gs ss b m ms built g s q =
    then-is (object_of (rule_keys announcing) (object ms)) _ (object ms) _ (object_again (rule_keys announcing) built refl (rule_total announcing b (list_opt (sets_data fs) ss) (list_opt (guards_data fs) gs) q))
    (then-is (optional (codes "guards") [] (guards_of fs anything) (object ms)) _ gs _ (optional_again (codes "guards") [] (guards_of fs anything) gs (list_opt (guards_data fs) gs) built refl refl g.again)
    (then-is (optional (codes "sets") [] (sets_of fs anything) (object ms)) _ ss _ (optional_again (codes "sets") [] (sets_of fs anything) ss (list_opt (sets_data fs) ss) built refl refl s.again)
    (then-is (optional (codes "announce") false as_bool (object ms)) _ b _ (optional_again (codes "announce") false as_bool b (flag_opt b) built refl refl (flag_again b)) refl)))

rule_kept : (announcing : Bool) (fs : List Initial) (n : Name) (gs : List Guard) (ss : List Set) (b : Bool) (m k : ℕ) → k ≡ suc m → Kept (guards_of fs anything) (guards_data fs) m gs →
    Kept (sets_of fs anything) (sets_data fs) m ss →
    Quiet announcing b → Back (rule_of announcing fs n) k (record { kind = n; guards = gs; sets = ss; announce = b }) (rule_data fs (record { kind = n; guards = gs; sets = ss; announce = b }))
unfolding rule_data
rule_kept announcing fs n gs ss b m k e g s q =
    let built = with_flag (codes "announce") b (with_list (codes "sets") (sets_data fs) ss s.low (with_list (codes "guards") (guards_data fs) gs g.low (no_more m))) in
    record { again = rule_reads announcing fs n gs ss b m _ built g s q; low = object_low k built e }

rule_back : (announcing : Bool) (fs : List Initial) (n : Name) (d : Data) (r : Rule) → proper d ≡ true → rule_of announcing fs n d ≡ Some r → Back (rule_of announcing fs n) (depth d) r (rule_data fs r)
rule_back announcing fs n d r p h =
    let q = rule_parts announcing fs n d r h in
    let w = opened (rule_keys announcing) d q.object p q.is_object in
    subst (λ r. Back (rule_of announcing fs n) (depth d) r (rule_data fs r)) (sym q.made)
    (rule_kept announcing fs n q.guards q.sets q.announce (inner q.object) (depth d) w.deep (kept (codes "guards") (guards_of fs anything) (guards_data fs) q.object q.guards (guards_same fs anything) w.good q.is_guards)
    (kept (codes "sets") (sets_of fs anything) (sets_data fs) q.object q.sets (sets_same fs anything) w.good q.is_sets) (quiet announcing d q.object q.announce q.is_object q.is_announce))

rule_named : (announcing : Bool) (fs : List Initial) (n : Name) (d : Data) (r : Rule) → rule_of announcing fs n d ≡ Some r → r.kind ≡ n
rule_named announcing fs n d r h = ap (λ (r : Rule). r.kind) (rule_parts announcing fs n d r h).made

abbrev pub two_rows : Data → Data → List Row
two_rows on fields = row (codes "on") (Some on) ∷ row (codes "fields") (Some fields) ∷ []

rules_reads : (announcing : Bool) (fs : List Initial) (rs : List Rule) (on fields : Data) (m : ℕ) (ms : Members) → Built m ms (two_rows on fields) → Back fields_of m fs fields → Back (named_of (rule_of announcing fs)) m rs on →
    rules_of announcing (object ms) ≡ Some (record { fields = fs; rules = rs })
unfolding rules_of
rules_reads announcing fs rs on fields m ms built f r =
    then-is (object_of two_keys (object ms)) _ (object ms) _ (object_again two_keys built refl refl)
    (then-is (wanted (codes "fields") fields_of (object ms)) _ fs _ (wanted_again (codes "fields") fields_of fs fields built refl refl f)
    (then-is (wanted (codes "on") (named_of (rule_of announcing fs)) (object ms)) _ rs _ (wanted_again (codes "on") (named_of (rule_of announcing fs)) rs on built refl refl r) refl))

rules_kept : (announcing : Bool) (fs : List Initial) (rs : List Rule) (m k : ℕ) → k ≡ suc m → Back fields_of m fs (fields_data fs) →
    Back (named_of (rule_of announcing fs)) m rs (named_data (λ (x : Rule). x.kind) (rule_data fs) rs) →
    Back (rules_of announcing) k (record { fields = fs; rules = rs }) (rules_data (record { fields = fs; rules = rs }))
unfolding rules_data
rules_kept announcing fs rs m k e f r =
    let built = with_member (codes "on") (named_data (λ (x : Rule). x.kind) (rule_data fs) rs) r.low (with_member (codes "fields") (fields_data fs) f.low (no_more m)) in
    record { again = rules_reads announcing fs rs (named_data (λ (x : Rule). x.kind) (rule_data fs) rs) (fields_data fs) m _ built f r; low = object_low k built e }

pub rules_back : (announcing : Bool) (d : Data) (r : Rules) → proper d ≡ true → rules_of announcing d ≡ Some r → Back (rules_of announcing) (depth d) r (rules_data r)
unfolding rules_of
rules_back announcing d r p h =
    let o = then-some (object_of two_keys d) _ r h in
    let fs = then-some (wanted (codes "fields") fields_of o.from) _ r o.gives in
    let rs = then-some (wanted (codes "on") (named_of (rule_of announcing fs.from)) o.from) _ r fs.gives in
    let w = opened two_keys d o.from p o.held in
    subst (λ r. Back (rules_of announcing) (depth d) r (rules_data r)) (some-is _ r rs.gives)
    (rules_kept announcing fs.from rs.from (inner o.from) (depth d) w.deep
    (read_same fields_of (inner o.from) fs.from (fields_data fs.from) (λ d p h. fields_same d fs.from p h) (wanted_read (codes "fields") fields_of o.from fs.from w.good fs.held))
    (read_back (named_of (rule_of announcing fs.from)) (inner o.from) rs.from (named_data (λ (x : Rule). x.kind) (rule_data fs.from) rs.from)
    (λ d p h. named_back (rule_of announcing fs.from) (λ (x : Rule). x.kind) (rule_data fs.from) (rule_named announcing fs.from) (rule_back announcing fs.from) d rs.from p h)
    (wanted_read (codes "on") (named_of (rule_of announcing fs.from)) o.from rs.from w.good rs.held)))

-- ---- commands

abbrev command_rows : Data → Data → Data → List Row
command_rows events guards params = row (codes "events") (Some events) ∷ row (codes "guards") (Some guards) ∷ row (codes "params") (Some params) ∷ []

command_reads : (fs : List Initial) (n : Name) (ps : List Param) (gs : List Guard) (ts : List Template) (events guards params : Data) (m : ℕ) (ms : Members) → Built m ms (command_rows events guards params) →
    Back params_of m ps params → Back (guards_of fs (is_int_param ps)) m gs guards → Back (events_of ps) m ts events →
    command_of fs n (object ms) ≡ Some (record { name = n; command = record { params = ps; guards = gs; events = ts } })
unfolding command_of
command_reads fs n ps gs ts events guards params m ms built p g t =
    then-is (object_of command_keys (object ms)) _ (object ms) _ (object_again command_keys built refl refl)
    (then-is (wanted (codes "params") params_of (object ms)) _ ps _ (wanted_again (codes "params") params_of ps params built refl refl p)
    (then-is (wanted (codes "guards") (guards_of fs (is_int_param ps)) (object ms)) _ gs _ (wanted_again (codes "guards") (guards_of fs (is_int_param ps)) gs guards built refl refl g)
    (then-is (wanted (codes "events") (events_of ps) (object ms)) _ ts _ (wanted_again (codes "events") (events_of ps) ts events built refl refl t) refl)))

command_kept : (fs : List Initial) (n : Name) (ps : List Param) (gs : List Guard) (ts : List Template) (m k : ℕ) → k ≡ suc m → Back params_of m ps (params_data ps) → Back (guards_of fs (is_int_param ps)) m gs (guards_data fs gs) →
    Back (events_of ps) m ts (list_data template_data ts) →
    Back (command_of fs n) k (record { name = n; command = record { params = ps; guards = gs; events = ts } }) (command_data fs (record { params = ps; guards = gs; events = ts }))
unfolding command_data
command_kept fs n ps gs ts m k e p g t =
    let built = with_member (codes "events") (list_data template_data ts) t.low (with_member (codes "guards") (guards_data fs gs) g.low (with_member (codes "params") (params_data ps) p.low (no_more m))) in
    record { again = command_reads fs n ps gs ts (list_data template_data ts) (guards_data fs gs) (params_data ps) m _ built p g t; low = object_low k built e }

events_same : (ps : List Param) (d : Data) (ts : List Template) → proper d ≡ true → events_of ps d ≡ Some ts → list_data template_data ts ≡ d
unfolding events_of
events_same ps d ts p h =
    let l = then-some (templates_of (is_param ps) d) _ ts h in
    let w = when-some (list_all fits_record l.from) l.from ts l.gives in
    templates_same (is_param ps) d ts p (l.held ∙ ap Some w.1)

pub command_back : (fs : List Initial) (n : Name) (d : Data) (c : NamedCommand) → proper d ≡ true → command_of fs n d ≡ Some c → Back (command_of fs n) (depth d) c (command_data fs c.command)
command_back fs n d c p h =
    let q = command_parts fs n d c h in
    let w = opened command_keys d q.object p q.is_object in
    subst (λ (c : NamedCommand). Back (command_of fs n) (depth d) c (command_data fs c.command)) (sym q.made)
    (command_kept fs n q.params q.guards q.events (inner q.object) (depth d) w.deep
    (read_same params_of (inner q.object) q.params (params_data q.params) (λ d p h. params_same d q.params p h) (wanted_read (codes "params") params_of q.object q.params w.good q.is_params))
    (read_same (guards_of fs (is_int_param q.params)) (inner q.object) q.guards (guards_data fs q.guards) (λ d p h. guards_same fs (is_int_param q.params) d q.guards p h)
    (wanted_read (codes "guards") (guards_of fs (is_int_param q.params)) q.object q.guards w.good q.is_guards))
    (read_same (events_of q.params) (inner q.object) q.events (list_data template_data q.events) (λ d p h. events_same q.params d q.events p h) (wanted_read (codes "events") (events_of q.params) q.object q.events w.good q.is_events)))

pub command_known : (fs : List Initial) (n : Name) (d : Data) (c : NamedCommand) → command_of fs n d ≡ Some c → c.name ≡ n
command_known fs n d c h = ap (λ (c : NamedCommand). c.name) (command_parts fs n d c h).made

-- ---- upcasters

abbrev upcaster_rows : Data → Data → List Row
upcaster_rows act from = row (codes "do") (Some act) ∷ row (codes "from") (Some from) ∷ []

-- the two halves of where an upcaster starts
record Start (from : Pair) (kind : Name) (revision m : ℕ) : Type 0 where
  kind_is : name_of from.first ≡ Some kind
  revision_is : small_of from.second ≡ Some revision
  back : Back pair_of m from (two_data (string kind) (small_data revision))

upcaster_reads : (from : Pair) (kind : Name) (revision : ℕ) (a : Act) (start act : Data) (m : ℕ) (ms : Members) → Built m ms (upcaster_rows act start) → name_of from.first ≡ Some kind → small_of from.second ≡ Some revision →
    Back pair_of m from start → Back act_of m a act → upcaster_of (object ms) ≡ Some (record { kind = kind; revision = revision; act = a })
unfolding upcaster_of
upcaster_reads from kind revision a start act m ms built k r f b =
    then-is (object_of upcaster_keys (object ms)) _ (object ms) _ (object_again upcaster_keys built refl refl)
    (then-is (wanted (codes "from") pair_of (object ms)) _ from _ (wanted_again (codes "from") pair_of from start built refl refl f)
    (then-is (name_of from.first) _ kind _ k
    (then-is (small_of from.second) _ revision _ r
    (then-is (wanted (codes "do") act_of (object ms)) _ a _ (wanted_again (codes "do") act_of a act built refl refl b) refl))))

upcaster_kept : (from : Pair) (kind : Name) (revision : ℕ) (a : Act) (m k : ℕ) → k ≡ suc m → Start from kind revision m → Back act_of m a (act_data a) →
    Back upcaster_of k (record { kind = kind; revision = revision; act = a }) (upcaster_data (record { kind = kind; revision = revision; act = a }))
unfolding upcaster_data
upcaster_kept from kind revision a m k e s b =
    let f = s.back in
    let built = with_member (codes "do") (act_data a) b.low (with_member (codes "from") (two_data (string kind) (small_data revision)) f.low (no_more m)) in
    record { again = upcaster_reads from kind revision a (two_data (string kind) (small_data revision)) (act_data a) m _ built s.kind_is s.revision_is f b; low = object_low k built e }

start_same : (d : Data) (t : Pair) (kind : Name) (revision : ℕ) → proper d ≡ true → pair_of d ≡ Some t → name_of t.first ≡ Some kind → small_of t.second ≡ Some revision → two_data (string kind) (small_data revision) ≡ d
start_same d t kind revision p h k r =
    let parts = two_parts d t p h in
    ap (λ a. two_data a (small_data revision)) (name_same t.first kind k) ∙ ap (two_data t.first) (small_same t.second revision parts.second r) ∙ parts.is

upcaster_back : (d : Data) (u : Upcaster) → proper d ≡ true → upcaster_of d ≡ Some u → Back upcaster_of (depth d) u (upcaster_data u)
unfolding upcaster_of
upcaster_back d u p h =
    let o = then-some (object_of upcaster_keys d) _ u h in
    let from = then-some (wanted (codes "from") pair_of o.from) _ u o.gives in
    let kind = then-some (name_of from.from.first) _ u from.gives in
    let revision = then-some (small_of from.from.second) _ u kind.gives in
    let act = then-some (wanted (codes "do") act_of o.from) _ u revision.gives in
    let w = opened upcaster_keys d o.from p o.held in
    let start = read_same pair_of (inner o.from) from.from (two_data (string kind.from) (small_data revision.from)) (λ d p h. start_same d from.from kind.from revision.from p h kind.held revision.held)
    (wanted_read (codes "from") pair_of o.from from.from w.good from.held) in
    subst (λ u. Back upcaster_of (depth d) u (upcaster_data u)) (some-is _ u act.gives)
    (upcaster_kept from.from kind.from revision.from act.from (inner o.from) (depth d) w.deep (record { kind_is = kind.held; revision_is = revision.held; back = start })
    (read_same act_of (inner o.from) act.from (act_data act.from) (λ d p h. act_same d act.from p h) (wanted_read (codes "do") act_of o.from act.from w.good act.held)))

pub chain_back : (d : Data) (us : List Upcaster) → proper d ≡ true → chain_of d ≡ Some us → Back chain_of (depth d) us (list_data upcaster_data us)
unfolding chain_of
chain_back d us p h =
    let l = then-some (list_of upcaster_of d) _ us h in
    let w = when-some (nat_le (length l.from) most_upcasters && keeps_limit l.from) l.from us l.gives in
    let b = list_back upcaster_of upcaster_data upcaster_back d us p (l.held ∙ ap Some w.1) in
    record {
      again = then-is (list_of upcaster_of (list_data upcaster_data us)) _ us us b.again
          (when-true (nat_le (length us) most_upcasters && keeps_limit us) us (ap (λ us. nat_le (length us) most_upcasters && keeps_limit us) (sym w.1) ∙ w.0));
      low = b.low;
    }
