-- A line without a fault keeps what holds of all that has been read.
use Rattle.std.proofs.Common.{◌≡◌, ℕ, suc, ◌+◌, ◌-◌, ◌<◌, ◌≤◌, nat_lt, Bool, true, false, not, ◌&&◌, List, [], ◌∷◌, ◌++◌, length, map, replicate, find, Option, Some, None, option_map, refl, sym, ap, subst, ◌∙◌, length-append, if◌then◌else◌, zero-add, arith}
use Rattle.std.specs.List.{list_all, count_by}
use Rattle.std.proofs.lemmas.Bool.Decides.{nat_tests}
use Rattle.std.proofs.lemmas.List.{map-append, length-replicate}
use Rattle.std.proofs.lemmas.List.Sums.{sum_by-append}
use Rattle.std.specs.Prelude.{cond, slice_get}
use Rattle.ax_values.specs.Grammar.{Name}
use Rattle.ax_laws.proofs.Tests.{both, and-true, not-true, not-false}
use Rattle.ax_sheet.specs.Sheet.{Sheet}
use Rattle.ax_sheet.specs.Declarations.{most_processors, most_actors, names_differ, is_segment_count, is_actor_name, Processor}
use Rattle.ax_journal.specs.declared.form.Form.{Form}
use Rattle.ax_journal.specs.declared.order.Order.{Order}
use Rattle.ax_journal.specs.Orders.{is_stop, stops_last}
use Rattle.ax_script.specs.declared.line.Part.{Part}
use Rattle.ax_script.specs.declared.line.ScriptLine.{ScriptLine}
use Rattle.ax_script.specs.Queues.{queue_of, all_of, schedule_fits}
use Rattle.ax_script.specs.Plans.{Plan, IsPlan, IsSchedule}
use Rattle.ax_script.specs.Judging.{
  Reading,
  nothing_read,
  Judged,
  judgements,
  first_kind,
  actor_place,
  is_declared,
  is_known,
  is_of_read_sheet,
  is_show,
  ends_in_stop,
  most_steps,
  most_shows,
  shows_in,
  is_later,
  is_no_sheet,
  is_twice,
  is_unknown,
  is_past_limit,
  is_after_stop,
  is_wrong_schedule,
}
use Rattle.ax_script.specs.Reading.{with_line, with_steps}
use Rattle.ax_script.specs.Formed.{IsFormed}
use Rattle.ax_script.specs.Stands.{is_early, is_idle, Stands, HasActor}
use Rattle.ax_script.proofs.Queues.{added, sum-added, all-added, each-added, length-added, all_of-empty, fits-added, fits-whole, fits-empty}
use Rattle.ax_script.proofs.Declared.{no-either, differ-one, any-map, place-within, places-within}
use Rattle.ax_laws.proofs.Lists.{all-more}

-- ---- no fault

-- no judgement of the line fails
pub record IsClear (r : Reading) (l : ScriptLine) : Type 0 where
  pub no_sheet : is_no_sheet l ≡ false
  pub twice : is_twice r l ≡ false
  pub unknown : is_unknown r l ≡ false
  pub limit : is_past_limit r l ≡ false
  pub stopped : is_after_stop r l ≡ false
  pub schedule : is_wrong_schedule r l ≡ false

none_fails : (js : List Judged) → option_map (λ j. j.kind) (find (λ j. j.fails) js) ≡ None → list_all (λ j. not j.fails) js ≡ true
none_fails [] h = refl
none_fails (j ∷ js) h = at j.fails refl h (none_fails js)
  where
    at : (b : Bool) → j.fails ≡ b → option_map (λ j. j.kind) (if b then Some j else find (λ j. j.fails) js) ≡ None →
        (option_map (λ j. j.kind) (find (λ j. j.fails) js) ≡ None → list_all (λ j. not j.fails) js ≡ true) → (not j.fails && list_all (λ j. not j.fails) js) ≡ true
    at true e k later = absurd (cc)
    at false e k later = and-true (not j.fails) (list_all (λ j. not j.fails) js) (ap not e) (later k)

pub clear : (built : Form → Bool) (r : Reading) (l : ScriptLine) → first_kind built r l ≡ None → IsClear r l
unfolding first_kind
clear built r l h =
    let a = both (not (is_later built l)) _ (none_fails (judgements built r l) h) in
    let b = both (not (is_no_sheet l)) _ a.1 in
    let c = both (not (is_twice r l)) _ b.1 in
    let d = both (not (is_unknown r l)) _ c.1 in
    let e = both (not (is_past_limit r l)) _ d.1 in
    let f = both (not (is_after_stop r l)) _ e.1 in
    let g = both (not (is_wrong_schedule r l)) _ f.1 in
    record {
      no_sheet = not-true (is_no_sheet l) b.0;
      twice = not-true (is_twice r l) c.0;
      unknown = not-true (is_unknown r l) d.0;
      limit = not-true (is_past_limit r l) e.0;
      stopped = not-true (is_after_stop r l) f.0;
      schedule = not-true (is_wrong_schedule r l) g.0;
    }

-- ---- nothing read, and another part

pub stands-nothing : Stands nothing_read
stands-nothing = record {
  early = λ e. refl;
  idle = λ e. refl;
  few_processors = omega arith;
  processors_differ = refl;
  of_sheet = refl;
  counts = refl;
  few_actors = omega arith;
  actors_differ = refl;
  actors = refl;
  each = refl;
  last = refl;
  known = refl;
  steps_are = refl;
  shows_are = refl;
  steps = omega arith;
  shows = omega arith;
  schedule = record { fits = refl; whole = refl };
}

stands-part : (r : Reading) (part : Part) → Stands r → (is_early part ≡ true → r.processors ≡ []) → (is_idle part ≡ true → all_of r.orders ≡ []) → Stands (record r { part = part })
stands-part r part h early idle = record {
  early = early;
  idle = idle;
  few_processors = h.few_processors;
  processors_differ = h.processors_differ;
  of_sheet = h.of_sheet;
  counts = h.counts;
  few_actors = h.few_actors;
  actors_differ = h.actors_differ;
  actors = h.actors;
  each = h.each;
  last = h.last;
  known = h.known;
  steps_are = h.steps_are;
  shows_are = h.shows_are;
  steps = h.steps;
  shows = h.shows;
  schedule = h.schedule;
}

idle-in : (r : Reading) (part : Part) → Stands r → r.part ≡ part → is_idle part ≡ true → all_of r.orders ≡ []
idle-in r part h e i = h.idle (ap is_idle e ∙ i)

-- ---- the head

stands-sheet : (r : Reading) (sheet : Option Sheet) → Stands r → r.part ≡ Part.Sheet → Stands (record r { part = Part.Head; sheet = sheet })
stands-sheet r sheet h e =
    let bare : r.processors ≡ [] = h.early (ap is_early e) in
    let none : all_of r.orders ≡ [] = idle-in r Part.Sheet h e refl in record {
      early = λ k. absurd (cc);
      idle = λ k. none;
      few_processors = h.few_processors;
      processors_differ = h.processors_differ;
      of_sheet = ap (list_all (is_of_read_sheet sheet)) bare;
      counts = h.counts;
      few_actors = h.few_actors;
      actors_differ = h.actors_differ;
      actors = h.actors;
      each = h.each;
      last = h.last;
      known = ap (list_all (is_known sheet r.processors)) none;
      steps_are = h.steps_are;
      shows_are = h.shows_are;
      steps = h.steps;
      shows = h.shows;
      schedule = h.schedule;
    }

within-one : {A : Type 0} (xs : List A) (x : A) (most : ℕ) → nat_lt most (length xs + 1) ≡ false → length (xs ++ x ∷ []) ≤ most
within-one xs x most h = let low : length xs + 1 ≤ most = grind (arith, nat_tests, h) in omega (arith, low, length-append xs (x ∷ []))

stands-processor : (r : Reading) (q : Processor) → Stands r → IsFormed r.part (ScriptLine.Processor q) → IsClear r (ScriptLine.Processor q) → Stands (record r { processors = r.processors ++ q ∷ [] })
stands-processor r q h formed c =
    let none : all_of r.orders ≡ [] = idle-in r Part.Head h formed.0 refl in record {
      early = λ k. absurd (let f : false ≡ true = sym (ap is_early formed.0) ∙ k in cc);
      idle = h.idle;
      few_processors = within-one r.processors q most_processors c.limit;
      processors_differ = ap names_differ (map-append (λ p. p.name) r.processors (q ∷ [])) ∙ differ-one (map (λ p. p.name) r.processors) q.name h.processors_differ (any-map (λ p. p.name) q.name r.processors ∙ c.twice);
      of_sheet = all-more (is_of_read_sheet r.sheet) r.processors q h.of_sheet (not-false (is_of_read_sheet r.sheet q) c.unknown);
      counts = all-more (λ p. is_segment_count p.segments) r.processors q h.counts formed.1;
      few_actors = h.few_actors;
      actors_differ = h.actors_differ;
      actors = h.actors;
      each = h.each;
      last = h.last;
      known = ap (list_all (is_known r.sheet (r.processors ++ q ∷ []))) none;
      steps_are = h.steps_are;
      shows_are = h.shows_are;
      steps = h.steps;
      shows = h.shows;
      schedule = h.schedule;
    }

-- without steps no schedule
no-schedule : (xs : List ℕ) → length xs ≡ 0 → xs ≡ []
no-schedule [] h = refl
no-schedule (x ∷ xs) h = absurd (omega (arith, h))

schedule-actor : (queues : List (List Order)) (schedule : List ℕ) → all_of queues ≡ [] → IsSchedule queues schedule → IsSchedule (queues ++ [] ∷ []) schedule
schedule-actor queues schedule none h =
    let nothing : schedule ≡ [] = no-schedule schedule (h.whole ∙ ap length none) in record {
      fits = subst (λ s. schedule_fits 0 (queues ++ [] ∷ []) s ≡ true) (sym nothing) (fits-empty queues 0 (subst (λ s. schedule_fits 0 queues s ≡ true) nothing h.fits));
      whole = h.whole ∙ sym (ap length (all_of-empty queues));
    }

stands-actor : (r : Reading) (a : Name) → Stands r → IsFormed r.part (ScriptLine.Actor a) → IsClear r (ScriptLine.Actor a) →
    Stands (record r { actors = r.actors ++ a ∷ []; orders = r.orders ++ [] ∷ [] })
stands-actor r a h formed c =
    let none : all_of r.orders ≡ [] = idle-in r Part.Head h formed.0 refl in
    let same : all_of (r.orders ++ [] ∷ []) ≡ all_of r.orders = all_of-empty r.orders in record {
      early = h.early;
      idle = λ k. same ∙ h.idle k;
      few_processors = h.few_processors;
      processors_differ = h.processors_differ;
      of_sheet = h.of_sheet;
      counts = h.counts;
      few_actors = within-one r.actors a most_actors c.limit;
      actors_differ = differ-one r.actors a h.actors_differ c.twice;
      actors = all-more is_actor_name r.actors a h.actors formed.1;
      each = length-append r.orders ([] ∷ []) ∙ (ap (λ n. n + 1) h.each ∙ sym (length-append r.actors (a ∷ [])));
      last = all-more stops_last r.orders [] h.last refl;
      known = ap (list_all (is_known r.sheet r.processors)) same ∙ h.known;
      steps_are = h.steps_are ∙ sym (ap length same);
      shows_are = h.shows_are ∙ sym (ap (count_by is_show) same);
      steps = h.steps;
      shows = h.shows;
      schedule = schedule-actor r.orders r.schedule none h.schedule;
    }

-- ---- orders

-- steps behind a queue that did not stop
stops-append : (xs ys : List Order) → ends_in_stop xs ≡ false → stops_last ys ≡ true → stops_last xs ≡ true → stops_last (xs ++ ys) ≡ true
stops-append [] ys e h k = h
stops-append (x ∷ []) [] e h k = refl
stops-append (x ∷ []) (y ∷ ys) e h k = and-true (not (is_stop x)) (stops_last (y ∷ ys)) (ap not e) h
stops-append (x ∷ z ∷ xs) ys e h k =
    let p = both (not (is_stop x)) (stops_last (z ∷ xs)) k in
    and-true (not (is_stop x)) (stops_last (z ∷ (xs ++ ys))) p.0 (stops-append (z ∷ xs) ys e h p.1)

-- by the last step alone
abbrev pub stop_at : Option Order → Bool
stop_at None = false
stop_at (Some o) = is_stop o

pub ends_at_last : (os : List Order) → ends_in_stop os ≡ stop_at (slice_get os (length os - 1))
ends_at_last [] = refl
ends_at_last (o ∷ []) = refl
ends_at_last (o ∷ p ∷ os) =
    let place : length (o ∷ p ∷ os) - 1 ≡ suc (length (p ∷ os) - 1) = omega arith in ends_at_last (p ∷ os) ∙ sym (ap (λ n. stop_at (slice_get (o ∷ p ∷ os) n)) place)

pub has-actor : (r : Reading) (l : ScriptLine) → Stands r → IsClear r l → HasActor r l
has-actor r ScriptLine.Axon h c = tt
has-actor r (ScriptLine.Sheet sheet) h c = tt
has-actor r (ScriptLine.Processor q) h c = tt
has-actor r (ScriptLine.Actor a) h c = tt
has-actor r ScriptLine.Orders h c = tt
has-actor r (ScriptLine.Order a form steps) h c =
    let p = both (is_declared r.actors a) (list_all (is_known r.sheet r.processors) steps) (not-false _ c.unknown) in
    let lt = place-within r.actors a p.0 in
    omega (arith, lt, h.each)
has-actor r (ScriptLine.Schedule names) h c = tt

counts-append : (xs ys : List Order) → count_by is_show (xs ++ ys) ≡ count_by is_show xs + count_by is_show ys
counts-append xs ys = sum_by-append (λ x. cond (is_show x) 1 0) xs ys

stands-steps : (r : Reading) (a : Name) (form : Form) (steps : List Order) → Stands r → IsFormed r.part (ScriptLine.Order a form steps) → IsClear r (ScriptLine.Order a form steps) →
    Stands (with_steps r (actor_place r.actors a) steps)
stands-steps r a form steps h formed c =
    let place = actor_place r.actors a in
    let lt : place < length r.orders = has-actor r (ScriptLine.Order a form steps) h c in
    let known = both (is_declared r.actors a) (list_all (is_known r.sheet r.processors) steps) (not-false _ c.unknown) in
    let more = sum-added length length-append r.orders place steps lt in
    let shown = sum-added (count_by is_show) counts-append r.orders place steps lt in
    let limits = no-either (nat_lt most_steps (r.steps + length steps)) (nat_lt most_shows (r.shows + shows_in steps)) c.limit in record {
      early = h.early;
      idle = λ k. absurd (let f : false ≡ true = sym (ap is_idle formed.0) ∙ k in cc);
      few_processors = h.few_processors;
      processors_differ = h.processors_differ;
      of_sheet = h.of_sheet;
      counts = h.counts;
      few_actors = h.few_actors;
      actors_differ = h.actors_differ;
      actors = h.actors;
      each = length-added r.orders place steps ∙ h.each;
      last = each-added stops_last r.orders place steps h.last (stops-append (queue_of r.orders place) steps c.stopped formed.1);
      known = all-added (is_known r.sheet r.processors) r.orders place steps h.known known.1;
      steps_are = ap (λ n. n + length steps) h.steps_are ∙ sym more;
      shows_are = ap (λ n. n + shows_in steps) h.shows_are ∙ sym shown;
      steps = grind (arith, nat_tests, limits.0);
      shows = grind (arith, nat_tests, limits.1);
      schedule = record {
        fits = subst (λ p. schedule_fits 0 (added r.orders place steps) (r.schedule ++ replicate (length steps) p) ≡ true) (zero-add place) (fits-added r.orders 0 place steps r.schedule lt h.schedule.fits);
        whole = length-append r.schedule (replicate (length steps) place) ∙ (ap (λ n. n + length (replicate (length steps) place)) h.schedule.whole ∙ (ap (λ n. length (all_of r.orders) + n) (length-replicate (length steps) place) ∙ sym more));
      };
    }

stands-schedule : (r : Reading) (names : List Name) → Stands r → IsFormed r.part (ScriptLine.Schedule names) → IsClear r (ScriptLine.Schedule names) →
    Stands (record r { part = Part.End; schedule = map (actor_place r.actors) names })
stands-schedule r names h formed c =
    let fits = not-false (schedule_fits 0 r.orders (map (actor_place r.actors) names)) c.schedule in
    let within = places-within r.actors names (not-false (list_all (is_declared r.actors) names) c.unknown) in record {
      early = λ k. absurd (cc);
      idle = λ k. absurd (cc);
      few_processors = h.few_processors;
      processors_differ = h.processors_differ;
      of_sheet = h.of_sheet;
      counts = h.counts;
      few_actors = h.few_actors;
      actors_differ = h.actors_differ;
      actors = h.actors;
      each = h.each;
      last = h.last;
      known = h.known;
      steps_are = h.steps_are;
      shows_are = h.shows_are;
      steps = h.steps;
      shows = h.shows;
      schedule = record {
        fits = fits;
        whole = fits-whole r.orders (map (actor_place r.actors) names) fits (subst (λ n. list_all (λ k. nat_lt k n) (map (actor_place r.actors) names) ≡ true) (sym h.each) within);
      };
    }

-- ---- any line

pub stands-line : (r : Reading) (l : ScriptLine) → Stands r → IsFormed r.part l → IsClear r l → Stands (with_line r l)
unfolding with_line
stands-line r ScriptLine.Axon h formed c = stands-part r Part.Sheet h (λ e. h.early (ap is_early formed)) (λ e. idle-in r Part.Start h formed refl)
stands-line r (ScriptLine.Sheet sheet) h formed c = stands-sheet r sheet h formed
stands-line r (ScriptLine.Processor q) h formed c = stands-processor r q h formed c
stands-line r (ScriptLine.Actor a) h formed c = stands-actor r a h formed c
stands-line r ScriptLine.Orders h formed c = stands-part r Part.Orders h (λ e. absurd (cc)) (λ e. absurd (cc))
stands-line r (ScriptLine.Order a form steps) h formed c = stands-steps r a form steps h formed c
stands-line r (ScriptLine.Schedule names) h formed c = stands-schedule r names h formed c

-- ---- a plan of all that has been read

-- the parts of a plan, where a sheet was read
abbrev parts_of : Reading → Sheet → Plan
parts_of r sheet = record { sheet = sheet; processors = r.processors; actors = r.actors; orders = r.orders; schedule = r.schedule }

is-plan : (r : Reading) (sheet : Sheet) → Stands r → r.sheet ≡ Some sheet → IsPlan (parts_of r sheet)
is-plan r sheet h e = record {
  processors = record { few = h.few_processors; differ = h.processors_differ; of_sheet = ap (λ s. list_all (is_of_read_sheet s) r.processors) (sym e) ∙ h.of_sheet; counts = h.counts };
  actors = record { few = h.few_actors; differ = h.actors_differ; named = h.actors };
  orders = record {
    each = h.each;
    last = h.last;
    known = ap (λ s. list_all (is_known s r.processors) (all_of r.orders)) (sym e) ∙ h.known;
    steps = omega (arith, h.steps_are, h.steps);
    shows = omega (arith, h.shows_are, h.shows);
  };
  schedule = h.schedule;
}

pub planned : (r : Reading) (p : Plan) → Stands r → r.sheet ≡ Some p.sheet → p ≡ parts_of r p.sheet → IsPlan p
planned r p h e same = subst IsPlan (sym same) (is-plan r p.sheet h e)
