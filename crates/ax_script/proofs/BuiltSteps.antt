-- What holds of the steps of each form that is built holds of all steps of a script.
use Rattle.std.proofs.Common.{◌≡◌, ℕ, zero, suc, ◌+◌, ◌&&◌, Bool, true, false, not, List, [], ◌∷◌, ◌++◌, length, find, Option, Some, None, option_map, IfSome, IfOk, Result, Ok, Err, if◌then◌else◌, refl, subst}
use Rattle.std.specs.Prelude.{slice_set, codes, nat_lt}
use Rattle.std.specs.List.{list_all}
use Rattle.ax_laws.proofs.Tests.{both, and-true, not-false}
use Rattle.ax_laws.proofs.Lists.{all-append}
use Rattle.ax_values.specs.Grammar.{Line, Name, ◌>>=◌, when, name_in, each_in, after_front, line_words, is_plain_byte}
use Rattle.ax_values.specs.Words.{same_name}
use Rattle.ax_sheet.specs.Sheet.{Sheet}
use Rattle.ax_journal.specs.declared.arguments.Arguments.{Arguments}
use Rattle.ax_journal.specs.declared.form.Form.{Form}
use Rattle.ax_journal.specs.declared.order.Order.{Order}
use Rattle.ax_journal.specs.Form.{worded}
use Rattle.ax_journal.specs.Orders.{steps_in}
use Rattle.ax_script.specs.declared.kind.ScriptKind.{ScriptKind}
use Rattle.ax_script.specs.declared.line.Part.{Part}
use Rattle.ax_script.specs.declared.line.ScriptLine.{ScriptLine}
use Rattle.ax_script.specs.Forms.{sheet_line, processor_kind_in, segments_in, actor_in, head_in, order_in, orders_by, orders_in, form_in}
use Rattle.ax_script.specs.Judging.{Reading, nothing_read, Judged, judged, actor_place, is_later, is_no_sheet, is_twice, is_unknown, is_past_limit, is_after_stop, is_wrong_schedule, first_kind}
use Rattle.ax_script.specs.Lines.{ended_lines, last_bytes}
use Rattle.ax_script.specs.Plans.{Plan}
use Rattle.ax_script.specs.Queues.{queue_of, all_of}
use Rattle.ax_script.specs.Reading.{Wrong, with_line, unless_kind, formed, is_skipped, unskipped, clean, line_read, read_on, lines_read, has_orders, is_empty, plan_or_cut, unless_cut, most_bytes, unless_long, script_in}

-- ---- options

bind : {A B : Type 0} (P : B → Type 0) (o : Option A) (f : A → Option B) → ((x : A) → o ≡ Some x → IfSome (f x) P) → IfSome (o >>= f) P
bind P None f h = tt
bind P (Some x) f h = h x refl

found : {A : Type 0} (P : A → Type 0) (b : Bool) (x : A) → P x → IfSome (when b x) P
found P true x h = h
found P false x h = tt

-- ---- lines

first-fails : (j : Judged) (js : List Judged) → option_map (λ j. j.kind) (find (λ j. j.fails) (j ∷ js)) ≡ None → j.fails ≡ false
first-fails j js h = at j.fails refl h
  where
    at : (b : Bool) → j.fails ≡ b → option_map (λ j. j.kind) (if b then Some j else find (λ j. j.fails) js) ≡ None → j.fails ≡ false
    at true e k = absurd (cc)
    at false e k = e

if-some : {A : Type 0} (P : A → Type 0) (o : Option A) (x : A) → IfSome o P → o ≡ Some x → P x
if-some P o x h e = subst (λ q. IfSome q P) e h

-- a test of orders that the steps of each form that is built pass
module _ (built : Form → Bool) (test : Order → Bool) (passes : (form : Form) (ws : List Line) → built form ≡ true → IfSome (steps_in Arguments.AnyOrder form ws) (λ steps. list_all test steps ≡ true)) where
  abbrev Passes : List Order → Type 0
  Passes steps = list_all test steps ≡ true

  -- where the form of an order is built, its steps pass
  abbrev IsSound : ScriptLine → Type 0
  IsSound (ScriptLine.Order a form steps) = built form ≡ true → list_all test steps ≡ true
  IsSound ScriptLine.Axon = Unit {0}
  IsSound (ScriptLine.Sheet sheet) = Unit {0}
  IsSound (ScriptLine.Processor q) = Unit {0}
  IsSound (ScriptLine.Actor a) = Unit {0}
  IsSound ScriptLine.Orders = Unit {0}
  IsSound (ScriptLine.Schedule names) = Unit {0}

  steps-sound : (form : Form) (ws : List Line) (steps : List Order) → steps_in Arguments.AnyOrder form ws ≡ Some steps → built form ≡ true → list_all test steps ≡ true
  steps-sound form ws steps e h = if-some Passes (steps_in Arguments.AnyOrder form ws) steps (passes form ws h) e

  order-sound : (a : Line) (ws : List Line) → IfSome (order_in a ws) IsSound
  unfolding order_in
  order-sound a ws =
      bind IsSound (name_in a) (λ actor. worded ws >>= λ w. steps_in Arguments.AnyOrder w.form w.fields >>= λ steps. Some (ScriptLine.Order actor w.form steps))
      (λ actor h. bind IsSound (worded ws) (λ w. steps_in Arguments.AnyOrder w.form w.fields >>= λ steps. Some (ScriptLine.Order actor w.form steps))
      (λ w k. bind IsSound (steps_in Arguments.AnyOrder w.form w.fields) (λ steps. Some (ScriptLine.Order actor w.form steps)) (λ steps e. steps-sound w.form w.fields steps e)))

  schedule-sound : (o : Option (List Name)) → IfSome (option_map ScriptLine.Schedule o) IsSound
  schedule-sound None = tt
  schedule-sound (Some names) = tt

  orders-sound : (ws : List Line) → IfSome (orders_in ws) IsSound
  orders-sound [] = tt
  orders-sound (w ∷ ws) = at (same_name w (codes "schedule"))
    where
      at : (b : Bool) → IfSome (orders_by b w ws) IsSound
      at true = schedule-sound (each_in name_in ws)
      at false = order-sound w ws

  head-sound : (ws : List Line) → IfSome (head_in ws) IsSound
  head-sound [] = tt
  head-sound (w ∷ []) = found IsSound (same_name w (codes "orders")) ScriptLine.Orders tt
  head-sound (w ∷ a ∷ []) =
      bind IsSound (when (same_name w (codes "actor")) a >>= actor_in) (λ name. Some (ScriptLine.Actor name)) (λ name h. tt)
  head-sound (w ∷ p ∷ n ∷ []) =
      bind IsSound (processor_kind_in w) (λ saga. name_in p >>= λ name. segments_in n >>= λ segments. Some (ScriptLine.Processor (record { name = name; saga = saga; segments = segments })))
      (λ saga h. bind IsSound (name_in p) (λ name. segments_in n >>= λ segments. Some (ScriptLine.Processor (record { name = name; saga = saga; segments = segments })))
      (λ name k. bind IsSound (segments_in n) (λ segments. Some (ScriptLine.Processor (record { name = name; saga = saga; segments = segments }))) (λ segments j. tt)))
  head-sound (w ∷ p ∷ n ∷ x ∷ ws) = tt

  sheet-sound : (text : Line) → IfSome (sheet_line text) IsSound
  sheet-sound [] = tt
  sheet-sound (c ∷ cs) = tt

  form-sound : (part : Part) (line : Line) → IfSome (form_in part line) IsSound
  form-sound Part.Start line = found IsSound (same_name line (codes "axon 1")) ScriptLine.Axon tt
  form-sound Part.Sheet line = bind IsSound (after_front (codes "sheet ") line) sheet_line (λ text h. sheet-sound text)
  form-sound Part.Head line = head-sound (line_words line)
  form-sound Part.Orders line = orders-sound (line_words line)
  form-sound Part.End line = tt

  -- ---- what is read

  abbrev Holds : Reading → Type 0
  Holds r = Passes (all_of r.orders)

  all-front : (xs ys : List Order) → Passes (xs ++ ys) → Passes xs × Passes ys
  all-front [] ys h = (refl, h)
  all-front (x ∷ xs) ys h =
      let p = both (test x) (list_all test (xs ++ ys)) h in
      let q = all-front xs ys p.1 in (and-true (test x) (list_all test xs) p.0 q.0, q.1)

  queue-holds : (queues : List (List Order)) (k : ℕ) → Passes (all_of queues) → Passes (queue_of queues k)
  queue-holds [] k h = refl
  queue-holds (q ∷ queues) zero h = (all-front q (all_of queues) h).0
  queue-holds (q ∷ queues) (suc k) h = queue-holds queues k (all-front q (all_of queues) h).1

  set-holds : (queues : List (List Order)) (k : ℕ) (new : List Order) → Passes (all_of queues) → Passes new → Passes (all_of (slice_set queues k new))
  set-holds [] k new h n = refl
  set-holds (q ∷ queues) zero new h n = all-append test new (all_of queues) n (all-front q (all_of queues) h).1
  set-holds (q ∷ queues) (suc k) new h n =
      let p = all-front q (all_of queues) h in all-append test q (all_of (slice_set queues k new)) p.0 (set-holds queues k new p.1 n)

  empty-holds : (queues : List (List Order)) → Passes (all_of queues) → Passes (all_of (queues ++ [] ∷ []))
  empty-holds [] h = refl
  empty-holds (q ∷ queues) h = let p = all-front q (all_of queues) h in all-append test q (all_of (queues ++ [] ∷ [])) p.0 (empty-holds queues p.1)

  -- a line without a fault is not one of a form that is not built
  not-later : (r : Reading) (l : ScriptLine) → first_kind built r l ≡ None → is_later built l ≡ false
  unfolding first_kind
  not-later r l h =
      first-fails (judged (is_later built l) ScriptKind.Later)
      (judged (is_no_sheet l) ScriptKind.Sheet ∷ judged (is_twice r l) ScriptKind.Twice ∷ judged (is_unknown r l) ScriptKind.Unknown ∷ judged (is_past_limit r l) ScriptKind.Limit
      ∷ judged (is_after_stop r l) ScriptKind.Stopped ∷ judged (is_wrong_schedule r l) ScriptKind.Schedule ∷ []) h

  line-holds : (r : Reading) (l : ScriptLine) → Holds r → IsSound l → is_later built l ≡ false → Holds (with_line r l)
  unfolding with_line
  line-holds r ScriptLine.Axon h s n = h
  line-holds r (ScriptLine.Sheet sheet) h s n = h
  line-holds r (ScriptLine.Processor q) h s n = h
  line-holds r (ScriptLine.Actor a) h s n = empty-holds r.orders h
  line-holds r ScriptLine.Orders h s n = h
  line-holds r (ScriptLine.Order a form steps) h s n =
      let place = actor_place r.actors a in
      set-holds r.orders place (queue_of r.orders place ++ steps) h (all-append test (queue_of r.orders place) steps (queue-holds r.orders place h) (s (not-false (built form) n)))
  line-holds r (ScriptLine.Schedule names) h s n = h

  kind-holds : (r : Reading) (l : ScriptLine) (o : Option ScriptKind) → first_kind built r l ≡ o → Holds r → IsSound l → IfOk (unless_kind o (with_line r l)) Holds
  kind-holds r l (Some k) e h s = tt
  kind-holds r l None e h s = line-holds r l h s (not-later r l e)

  formed-holds : (r : Reading) (o : Option ScriptLine) → Holds r → IfSome o IsSound → IfOk (formed built r o) Holds
  formed-holds r None h s = tt
  formed-holds r (Some l) h s = kind-holds r l (first_kind built r l) refl h s

  read-holds : (r : Reading) (line : Line) → Holds r → IfOk (line_read built r line) Holds
  unfolding line_read
  read-holds r line h = at (list_all is_plain_byte line)
    where
      skipped : (b : Bool) → IfOk (unskipped b built r line) Holds
      skipped true = h
      skipped false = formed-holds r (form_in r.part line) h (form-sound r.part line)

      at : (b : Bool) → IfOk (clean b built r line) Holds
      at true = skipped (is_skipped line)
      at false = tt

  all-hold : (n : ℕ) (r : Reading) (lines : List Line) → Holds r → IfOk (lines_read built n r lines) Holds
  all-hold n r [] h = h
  all-hold n r (l ∷ lines) h = at (line_read built r l) (read-holds r l h) (λ next k. all-hold (n + 1) next lines k)
    where
      at : (o : Result Reading ScriptKind) → IfOk o Holds → ((next : Reading) → Holds next → IfOk (lines_read built (n + 1) next lines) Holds) → IfOk (read_on n o (λ next. lines_read built (n + 1) next lines)) Holds
      at (Ok next) k later = later next k
      at (Err kind) k later = tt

  -- ---- the script

  plan-holds : (n : ℕ) (rest : Line) (o : Result Reading Wrong) → IfOk o Holds → IfOk (unless_cut n rest o) (λ plan. Passes (all_of plan.orders))
  plan-holds n rest (Err w) h = tt
  plan-holds n rest (Ok r) h = at (is_empty rest && has_orders r.part) r.sheet
    where
      at : (b : Bool) (sheet : Option Sheet) → IfOk (plan_or_cut n (if b then option_map (λ s. record { sheet = s; processors = r.processors; actors = r.actors; orders = r.orders; schedule = r.schedule }) sheet else None)) (λ (plan : Plan). Passes (all_of plan.orders))
      at true None = tt
      at true (Some sheet) = h
      at false sheet = tt

  pub script-passes : (text : Line) → IfOk (script_in built text) (λ plan. list_all test (all_of plan.orders) ≡ true)
  unfolding script_in
  script-passes text = at (nat_lt most_bytes (length text))
    where
      at : (b : Bool) → IfOk (unless_long b built text) (λ plan. Passes (all_of plan.orders))
      at true = tt
      at false = plan-holds (length (ended_lines text) + 1) (last_bytes text) (lines_read built 1 nothing_read (ended_lines text)) (all-hold 1 nothing_read (ended_lines text) refl)
