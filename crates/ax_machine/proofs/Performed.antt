-- What a machine keeps: at its start, and after each order.
use Rattle.std.proofs.Common.{◌≡◌, ℕ, zero, suc, ◌+◌, ◌*◌, ◌<◌, ◌≤◌, ◌^◌, ◌==◌, Bool, true, false, List, [], ◌∷◌, ◌++◌, length, map, drop, Option, Some, IfSome, if◌then◌else◌, refl, ap, sym, ◌∙◌, subst, append_assoc, length-append, arith}
use Rattle.std.specs.List.{list_all}
use Rattle.std.proofs.Math.Seq.{drop-append_seam}
use Rattle.std.proofs.lemmas.Bool.Decides.{nat_tests}
use Rattle.std.proofs.lemmas.List.{map-append, length-map}
use Rattle.std.proofs.lemmas.Option.{slice_get_within}
use Rattle.ax_laws.proofs.Tests.{both}
use Rattle.ax_values.specs.Grammar.{Name}
use Rattle.ax_values.specs.Words.{same_name}
use Rattle.ax_sheet.specs.Declarations.{is_segment_count, Processor}
use Rattle.ax_state.specs.Setting.{Setting, name_at}
use Rattle.ax_state.specs.State.{State, row_count}
use Rattle.ax_state.specs.WellFormed.{AreCommands}
use Rattle.ax_script.specs.Judging.{is_known, actor_place}
use Rattle.ax_script.specs.Plans.{Plan, IsPlan}
use Rattle.ax_script.specs.Queues.{queue_of, all_of, times_of}
use Rattle.ax_world.specs.WorldTables.{WorldTables, starting, state_of}
use Rattle.ax_state.proofs.SegmentCounts.{few_of_count}
use Rattle.ax_world.proofs.Starts.{state-starting}
use Rattle.ax_journal.specs.declared.entry.Entry.{Entry}
use Rattle.ax_journal.specs.declared.order.Order.{Order}
use Rattle.ax_machine.specs.Run.{IsKnown, IsPerformed, Attempt, step, attempt, entry_of, entries, state_after_all, attempt_if, next_order, fails_at, attempts, run, last_state, setting_of, first_state, schedule_of, is_fault, faults_of, orders_by, first_left, left_after}
use Rattle.ax_machine.specs.Machines.{MachineView, ArePerformed, IsMachine}
use Rattle.ax_machine.proofs.Known.{all-queued, queued-within}
use Rattle.ax_machine.proofs.Names.{place-of, names-same}
use Rattle.ax_machine.proofs.Stays.{stays}
use Rattle.ax_machine.proofs.Left.{AreLeft, first-there, first-next, queue-there, left-own, left-other, left-actors, left-count}
use Rattle.ax_machine.proofs.Runs.{entries-append, state-append, attempts-append, attempts-same, fails-more, fails-past, few-attempts, all-attempts, Leaves, leaves-all, orders-append, times-by}

-- ---- fences of a start

few-rows : (qs : List Processor) → list_all (λ q. is_segment_count q.segments) qs ≡ true → row_count qs ≤ 16 * length qs
few-rows [] h = omega arith
few-rows (q ∷ qs) h =
    let p = both (is_segment_count q.segments) (list_all (λ q. is_segment_count q.segments) qs) h in
    let few : q.segments ≤ 16 = few_of_count q.segments p.0 in
    let rest : row_count qs ≤ 16 * length qs = few-rows qs p.1 in omega (arith, few, rest)

-- ---- at the start

pub machine-start : (plan : Plan) (journal : List Entry) (tables : WorldTables) (left : List (List Order)) → IsPlan plan → AreCommands plan.sheet → ArePerformed plan.orders
    → journal ≡ [] → tables ≡ starting (setting_of plan) → left ≡ plan.orders → IsMachine (record { plan = plan; journal = journal; tables = tables; left = left })
machine-start plan journal tables left p commands performed j w l =
    rw (j, w, l) (record {
      plan = p;
      commands = commands;
      performed = performed;
      journal = refl;
      state = state-starting (setting_of plan);
      actors = p.orders.each;
      orders = λ k lt. refl;
      count = omega arith;
    })

-- ---- of a machine

module _ (v : MachineView) (h : IsMachine v) where
  abbrev plan : Plan
  plan = v.plan

  abbrev actors : List Name
  actors = plan.actors

  abbrev m : State
  m = state_of v.tables

  abbrev schedule : List ℕ
  schedule = schedule_of actors v.journal

  abbrev faults : List Bool
  faults = faults_of v.journal

  abbrev past : List Attempt
  past = attempts plan.orders faults [] schedule

  leaves : Leaves (first_state plan) m (length past)
  leaves = subst (λ (n : State). Leaves (first_state plan) n (length past)) (sym h.state) (leaves-all (first_state plan) past (all-attempts _ plan.orders faults [] schedule h.performed))

  pub setting-is : m.setting ≡ setting_of plan
  setting-is = leaves.setting

  pub fence-below : v.tables.fence < 2 ^ 63
  fence-below =
      let few : length plan.processors ≤ 16 = h.plan.processors.few in
      let rows : row_count plan.processors ≤ 16 * length plan.processors = few-rows plan.processors h.plan.processors.counts in
      let rise : m.fence ≤ row_count plan.processors + 2 ^ 32 * length past = leaves.fence in
      let turns : length past ≤ length schedule = few-attempts plan.orders faults [] schedule in
      let places : length schedule ≡ length v.journal = length-map v.journal (λ (e : Entry). actor_place actors e.actor) in
      let steps : length (all_of plan.orders) ≤ 100000 = h.plan.orders.steps in
      let count = h.count in
      omega (arith, few, rows, rise, turns, places, steps, count)

  pub are-left : AreLeft plan.orders schedule v.left
  are-left = record {
    each = h.actors ∙ sym h.plan.orders.each;
    rest = λ k queue e.
        let lt : k < length actors = let here : k < length v.left = slice_get_within v.left k queue e in omega (arith, here, h.actors) in
        sym (drop-append_seam (orders_by (name_at actors k) v.journal) queue)
        ∙ (ap (λ n. drop n (orders_by (name_at actors k) v.journal ++ queue)) (sym (times-by actors k h.plan.actors.differ lt v.journal))
        ∙ ap (drop (times_of k schedule)) (ap (λ q. orders_by (name_at actors k) v.journal ++ q) (sym (queue-there v.left k queue e)) ∙ h.orders k lt));
  }

-- ---- the next order

module _ (v : MachineView) (a : ℕ) (o : Order) (h : IsMachine v) (e : first_left v.left a ≡ Some o) where
  next-is : next_order v.plan.orders (schedule_of v.plan.actors v.journal) a ≡ Some o
  next-is = sym (first-next v.plan.orders (schedule_of v.plan.actors v.journal) v.left a (are-left v h)) ∙ e

  pub next-known : IsKnown (setting_of v.plan) o
  unfolding is_known
  next-known = all-queued (is_known (Some v.plan.sheet) v.plan.processors) v.plan.orders a (times_of a (schedule_of v.plan.actors v.journal)) o h.plan.orders.known next-is

  pub next-performed : IsPerformed o
  next-performed = all-queued _ v.plan.orders a (times_of a (schedule_of v.plan.actors v.journal)) o h.performed next-is

  pub next-actor : a < length v.plan.actors
  next-actor = let within = queued-within v.plan.orders a (times_of a (schedule_of v.plan.actors v.journal)) o next-is in omega (arith, within, h.plan.orders.each)

  next-unfailing : is_fault (step (state_of v.tables) a o).reply ≡ false
  next-unfailing = (stays (state_of v.tables) a o next-performed).unfailing

  abbrev entry : Entry
  entry = entry_of (state_of v.tables) (attempt a o)

  entry-actor : entry.actor ≡ name_at v.plan.actors a
  entry-actor = ap (λ (s : Setting). name_at s.actors a) (setting-is v h)

  pub schedule-more : schedule_of v.plan.actors (v.journal ++ entry ∷ []) ≡ schedule_of v.plan.actors v.journal ++ a ∷ []
  schedule-more =
      map-append (λ (x : Entry). actor_place v.plan.actors x.actor) v.journal (entry ∷ [])
      ∙ ap (λ n. schedule_of v.plan.actors v.journal ++ n ∷ []) (ap (actor_place v.plan.actors) entry-actor ∙ place-of v.plan.actors a h.plan.actors.differ next-actor)

  faults-more : faults_of (v.journal ++ entry ∷ []) ≡ faults_of v.journal ++ false ∷ []
  faults-more = map-append (λ (x : Entry). is_fault x.reply) v.journal (entry ∷ []) ∙ ap (λ b. faults_of v.journal ++ b ∷ []) next-unfailing

  pub unfailing-more : (k : ℕ) → fails_at (faults_of (v.journal ++ entry ∷ [])) k ≡ fails_at (faults_of v.journal) k
  unfailing-more k = ap (λ f. fails_at f k) faults-more ∙ fails-more (faults_of v.journal) k

  -- the attempts with this one
  more : attempts v.plan.orders (faults_of (v.journal ++ entry ∷ [])) [] (schedule_of v.plan.actors (v.journal ++ entry ∷ [])) ≡ past v h ++ attempt a o ∷ []
  more =
      let orders : List (List Order) = v.plan.orders in
      let before : List ℕ = schedule_of v.plan.actors v.journal in
      let flags : List Bool = faults_of v.journal in
      let long : length flags ≤ length before = let x = length-map v.journal (λ (x : Entry). is_fault x.reply) in let y = length-map v.journal (λ (x : Entry). actor_place v.plan.actors x.actor) in omega (arith, x, y) in
      attempts-same orders (faults_of (v.journal ++ entry ∷ [])) flags [] (schedule_of v.plan.actors (v.journal ++ entry ∷ [])) unfailing-more
      ∙ (ap (attempts orders flags []) schedule-more
      ∙ (attempts-append orders flags [] before (a ∷ [])
      ∙ (ap (λ b. past v h ++ attempt_if a b (next_order orders before a) []) (fails-past flags (length before) long)
      ∙ ap (λ q. past v h ++ attempt_if a false q []) next-is)))

  journal-more : v.journal ++ entry ∷ [] ≡ run (first_state v.plan) v.plan (schedule_of v.plan.actors (v.journal ++ entry ∷ [])) (faults_of (v.journal ++ entry ∷ []))
  journal-more =
      ap (λ (j : List Entry). j ++ entry ∷ []) h.journal
      ∙ (ap (λ (n : State). entries (first_state v.plan) (past v h) ++ entries n (attempt a o ∷ [])) h.state
      ∙ (sym (entries-append (first_state v.plan) (past v h) (attempt a o ∷ [])) ∙ ap (entries (first_state v.plan)) (sym more)))

  state-more : (step (state_of v.tables) a o).state ≡ last_state (first_state v.plan) v.plan (schedule_of v.plan.actors (v.journal ++ entry ∷ [])) (faults_of (v.journal ++ entry ∷ []))
  state-more =
      ap (λ (n : State). state_after_all n (attempt a o ∷ [])) h.state
      ∙ (sym (state-append (first_state v.plan) (past v h) (attempt a o ∷ [])) ∙ ap (state_after_all (first_state v.plan)) (sym more))

  orders-more : (k : ℕ) → k < length v.plan.actors → orders_by (name_at v.plan.actors k) (v.journal ++ entry ∷ []) ++ queue_of (left_after v.left a) k ≡ queue_of v.plan.orders k
  orders-more k lt =
      ap (λ r. r ++ queue_of (left_after v.left a) k) (orders-append (name_at v.plan.actors k) v.journal (entry ∷ []))
      ∙ (append_assoc (orders_by (name_at v.plan.actors k) v.journal) (orders_by (name_at v.plan.actors k) (entry ∷ [])) (queue_of (left_after v.left a) k)
      ∙ (ap (λ r. orders_by (name_at v.plan.actors k) v.journal ++ r) (own ∙ at (a == k) refl) ∙ h.orders k lt))
    where
      by : Bool → List Order
      by b = map (λ (x : Entry). x.order) (if b then entry ∷ [] else [])

      own : orders_by (name_at v.plan.actors k) (entry ∷ []) ++ queue_of (left_after v.left a) k ≡ by (a == k) ++ queue_of (left_after v.left a) k
      own = ap (λ b. by b ++ queue_of (left_after v.left a) k) (ap (λ n. same_name n (name_at v.plan.actors k)) entry-actor ∙ names-same v.plan.actors a k h.plan.actors.differ next-actor lt)

      at : (b : Bool) → (a == k) ≡ b → by (a == k) ++ queue_of (left_after v.left a) k ≡ queue_of v.left k
      at true f =
          let is : a ≡ k = grind (arith, nat_tests, f) in
          ap (λ b. by b ++ queue_of (left_after v.left a) k) f ∙ subst (λ n. o ∷ queue_of (left_after v.left a) n ≡ queue_of v.left n) is (sym (left-own v.left a o e))
      at false f =
          let ne : k ≡ a → ⊥ = λ (i : k ≡ a). absurd (let t : (a == k) ≡ true = grind (arith, nat_tests, i) in let no : true ≡ false = sym t ∙ f in cc) in
          ap (λ b. by b ++ queue_of (left_after v.left a) k) f ∙ left-other v.left a k ne

  count-more : length (v.journal ++ entry ∷ []) + length (all_of (left_after v.left a)) ≡ length (all_of v.plan.orders)
  count-more =
      let one = length-append v.journal (entry ∷ []) in
      let less = left-count v.left a o e in
      let count = h.count in omega (arith, one, less, count)

  machine-more : (tables : WorldTables) → state_of tables ≡ (step (state_of v.tables) a o).state
      → IsMachine (record { plan = v.plan; journal = v.journal ++ entry ∷ []; tables = tables; left = left_after v.left a })
  machine-more tables s = record {
    plan = h.plan;
    commands = h.commands;
    performed = h.performed;
    journal = journal-more;
    state = s ∙ state-more;
    actors = left-actors v.left a ∙ h.actors;
    orders = orders-more;
    count = count-more;
  }

-- ---- for the next order of an actor who has one left

there : (v : MachineView) (a : ℕ) → 0 < length (queue_of v.left a) → (o : Order) × (first_left v.left a ≡ Some o)
there v a h = first-there (queue_of v.left a) h

some-of : {A : Type 0} (P : A → Type 0) (q : Option A) (x : A) → q ≡ Some x → IfSome q P → P x
some-of P q x e h = subst (λ r. IfSome r P) e h

some-with : {A : Type 0} (P : A → Type 0) (q : Option A) (x : A) → q ≡ Some x → P x → IfSome q P
some-with P q x e h = subst (λ r. IfSome r P) (sym e) h

pub turn-known : (v : MachineView) (a : ℕ) → IsMachine v → 0 < length (queue_of v.left a) → IfSome (first_left v.left a) (IsKnown v.tables.setting)
turn-known v a h lt =
    let o = there v a lt in
    some-with (IsKnown v.tables.setting) (first_left v.left a) o.0 o.1 (subst (λ (s : Setting). IsKnown s o.0) (sym (setting-is v h)) (next-known v a o.0 h o.1))

pub turn-performed : (v : MachineView) (a : ℕ) → IsMachine v → 0 < length (queue_of v.left a) → IfSome (first_left v.left a) IsPerformed
turn-performed v a h lt = let o = there v a lt in some-with IsPerformed (first_left v.left a) o.0 o.1 (next-performed v a o.0 h o.1)

pub turn-actor : (v : MachineView) (a : ℕ) → IsMachine v → 0 < length (queue_of v.left a) → a < length v.tables.setting.actors
turn-actor v a h lt = let o = there v a lt in subst (λ (s : Setting). a < length s.actors) (sym (setting-is v h)) (next-actor v a o.0 h o.1)

-- where there is room for each order that is left, there is room for the next one, and then for the others
pub turn-room : (left : List (List Order)) (a len room : ℕ) → 0 < length (queue_of left a) → len + length (all_of left) ≤ room → len < room
turn-room left a len room lt r =
    let o = first-there (queue_of left a) lt in
    let less = left-count left a o.0 o.1 in omega (arith, less, r)

pub room-after : (left later : List (List Order)) (a len room len_now room_now : ℕ) → 0 < length (queue_of left a) → len + length (all_of left) ≤ room
    → len_now ≡ len + 1 → room_now ≡ room → later ≡ left_after left a → len_now + length (all_of later) ≤ room_now
room-after left later a len room len_now room_now lt r n k l =
    let o = first-there (queue_of left a) lt in
    let less = left-count left a o.0 o.1 in
    let same = ap (λ (q : List (List Order)). length (all_of q)) l in omega (arith, less, r, n, k, same)

-- what it wrote down and what it led to is a machine again
pub turn-machine : (v : MachineView) (a : ℕ) (journal : List Entry) (tables : WorldTables) (left : List (List Order)) → IsMachine v → 0 < length (queue_of v.left a)
    → IfSome (first_left v.left a) (λ o. journal ≡ v.journal ++ entry_of (state_of v.tables) (attempt a o) ∷ [])
    → IfSome (first_left v.left a) (λ o. state_of tables ≡ (step (state_of v.tables) a o).state) → left ≡ left_after v.left a
    → IsMachine (record { plan = v.plan; journal = journal; tables = tables; left = left })
turn-machine v a journal tables left h lt j s l =
    let o = there v a lt in
    let written = some-of (λ (o : Order). journal ≡ v.journal ++ entry_of (state_of v.tables) (attempt a o) ∷ []) (first_left v.left a) o.0 o.1 j in
    let led = some-of (λ (o : Order). state_of tables ≡ (step (state_of v.tables) a o).state) (first_left v.left a) o.0 o.1 s in
    subst (λ (q : List (List Order)). IsMachine (record { plan = v.plan; journal = journal; tables = tables; left = q })) (sym l)
    (subst (λ (r : List Entry). IsMachine (record { plan = v.plan; journal = r; tables = tables; left = left_after v.left a })) (sym written)
    (machine-more v a o.0 h o.1 tables led))

-- ---- how many are left

queue-within : (queues : List (List Order)) (a : ℕ) → length (queue_of queues a) ≤ length (all_of queues)
queue-within [] a = omega arith
queue-within (q ∷ queues) zero = omega (arith, length-append q (all_of queues))
queue-within (q ∷ queues) (suc a) = let ih = queue-within queues a in omega (arith, ih, length-append q (all_of queues))

pub few-left : (v : MachineView) (a : ℕ) → IsMachine v → length (queue_of v.left a) < 2 ^ 32
few-left v a h =
    let count = h.count in
    let steps : length (all_of v.plan.orders) ≤ 100000 = h.plan.orders.steps in
    let within = queue-within v.left a in omega (arith, count, steps, within)
