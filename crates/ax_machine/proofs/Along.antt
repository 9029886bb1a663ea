-- A machine along the schedule of its own plan.
use Rattle.std.proofs.Common.{◌≡◌, ℕ, ◌+◌, ◌<◌, ◌≤◌, false, List, [], ◌∷◌, ◌++◌, length, map, take, get_or, Option, IfSome, refl, ap, sym, ◌∙◌, subst, length-append, arith}
use Rattle.std.proofs.Math.Seq.{take-length}
use Rattle.std.proofs.lemmas.List.{map-append, take_more}
use Rattle.std.proofs.lemmas.Option.{slice_get-get_or}
use Rattle.ax_laws.proofs.Lists.{none-left, append-none}
use Rattle.ax_state.specs.Setting.{Setting, name_at}
use Rattle.ax_script.specs.Plans.{Plan}
use Rattle.ax_script.specs.Queues.{queue_of, times_of}
use Rattle.ax_world.specs.WorldTables.{state_of}
use Rattle.ax_journal.specs.declared.entry.Entry.{Entry}
use Rattle.ax_journal.specs.declared.order.Order.{Order}
use Rattle.ax_machine.specs.Run.{attempt, entry_of, entries, state_after_all, attempts, fails_at, no_faults, run_of, end_of, first_state, schedule_of, faults_of, orders_by, first_left}
use Rattle.ax_machine.specs.Machines.{MachineView, IsMachine}
use Rattle.ax_machine.proofs.Schedules.{fits-at, stands-within, order-left}
use Rattle.ax_machine.proofs.Left.{first-there}
use Rattle.ax_machine.proofs.Runs.{attempts-same, times-by}
use Rattle.ax_machine.proofs.Performed.{setting-is, schedule-more, unfailing-more}

-- the journal has an entry for each of the first places of the schedule, and the keeper failed at none
pub record IsAlong (place : ℕ) (v : MachineView) : Type 0 where
  pub turns : schedule_of v.plan.actors v.journal ≡ take place v.plan.schedule
  pub names : map (λ e. e.actor) v.journal ≡ map (name_at v.plan.actors) (take place v.plan.schedule)
  pub unfailing : (k : ℕ) → fails_at (faults_of v.journal) k ≡ false

pub along-start : (v : MachineView) → v.journal ≡ [] → IsAlong 0 v
along-start v j = rw j (record { turns = refl; names = refl; unfailing = λ k. refl })

-- at a place of the schedule its actor has an order left
pub along-left : (v : MachineView) (i d : ℕ) → IsMachine v → IsAlong i v → i < length v.plan.schedule → 0 < length (queue_of v.left (get_or v.plan.schedule i d))
along-left v i d h at lt =
    let a : ℕ = get_or v.plan.schedule i d in
    let queued : a < length v.plan.orders = stands-within v.plan.orders v.plan.schedule i a h.plan.schedule (slice_get-get_or v.plan.schedule i d lt) in
    let each = h.plan.orders.each in
    let declared : a < length v.plan.actors = omega (arith, queued, each) in
    let more = order-left v.plan.orders v.plan.schedule i d h.plan.schedule lt in
    let stood = ap (times_of a) (sym at.turns) ∙ times-by v.plan.actors a h.plan.actors.differ declared v.journal in
    let parts = ap length (sym (h.orders a declared)) ∙ length-append (orders_by (name_at v.plan.actors a) v.journal) (queue_of v.left a) in
    omega (arith, more, stood, parts)

-- one turn more
pub along-next : (v w : MachineView) (items : List ℕ) (i d : ℕ) → IsMachine v → IsAlong i v → items ≡ v.plan.schedule → i < length items → w.plan ≡ v.plan
    → IfSome (first_left v.left (get_or items i d)) (λ o. w.journal ≡ v.journal ++ entry_of (state_of v.tables) (attempt (get_or items i d) o) ∷ []) → IsAlong (i + 1) w
along-next v w items i d h at is lt p j =
    let short : i < length v.plan.schedule = omega (arith, lt, ap length is) in
    let a : ℕ = get_or v.plan.schedule i d in
    let o = first-there (queue_of v.left a) (along-left v i d h at short) in
    let written : IfSome (first_left v.left a) (λ o. w.journal ≡ v.journal ++ entry_of (state_of v.tables) (attempt a o) ∷ []) =
    subst (λ (s : List ℕ). IfSome (first_left v.left (get_or s i d)) (λ o. w.journal ≡ v.journal ++ entry_of (state_of v.tables) (attempt (get_or s i d) o) ∷ [])) is j in
    let entry : Entry = entry_of (state_of v.tables) (attempt a o.0) in
    let journal : w.journal ≡ v.journal ++ entry ∷ [] = subst (λ (q : Option Order). IfSome q (λ o. w.journal ≡ v.journal ++ entry_of (state_of v.tables) (attempt a o) ∷ [])) o.1 written in
    let longer : take i v.plan.schedule ++ a ∷ [] ≡ take (i + 1) v.plan.schedule = sym (take_more v.plan.schedule i d short) in
    let actor : entry.actor ≡ name_at v.plan.actors a = ap (λ (s : Setting). name_at s.actors a) (setting-is v h) in
    record {
      turns =
          ap (λ (q : Plan). schedule_of q.actors w.journal) p ∙ (ap (schedule_of v.plan.actors) journal
          ∙ (schedule-more v a o.0 h o.1 ∙ (ap (λ s. s ++ a ∷ []) at.turns ∙ (longer ∙ ap (λ (q : Plan). take (i + 1) q.schedule) (sym p)))));
      names =
          ap (map (λ (e : Entry). e.actor)) journal ∙ (map-append (λ (e : Entry). e.actor) v.journal (entry ∷ [])
          ∙ (ap (λ n. map (λ (e : Entry). e.actor) v.journal ++ n ∷ []) actor ∙ (ap (λ ns. ns ++ name_at v.plan.actors a ∷ []) at.names
          ∙ (sym (map-append (name_at v.plan.actors) (take i v.plan.schedule) (a ∷ [])) ∙ (ap (map (name_at v.plan.actors)) longer
          ∙ ap (λ (q : Plan). map (name_at q.actors) (take (i + 1) q.schedule)) (sym p))))));
      unfailing = λ k. ap (λ (r : List Entry). fails_at (faults_of r) k) journal ∙ (unfailing-more v a o.0 h o.1 k ∙ at.unfailing k);
    }

-- the same of the schedule's items
pub along-has : (v : MachineView) (items : List ℕ) (i d : ℕ) → IsMachine v → IsAlong i v → items ≡ v.plan.schedule → i < length items → 0 < length (queue_of v.left (get_or items i d))
along-has v items i d h at is lt =
    let short : i < length v.plan.schedule = omega (arith, lt, ap length is) in
    subst (λ (s : List ℕ). 0 < length (queue_of v.left (get_or s i d))) (sym is) (along-left v i d h at short)

-- ---- at the end of the schedule

module _ (v : MachineView) (h : IsMachine v) (at : IsAlong (length v.plan.schedule) v) where
  turns : schedule_of v.plan.actors v.journal ≡ v.plan.schedule
  turns = at.turns ∙ take-length v.plan.schedule

  same : attempts v.plan.orders (faults_of v.journal) [] (schedule_of v.plan.actors v.journal) ≡ attempts v.plan.orders no_faults [] v.plan.schedule
  same = ap (attempts v.plan.orders (faults_of v.journal) []) turns ∙ attempts-same v.plan.orders (faults_of v.journal) no_faults [] v.plan.schedule at.unfailing

  pub end-journal : v.journal ≡ run_of v.plan
  end-journal = h.journal ∙ ap (entries (first_state v.plan)) same

  pub end-state : state_of v.tables ≡ end_of v.plan
  end-state = h.state ∙ ap (state_after_all (first_state v.plan)) same

  pub end-names : map (λ e. e.actor) v.journal ≡ map (name_at v.plan.actors) v.plan.schedule
  end-names = at.names ∙ ap (map (name_at v.plan.actors)) (take-length v.plan.schedule)

  pub end-orders : (k : ℕ) → k < length v.plan.actors → orders_by (name_at v.plan.actors k) v.journal ≡ queue_of v.plan.orders k
  end-orders k lt =
      let queued : k < length v.plan.orders = let each = h.plan.orders.each in omega (arith, lt, each) in
      let zeroth : k ≡ 0 + k = omega arith in
      let whole = ap (λ n. times_of n v.plan.schedule) zeroth ∙ fits-at v.plan.orders 0 k v.plan.schedule h.plan.schedule.fits queued in
      let stood = ap (times_of k) (sym turns) ∙ times-by v.plan.actors k h.plan.actors.differ lt v.journal in
      let parts = ap length (sym (h.orders k lt)) ∙ length-append (orders_by (name_at v.plan.actors k) v.journal) (queue_of v.left k) in
      let none : queue_of v.left k ≡ [] = none-left (queue_of v.left k) (omega (arith, whole, stood, parts)) in
      sym (append-none (orders_by (name_at v.plan.actors k) v.journal)) ∙ (ap (λ q. orders_by (name_at v.plan.actors k) v.journal ++ q) (sym none) ∙ h.orders k lt)

-- what the machine of a plan is whose schedule is performed
pub record IsWhole (plan : Plan) (v : MachineView) : Type 0 where
  pub journal : v.journal ≡ run_of plan
  pub state : state_of v.tables ≡ end_of plan
  pub places : map (λ e. e.actor) v.journal ≡ map (name_at plan.actors) plan.schedule
  pub orders : (actor : ℕ) → actor < length plan.actors → orders_by (name_at plan.actors actor) v.journal ≡ queue_of plan.orders actor

pub along-whole : (v : MachineView) (plan : Plan) (items : List ℕ) (i : ℕ) → IsMachine v → v.plan ≡ plan → items ≡ v.plan.schedule → i ≤ length items → length items ≤ i → IsAlong i v → IsWhole plan v
along-whole v plan items i h p is low high at =
    let whole : i ≡ length v.plan.schedule = omega (arith, low, high, ap length is) in
    let last : IsAlong (length v.plan.schedule) v = subst (λ n. IsAlong n v) whole at in
    subst (λ (q : Plan). IsWhole q v) p (record { journal = end-journal v h last; state = end-state v h last; places = end-names v h last; orders = end-orders v h last })
