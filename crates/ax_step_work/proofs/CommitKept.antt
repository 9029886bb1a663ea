-- A commit keeps what holds of every state.
use Rattle.std.proofs.Common.{◌≡◌, ℕ, zero, suc, ◌<◌, ◌≤◌, ◌==◌, Bool, true, false, IsTrue, List, [], ◌∷◌, filter, length, Option, Some, None, Result, Ok, Err, slice_get, slice_set, if◌then◌else◌, refl, sym, ap, ◌∙◌, subst, arith}
use Rattle.std.specs.Prelude.{IfSome, IsOk}
use Rattle.std.specs.List.{AllByRecursion, list_any}
use Rattle.std.proofs.lemmas.Bool.Decides.{nat_tests}
use Rattle.std.proofs.lemmas.List.{map-append}
use Rattle.ax_values.specs.Grammar.{Name}
use Rattle.ax_values.specs.Words.{same_name}
use Rattle.ax_laws.proofs.Options.{some-is, none-some}
use Rattle.ax_log.specs.Log.{Stored, events}
use Rattle.ax_rules.specs.Expr.{Row}
use Rattle.ax_rules.specs.Rules.{Rules, and_then, fold_from, fold_items, start_row, row_or}
use Rattle.ax_segments.specs.Segments.{Segment, matches}
use Rattle.ax_segments.specs.Sequences.{hash_in}
use Rattle.ax_projections.specs.Items.{Placed, plain_items}
use Rattle.ax_claims.specs.Rows.{TokenRow, row_at, put_row}
use Rattle.ax_claims.proofs.RowPlaces.{get-within}
use Rattle.ax_sheet.specs.Declarations.{names_differ}
use Rattle.ax_state.specs.Every.{option_or}
use Rattle.ax_state.specs.Setting.{name_at, projection_at, whole_at}
use Rattle.ax_state.specs.State.{State, Desk, Batch, desk_at, processor_state_at, empty_desk, actor_name}
use Rattle.ax_state.specs.Answer.{answer}
use Rattle.ax_state.specs.Portions.{portions, covered_events, items_in, row_by}
use Rattle.ax_state.specs.WellFormed.{IsWellFormed, IsProcessorState, IsTokenOver, TokenPrefix, IsStanding, IsBatchRow, IsBatchAt, IsBatchIn, OwnsRow, OwnsAs}
use Rattle.ax_state.proofs.Lists.{All-get, AllFrom-get}
use Rattle.ax_state.proofs.RowPuts.{found-row}
use Rattle.ax_state.specs.Positions.{first_in}
use Rattle.ax_state.proofs.Prefixes.{same-row, bare-row}
use Rattle.ax_state.proofs.Actors.{same-actor}
use Rattle.ax_state.proofs.Frames.{seat-at, batch-at, batch-owned, place-there, place-at, place-put, kept-held-row}
use Rattle.ax_state.proofs.Desks.{kept-emptied}
use Rattle.ax_state.specs.Batches.{batch_items, shares_of, member_of, known_events}
use Rattle.ax_step_work.specs.Working.{ItemOutcome, items_of_batch, shares_in, first_unapplied, installed, committed, commit_over, commit_batch, commit, with_batch}
use Rattle.ax_step_work.specs.Sharing.{member_at, item_names, is_item_of, single_shares}
use Rattle.ax_step_work.proofs.Advancing.{advanced-keeps}
use Rattle.ax_step_work.proofs.Folding.{share_of, row_behind, present_row, row-now, fold-append}
use Rattle.ax_step_work.proofs.Known.{none-placed, taken-matches, known-items, value_by, value-same}
use Rattle.ax_step_work.proofs.Singles.{items, names-same, own-same, shares-single}
use Rattle.ax_step_work.proofs.Outcomes.{fold-at, only_items}
use Rattle.ax_step_work.proofs.NotWhole.{not-whole, not-both-kinds}
use Rattle.ax_rules.specs.declared.cause.Cause.{Cause}
use Rattle.ax_basis.specs.declared.item.BasisItem.{BasisItem}
use Rattle.ax_projections.specs.declared.table.Positioned.{Positioned}
use Rattle.ax_journal.specs.declared.reply.Reply.{Reply}
use Rattle.ax_upcast.specs.declared.upcaster.Upcaster.{Upcaster}
use Rattle.ax_step_work.proofs.Added.{IsAdded, items-added}

ok-is : (o : Result Row Cause) (made : Row) → o ≡ Ok made → IsOk o
ok-is o made e = subst IsOk (sym e) refl

pub unmarked : (b : Batch) (ys : List Placed) → AllByRecursion (λ x. x.marked ≡ false) (items b ys)
unmarked b [] = tt
unmarked b (y ∷ ys) = (refl, unmarked b ys)

-- the items of an aggregate, with their places and as they are handled
pub folded-same : (rules : Rules) (b : Batch) (a : Name) (xs : List Placed) (row : Row) → fold_from rules (only_items (filter (is_item_of a) (items b xs))) row ≡ fold_from rules (plain_items (share_of a xs)) row
folded-same rules b a xs row = ap (λ ys. fold_from rules (only_items ys) row) (own-same b a xs) ∙ ap (λ ys. fold_from rules ys row) (plain-same (share_of a xs))
  where
    plain-same : (ys : List Placed) → only_items (items b ys) ≡ plain_items ys
    plain-same [] = refl
    plain-same (y ∷ ys) = ap (λ zs. y.item ∷ zs) (plain-same ys)

-- ---- the state after a commit

-- the row of a batch, found under the batch's fence
module _ (m : State) (actor : ℕ) (b : Batch) (r : TokenRow) (found : row_at b.segment (processor_state_at m b.processor).rows ≡ Some r) (fence : r.fence ≡ b.fence) (mine : (desk_at m actor).batch ≡ Some b)
    (differ : IsTrue (names_differ m.setting.actors)) (h : IsWellFormed m) where
  abbrev rows : List TokenRow
  rows = (processor_state_at m b.processor).rows

  abbrev whole : Option Name
  whole = whole_at m.setting b.processor

  there : slice_get m.processor_states b.processor ≡ Some (processor_state_at m b.processor)
  there = place-there m b.processor b.segment r found

  was : IsProcessorState m.setting m.cells b.processor (processor_state_at m b.processor)
  was = place-at m b.processor there h

  place : (k : ℕ) × (slice_get rows k ≡ Some r) × (r.segment ≡ b.segment)
  place = found-row b.segment rows r found

  in-batch : IsBatchIn m.setting m.cells m.processor_states b
  in-batch = subst (λ o. IfSome o (IsBatchIn m.setting m.cells m.processor_states)) mine (batch-at m actor h)

  pub standing : IsStanding m.setting m.cells b r.token
  standing = All-get (IsBatchRow m.setting m.cells b) rows place.0 r (AllFrom-get (IsBatchAt m.setting m.cells b) 0 m.processor_states b.processor (processor_state_at m b.processor) in-batch.rows there b.processor (omega arith) refl) place.1 place.2 fence

  -- whoever owns a fence of the row is its owner
  owner-of : (w : Name) (q : ℕ) (t : Segment) (f : ℕ) → r.fence ≡ f → OwnsAs w m.processor_states q t f → r.owner ≡ Some w
  owner-of w q t f is own = (All-get (OwnsRow w q t f b.processor) rows place.0 r (AllFrom-get (λ k x. AllByRecursion (OwnsRow w q t f k) x.rows) 0 m.processor_states b.processor (processor_state_at m b.processor) own there b.processor (omega arith)) place.1 is).2

  owner : r.owner ≡ Some (actor_name m actor)
  owner = owner-of (actor_name m actor) b.processor b.segment b.fence fence
      (subst (λ o. IfSome o (λ b. (b.fence ≤ m.fence) × OwnsAs (actor_name m actor) m.processor_states b.processor b.segment b.fence)) mine (seat-at m actor h).batch).1

  -- the row with the batch's token
  abbrev n : TokenRow
  n = record r { token = b.new; since = m.clock }

  pub added : IsAdded whole m.setting.sheet.chain (events m.cells) rows (put_row n rows) b
  added = items-added whole m.setting.sheet.chain (events m.cells) rows place.0 r n b was.parts was.folded.prefixes place.1 place.2 standing.old refl refl (λ mask k i. advanced-keeps m.cells b.old b.new mask k i standing.new)

  -- ---- rows of aggregates

  abbrev rules : Rules
  rules = projection_at m.setting b.processor

  abbrev chain : List Upcaster
  chain = m.setting.sheet.chain

  abbrev xs : List Placed
  xs = items_of_batch m b

  -- the present row is the fold of what is covered
  abbrev present : Name → Result Row Cause
  present a = row_by rules chain (covered_events whole (portions rows) (events m.cells)) None [] a

  -- nothing is parked and nothing dropped
  bare : (cs : List Stored) (a : Name) → row_by rules chain cs (first_in whole (processor_state_at m b.processor).queue a) (processor_state_at m b.processor).drops a ≡ row_by rules chain cs None [] a
  bare cs a = bare-row (processor_state_at m b.processor) was.bare whole rules chain cs a

  pub present-is : (a : Name) → present_row m b.processor a ≡ row_or (start_row rules.fields) (present a)
  present-is a = ap (row_or (start_row rules.fields)) (same-row m.setting m.cells b.processor (processor_state_at m b.processor) was rules a ∙ bare (covered_events whole (portions rows) (events m.cells)) a)

  ok-row : (a : Name) → IsOk (present a)
  ok-row a = subst IsOk (bare (covered_events whole (portions rows) (events m.cells)) a) (was.folded.rows in-batch.declared a)

  is-ok : (o : Result Row Cause) (start : Row) → IsOk o → o ≡ Ok (row_or start o)
  is-ok (Ok x) start k = refl
  is-ok (Err c) start k = absurd (cc)

  -- after a batch of which no item fails, the row is the fold of the batch's items over the present row
  pub row-after : (a : Name) → row_by rules chain (covered_events whole (portions (put_row n rows)) (events m.cells)) None [] a ≡ row_behind rules (present_row m b.processor) xs a
  row-after a = by (matches b.segment (hash_in whole a)) refl
    where
      before : List Placed
      before = items_in chain (covered_events whole (portions rows) (events m.cells)) a

      ok-fold : fold_items rules (plain_items before) ≡ Ok (present_row m b.processor a)
      ok-fold =
          sym (row-now rules chain (covered_events whole (portions rows) (events m.cells)) a)
          ∙ is-ok (present a) (start_row rules.fields) (ok-row a) ∙ ap Ok (sym (present-is a))

      by : (c : Bool) → matches b.segment (hash_in whole a) ≡ c → row_by rules chain (covered_events whole (portions (put_row n rows)) (events m.cells)) None [] a ≡ row_behind rules (present_row m b.processor) xs a
      by true e =
          row-now rules chain (covered_events whole (portions (put_row n rows)) (events m.cells)) a
          ∙ ap (λ ys. fold_items rules (plain_items ys)) (added.mine a e)
          ∙ ap (λ ys. fold_from rules ys (start_row rules.fields)) (map-append (λ (x : Placed). x.item) before (share_of a xs))
          ∙ fold-append rules (plain_items before) (plain_items (share_of a xs)) (start_row rules.fields)
          ∙ ap (λ o. and_then o (λ x. fold_from rules (plain_items (share_of a xs)) x)) ok-fold
      by false e =
          row-now rules chain (covered_events whole (portions (put_row n rows)) (events m.cells)) a
          ∙ ap (λ ys. fold_items rules (plain_items ys)) (added.others a e)
          ∙ ok-fold
          ∙ sym (ap (λ ys. fold_from rules (plain_items ys) (present_row m b.processor a)) (added.none a e))

  -- ---- the shares of the batch

  abbrev taken_items : List BasisItem
  taken_items = items b (batch_items None chain b (events m.cells))

  abbrev value : Name → Positioned
  value a = value_by rules chain (known_events None b (events m.cells)) a

  pub shares-are : shares_in m b ≡ single_shares (λ a. member_at a (value a)) taken_items
  shares-are = ap (λ o. shares_of o rules chain b (events m.cells)) (not-whole m.setting b.processor) ∙ shares-single b (member_of None rules chain b (events m.cells)) (batch_items None chain b (events m.cells))

  -- the items are those of the state's batch
  pub xs-are : xs ≡ batch_items None chain b (events m.cells)
  xs-are = ap (λ o. batch_items o chain b (events m.cells)) (not-whole m.setting b.processor)

  -- an aggregate of the batch is known as it is now
  pub known-value : (a : Name) → matches b.segment (hash_in None a) ≡ true → value a ≡ value_by rules chain (covered_events whole (portions rows) (events m.cells)) a
  known-value a m1 =
      value-same rules chain (known_events None b (events m.cells)) (covered_events None (portions rows) (events m.cells)) a
      (known-items chain (events m.cells) rows place.0 r b was.parts place.1 place.2 standing.old a m1)
      ∙ ap (λ o. value_by rules chain (covered_events o (portions rows) (events m.cells)) a) (sym (not-whole m.setting b.processor))

  known-row : (a : Name) → list_any (same_name a) (item_names taken_items) ≡ true → (value a).row ≡ present_row m b.processor a
  known-row a h =
      ap (λ (v : Positioned). v.row) (known-value a (taken-matches chain (events m.cells) b a (sym (ap (list_any (same_name a)) (names-same b (batch_items None chain b (events m.cells)))) ∙ h)))
      ∙ sym (present-is a)

  -- where none is left, each aggregate's items apply
  pub all-apply : first_unapplied rules true (shares_in m b) ≡ None → (a : Name) → IsOk (row_behind rules (present_row m b.processor) xs a)
  all-apply none a = by (list_any (same_name a) (item_names taken_items)) refl
    where
      by : (c : Bool) → list_any (same_name a) (item_names taken_items) ≡ c → IsOk (row_behind rules (present_row m b.processor) xs a)
      by true h =
          let f = fold-at rules value taken_items (unmarked b (batch_items None chain b (events m.cells))) (ap (first_unapplied rules true) (sym shares-are) ∙ none) a h in
          ok-is (row_behind rules (present_row m b.processor) xs a) f.made
          (ap (λ ys. row_behind rules (present_row m b.processor) ys a) xs-are
          ∙ sym (folded-same rules b a (batch_items None chain b (events m.cells)) (present_row m b.processor a))
          ∙ ap (fold_from rules (only_items (filter (is_item_of a) taken_items))) (sym (known-row a h)) ∙ f.folded)
      by false h =
          ok-is (row_behind rules (present_row m b.processor) xs a) (present_row m b.processor a)
          (ap (λ ys. fold_from rules (plain_items (share_of a ys)) (present_row m b.processor a)) xs-are
          ∙ ap (λ ys. fold_from rules (plain_items ys) (present_row m b.processor a)) (none-placed a (batch_items None chain b (events m.cells))
          (sym (ap (list_any (same_name a)) (names-same b (batch_items None chain b (events m.cells)))) ∙ h)))

  -- ---- the parts that change

  -- the desk without the batch
  abbrev emptied : State
  emptied = with_batch actor None m

  kept : IsWellFormed emptied
  kept = kept-emptied m actor h

  actor-within : actor < length m.desks
  actor-within = by (slice_get m.desks actor) refl
    where
      by : (o : Option Desk) → slice_get m.desks actor ≡ o → actor < length m.desks
      by (Some d) e = get-within m.desks actor d e
      by None e = absurd (none-some b (sym (ap (λ o. (option_or empty_desk o).batch) e) ∙ mine))

  set-at : (ds : List Desk) (p : ℕ) (x d : Desk) → slice_get (slice_set ds p x) p ≡ Some d → x ≡ d
  set-at [] p x d e = absurd (cc)
  set-at (y ∷ ds) zero x d e = cc
  set-at (y ∷ ds) (suc p) x d e = set-at ds p x d e

  -- no other batch stands under the row's fence
  alone : (k : ℕ) (x : Desk) (d : Batch) → slice_get emptied.desks k ≡ Some x → x.batch ≡ Some d → r.fence ≡ d.fence → ⊥
  alone k x d at has is =
      let own = batch-owned emptied k x d at has kept in
      let lt : k < length emptied.desks = get-within emptied.desks k x at in
      let seats : length emptied.desks ≡ length m.setting.actors = kept.actors in
      let mine_too : length m.desks ≡ length m.setting.actors = h.actors in
      let seat : actor < length m.desks = actor-within in
      let names : Some (name_at m.setting.actors k) ≡ Some (actor_name m actor) = sym (owner-of (name_at m.setting.actors k) d.processor d.segment d.fence is own.1) ∙ owner in
      let same : k ≡ actor = same-actor m.setting.actors k actor differ (omega arith) (omega arith) (some-is (name_at m.setting.actors k) (actor_name m actor) names) in
      let desk : record (desk_at m actor) { batch = None } ≡ x = set-at m.desks actor (record (desk_at m actor) { batch = None }) x (ap (slice_get emptied.desks) (sym same) ∙ at) in
      none-some d (ap (λ (y : Desk). y.batch) desk ∙ has)

  pub kept-installed : ((a : Name) → IsOk (row_behind rules (present_row m b.processor) xs a)) → IsWellFormed (installed m actor b r)
  kept-installed apply =
      kept-held-row emptied b.processor b.segment r n found refl (omega arith) kept refl refl
      (place-put m.setting m.cells b.processor (processor_state_at m b.processor) place.0 r n was place.1 refl (λ e. absurd (none-some (actor_name m actor) (sym e ∙ owner))) (record {
        token = subst (λ (t : Segment). IsTokenOver m.cells t.mask b.new) (sym place.2) standing.token;
        prefixes = subst (λ (t : Segment). TokenPrefix whole (events m.cells) t b.new) (sym place.2) standing.prefixes;
        rows = λ e a. subst IsOk (sym (bare (covered_events whole (portions (put_row n rows)) (events m.cells)) a)) (subst IsOk (sym (row-after a)) (apply a));
        gaps = standing.gaps;
        replays = λ saga. absurd (not-both-kinds m.setting b.processor in-batch.declared saga);
      }))
      (λ k x d at has row seg is. absurd (alone k x d at has is))

-- ---- the step

module _ (m : State) (actor : ℕ) (b : Batch) (mine : (desk_at m actor).batch ≡ Some b) (differ : IsTrue (names_differ m.setting.actors)) (h : IsWellFormed m) where
  kept-committed : (r : TokenRow) → row_at b.segment (processor_state_at m b.processor).rows ≡ Some r → r.fence ≡ b.fence → (o : Option ItemOutcome) → first_unapplied (projection_at m.setting b.processor) true (shares_in m b) ≡ o
      → IsWellFormed (committed m actor b r o).state
  kept-committed r found fence (Some t) e = h
  kept-committed r found fence None e = kept-installed m actor b r found fence mine differ h (all-apply m actor b r found fence mine differ h e)

  kept-over : (o : Option TokenRow) → row_at b.segment (processor_state_at m b.processor).rows ≡ o → IsWellFormed (commit_over m actor b o).state
  kept-over None e = kept-emptied m actor h
  kept-over (Some r) e = by (r.fence == b.fence) refl
    where
      left : Option ItemOutcome
      left = first_unapplied (projection_at m.setting b.processor) true (shares_in m b)

      by : (c : Bool) → (r.fence == b.fence) ≡ c → IsWellFormed (if c then committed m actor b r left else answer (with_batch actor None m) (Reply.Stale b.fence (Some r.fence))).state
      by false k = kept-emptied m actor h
      by true k = kept-committed r e (grind (arith, nat_tests, k)) left refl

pub kept-commit : (m : State) (actor : ℕ) → IsTrue (names_differ m.setting.actors) → IsWellFormed m → IsWellFormed (commit m actor).state
kept-commit m actor differ h = by (desk_at m actor).batch refl
  where
    by : (o : Option Batch) → (desk_at m actor).batch ≡ o → IsWellFormed (commit_batch m actor o).state
    by None e = h
    by (Some b) e = kept-over m actor b e differ h (row_at b.segment (processor_state_at m b.processor).rows) refl
