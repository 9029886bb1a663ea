-- The moves of a commit: what it refuses changes no row, and what it installs leads to the state of the definition.
use Rattle.std.proofs.Common.{◌≡◌, ℕ, ◌+◌, ◌<◌, ◌≤◌, ◌==◌, Bool, true, false, List, [], ◌∷◌, length, map, Option, Some, None, Result, Ok, slice_set, if◌then◌else◌, nat_lt, refl, sym, ap, ◌∙◌, subst, arith}
use Rattle.std.specs.Prelude.{IsTrue, IfSome, filter}
use Rattle.ax_laws.proofs.Lists.{length-filter}
use Rattle.ax_sheet.specs.Declarations.{names_differ}
use Rattle.std.specs.List.{AllByRecursion, IsDistinct}
use Rattle.std.proofs.lemmas.Bool.Decides.{nat_tests}
use Rattle.std.proofs.lemmas.List.{length-map, length-append, length-set}
use Rattle.ax_values.specs.Grammar.{Name}
use Rattle.ax_values.specs.Words.{same_name}
use Rattle.ax_log.specs.Log.{Stored, events}
use Rattle.ax_rules.specs.Expr.{Row}
use Rattle.ax_rules.specs.Rules.{Rules, start_row, row_or}
use Rattle.ax_segments.specs.Segments.{matches}
use Rattle.ax_segments.specs.Sequences.{hash_in}
use Rattle.ax_upcast.specs.Upcast.{KeepsLimit}
use Rattle.ax_projections.specs.Table.{Entry, look_up}
use Rattle.ax_projections.specs.Items.{Placed}
use Rattle.ax_projections.specs.Rebuild.{or_start}
use Rattle.ax_claims.specs.Rows.{TokenRow, row_at, put_row}
use Rattle.ax_state.specs.Every.{AllFrom, count}
use Rattle.ax_state.specs.Setting.{is_projection, projection_at, whole_at}
use Rattle.ax_state.specs.State.{State, ProcessorState, Desk, Batch, processor_state_at, desk_at, with_desk}
use Rattle.ax_state.specs.Answer.{Answer, answer}
use Rattle.ax_state.specs.Portions.{portions, covered_events, items_in, row_by}
use Rattle.ax_state.specs.WellFormed.{IsBatchIn, IsBare}
use Rattle.ax_state.proofs.Lists.{AllFrom-set}
use Rattle.ax_state.proofs.Frames.{batch-at}
use Rattle.ax_state.proofs.Desks.{kept-emptied}
use Rattle.ax_world.specs.WorldTables.{WorldTables, DeskTables, desk_of, ProcessorTables, no_tables, state_of, processor_tables_at}
use Rattle.ax_world.specs.EditsApplied.{edits_applied, with_state}
use Rattle.ax_world.specs.Fits.{IsWorld, IsTable, CanMakeAll, is_cells, folded_row}
use Rattle.ax_world.specs.Moves.{IsMove}
use Rattle.ax_world.proofs.OneProcessorChanges.{map_set}
use Rattle.ax_world.proofs.StepMoves.{unmoved, moved, bases-emptied}
use Rattle.ax_world.proofs.ProcessorStates.{processor_state-place}
use Rattle.ax_step_work.specs.Working.{ItemOutcome, first_unapplied, unapplied_text, shares_in, items_of_batch, installed, committed, commit_over, with_batch}
use Rattle.ax_step_work.specs.Sharing.{member_read, is_item_of, item_names, single_of, single_shares}
use Rattle.ax_step_work.specs.Installing.{IsCleared, IsSingle, share_items, entries_after, row_edits, install_edits}
use Rattle.ax_basis.specs.Basis.{Basis}
use Rattle.ax_basis.specs.declared.item.BasisItem.{BasisItem}
use Rattle.ax_state.specs.Batches.{IsBasisOf, batch_of, batch_items, rising_names}
use Rattle.ax_step_work.proofs.CommitKept.{kept-installed, all-apply, added, row-after, present-is, standing}
use Rattle.ax_step_work.proofs.NotWhole.{not-whole}
use Rattle.ax_step_work.proofs.Folding.{share_of, present_row}
use Rattle.ax_step_work.proofs.KeptRows.{folded-bare, within, same-state, bare, n, row_now, kept-is, started, rows-bound, shares-read}
use Rattle.ax_step_work.proofs.Outcomes.{total-items}
use Rattle.ax_step_work.proofs.Singles.{items}
use Rattle.ax_step_work.proofs.Standing.{Stands, stands}
use Rattle.ax_step_work.proofs.Tables.{first_of, present, covered-few, batch-few, put_entries, look-puts}
use Rattle.ax_rules.specs.declared.cause.Cause.{Cause}
use Rattle.ax_journal.specs.declared.reply.Reply.{Reply}
use Rattle.ax_projections.specs.declared.table.Positioned.{Positioned}
use Rattle.ax_upcast.specs.declared.upcaster.Upcaster.{Upcaster}
use Rattle.ax_world.specs.declared.edit.Edit.{Edit}
use Rattle.ax_step_work.proofs.Added.{IsAdded}
use Rattle.ax_step_work.proofs.RowEdits.{with_table, set-here, set-twice, made-append, can-append, count-rows, made-rows, can-rows}

module _ (w : WorldTables) (actor : ℕ) (basis : Basis) (h : IsWorld w) (mine : (desk_at (state_of w) actor).batch ≡ Some (batch_of basis)) where
  abbrev m : State
  m = state_of w

  abbrev b : Batch
  b = batch_of basis

  in-batch : IsBatchIn w.setting w.cells m.processor_states b
  in-batch = subst (λ o. IfSome o (IsBatchIn w.setting w.cells m.processor_states)) mine (batch-at m actor h.state)

  pub batch-declared : is_projection w.setting basis.processor ≡ true
  batch-declared = in-batch.declared

  pub batch-within : basis.processor < length w.processor_tables
  batch-within = within w basis.processor h batch-declared

  abbrev emptied : Desk
  emptied = record (desk_at m actor) { batch = None }

  -- no basis stands on the desk that is put
  bases-cleared : (desk : DeskTables) → IsCleared w actor desk → AllByRecursion (λ o. IfSome o (IsBasisOf w.setting w.cells)) (slice_set w.bases actor desk.batch)
  bases-cleared desk cleared = subst (λ o. AllByRecursion (λ o. IfSome o (IsBasisOf w.setting w.cells)) (slice_set w.bases actor o)) (sym cleared.batch) (bases-emptied w actor h)

  pub emptied-move : (a : Answer) (reply : Reply) (desk : DeskTables) → actor < length w.desks → IsCleared w actor desk → a ≡ answer (with_batch actor None m) reply → IsMove w a (record { edits = Edit.SetDesk actor desk ∷ []; reply = reply; report = [] })
  emptied-move a reply desk lt cleared is =
      subst (λ a. IsMove w a (record { edits = Edit.SetDesk actor desk ∷ []; reply = reply; report = [] })) (sym is)
      (moved w (Edit.SetDesk actor desk ∷ []) (answer (with_batch actor None m) reply) reply h (omega arith) (lt, tt) (ap (λ d. with_desk actor d m) cleared.desk) (kept-emptied m actor h.state) refl h.tables (bases-cleared desk cleared) refl refl)

  abbrev x : ProcessorTables
  x = processor_tables_at w basis.processor

  abbrev rules : Rules
  rules = projection_at w.setting basis.processor

  abbrev chain : List Upcaster
  chain = w.setting.sheet.chain

  abbrev es : List Stored
  es = events w.cells

  abbrev whole : Option Name
  whole = whole_at w.setting basis.processor

  abbrev value_now : Name → Positioned
  value_now a = or_start rules (look_up a x.table)

  abbrev covered : Name → ℕ
  covered a = n w basis.processor h batch-declared a

  abbrev row_then : Name → Result Row Cause
  row_then a = row_now w basis.processor h batch-declared a

  -- ---- a batch whose row is under its fence

  module _ (tied : IsBasisOf w.setting w.cells basis) (r : TokenRow) (found : row_at b.segment x.processor_state.rows ≡ Some r) (fence : r.fence ≡ b.fence) where
    same : processor_state_at m basis.processor ≡ x.processor_state
    same = same-state w basis.processor h batch-declared

    found-there : row_at b.segment (processor_state_at m basis.processor).rows ≡ Some r
    found-there = ap (λ (s : ProcessorState). row_at b.segment s.rows) same ∙ found

    differ : IsTrue (names_differ m.setting.actors)
    differ = h.setting.actors.differ

    present-here : (a : Name) → present_row m basis.processor a ≡ row_or (start_row rules.fields) (row_then a)
    present-here a =
        present-is m actor b r found-there fence mine differ h.state a
        ∙ ap (λ (s : ProcessorState). row_or (start_row rules.fields) (row_by rules chain (covered_events whole (portions s.rows) es) None [] a)) same

    kept-row : (a : Name) → (value_now a).row ≡ present_row m basis.processor a
    kept-row a = ap (λ (v : Positioned). v.row) (started w basis.processor h batch-declared a) ∙ sym (present-here a)

    abbrev xs : List Placed
    xs = items_of_batch m b

    abbrev ys : List BasisItem
    ys = items b xs

    xs-plain : xs ≡ batch_items None chain b es
    xs-plain = ap (λ o. batch_items o chain b es) (not-whole w.setting basis.processor)

    old-is : b.old ≡ r.token
    old-is = (standing m actor b r found-there fence mine differ h.state).old

    -- the shares are those of the kept rows
    pub basis-shares : basis.shares ≡ single_shares (member_read rules x.table) ys
    basis-shares =
        tied.shares ∙ sym (shares-read w basis.processor h batch-declared b r found old-is)
        ∙ ap (λ zs. single_shares (member_read rules x.table) (items b zs)) (sym xs-plain)

    left-is : first_unapplied rules basis.keep basis.shares ≡ first_unapplied rules true (shares_in m b)
    left-is = ap (λ k. first_unapplied rules k basis.shares) tied.keep ∙ ap (first_unapplied rules true) tied.shares

    over-is : commit_over m actor b (row_at b.segment (processor_state_at m basis.processor).rows) ≡ committed m actor b r (first_unapplied rules true (shares_in m b))
    over-is =
        ap (commit_over m actor b) found-there
        ∙ ap (λ c. if c then committed m actor b r (first_unapplied rules true (shares_in m b)) else answer (with_batch actor None m) (Reply.Stale b.fence (Some r.fence))) (let t : (r.fence == b.fence) ≡ true = grind (arith, nat_tests, fence) in t)

    pub failed-move : (t : ItemOutcome) → first_unapplied rules basis.keep basis.shares ≡ Some t
        → IsMove w (commit_over m actor b (row_at b.segment (processor_state_at m basis.processor).rows)) (record { edits = []; reply = Reply.NotApplied t.item.item.name (unapplied_text t.outcome); report = [] })
    failed-move t e =
        subst (λ a. IsMove w a (record { edits = []; reply = Reply.NotApplied t.item.item.name (unapplied_text t.outcome); report = [] })) (sym (over-is ∙ ap (committed m actor b r) (sym left-is ∙ e)))
        (unmoved w (Reply.NotApplied t.item.item.name (unapplied_text t.outcome)) h)

    -- ---- how large the shares are

    count-is : length (share_items basis.shares) ≡ length xs
    count-is =
        ap (λ ss. length (share_items ss)) basis-shares ∙ total-items (member_read rules x.table) ys ∙ length-map xs _

    pub count-few : KeepsLimit chain → length w.cells ≤ 200000 → length (share_items basis.shares) ≤ 1600000
    count-few few size = let k : length xs ≤ 1600000 = batch-few whole chain b w.cells few size in let c : length (share_items basis.shares) ≡ length xs = count-is in omega arith

    single-by : (ns : List Name) → ((a : Name) → (value_now a).position ≤ 1600000) → length ys ≤ 1600000 → AllByRecursion IsSingle (map (single_of (member_read rules x.table) ys) ns)
    single-by [] f few = tt
    single-by (a ∷ ns) f few = (
      (member_read rules x.table a, refl, (let k : (value_now a).position ≤ 1600000 = f a in let l : length (filter (is_item_of a) ys) ≤ length ys = length-filter (is_item_of a) ys in omega (arith, k, l, few))),
      single-by ns f few,
    )

    pub all-single : KeepsLimit chain → length w.cells ≤ 200000 → AllByRecursion IsSingle basis.shares
    all-single few size =
        subst (AllByRecursion IsSingle) (sym basis-shares)
        (single-by (rising_names (item_names ys))
        (λ a. (let e : (value_now a).position ≡ covered a = ap (λ (v : Positioned). v.position) (started w basis.processor h batch-declared a) in
        let k : covered a ≤ 1600000 = covered-few whole chain (portions x.processor_state.rows) a w.cells few size in omega (arith, e, k)))
        (let k : length xs ≤ 1600000 = batch-few whole chain b w.cells few size in let l : length ys ≡ length xs = length-map xs _ in omega (arith, k, l)))

    module _ (none : first_unapplied rules basis.keep basis.shares ≡ None) (desk : DeskTables) (cleared : IsCleared w actor desk) where
      abbrev new : TokenRow
      new = record r { token = b.new; since = w.clock }

      abbrev rows : List TokenRow
      rows = put_row new x.processor_state.rows

      abbrev puts : List Entry
      puts = entries_after rules basis.keep basis.shares

      abbrev later : ProcessorTables
      later = record x { processor_state = record x.processor_state { rows = rows }; table = put_entries puts x.table }

      abbrev changes : List Edit
      changes = install_edits basis.processor puts rows actor desk

      none-left : first_unapplied rules true (shares_in m b) ≡ None
      none-left = sym left-is ∙ none

      puts-are : puts ≡ entries_after rules true (single_shares (member_read rules x.table) ys)
      puts-are = ap (λ k. entries_after rules k basis.shares) tied.keep ∙ ap (entries_after rules true) basis-shares

      standing-rows : Stands rules x.table (present_row m basis.processor) xs puts
      standing-rows =
          subst (Stands rules x.table (present_row m basis.processor) xs) (sym puts-are)
          (stands rules x.table (present_row m basis.processor) b xs kept-row (ap (first_unapplied rules true) (sym basis-shares ∙ tied.shares) ∙ none-left))

      more : IsAdded whole chain es x.processor_state.rows rows b
      more = subst (λ (s : ProcessorState). IsAdded whole chain es s.rows (put_row new s.rows) b) same (added m actor b r found-there fence mine differ h.state)

      -- how many items are covered then
      now-covered : (a : Name) → length (items_in chain (covered_events whole (portions rows) es) a) ≡ covered a + length (share_of a xs)
      now-covered a = by (matches b.segment (hash_in whole a)) refl
        where
          by : (c : Bool) → matches b.segment (hash_in whole a) ≡ c → length (items_in chain (covered_events whole (portions rows) es) a) ≡ length (items_in chain (covered_events whole (portions x.processor_state.rows) es) a) + length (share_of a xs)
          by true e = ap length (more.mine a e) ∙ length-append (items_in chain (covered_events whole (portions x.processor_state.rows) es) a) (share_of a xs)
          by false e = let k : length (share_of a xs) ≡ 0 = ap length (more.none a e) in let l : length (items_in chain (covered_events whole (portions rows) es) a) ≡ length (items_in chain (covered_events whole (portions x.processor_state.rows) es) a) = ap length (more.others a e) in omega (arith, k, l)

      row-is : (a : Name) → row_by rules chain (covered_events whole (portions rows) es) None [] a ≡ Ok (present rules x.table puts a).row
      row-is a =
          ap (λ (s : ProcessorState). row_by rules chain (covered_events whole (portions (put_row new s.rows)) es) None [] a) (sym same)
          ∙ row-after m actor b r found-there fence mine differ h.state a ∙ standing-rows.behind a

      abbrev folded_then : Name → ℕ → Row → Option Positioned
      folded_then a k row = if nat_lt 0 k then Some (record { position = k; row = row }) else None

      bare-then : IsBare x.processor_state
      bare-then = bare w basis.processor h batch-declared

      is-folded : (a : Name) → folded_row w.setting basis.processor (covered_events whole (portions rows) es) later.processor_state a ≡ folded_then a (covered a + length (share_of a xs)) (present rules x.table puts a).row
      is-folded a =
          folded-bare w.setting basis.processor (covered_events whole (portions rows) es) later.processor_state (record { letters = bare-then.letters; drops = bare-then.drops }) a
          ∙ ap (λ o. folded_then a (length (items_in chain (covered_events whole (portions rows) es) a)) (row_or (start_row rules.fields) o)) (row-is a)
          ∙ ap (λ k. folded_then a k (present rules x.table puts a).row) (now-covered a)

      table-then : IsTable w.setting es basis.processor later
      table-then projection a = look-puts a puts x.table standing-rows.names ∙ by (look_up a puts) refl ∙ sym (is-folded a)
        where
          by : (o : Option Positioned) → look_up a puts ≡ o → first_of o (look_up a x.table) ≡ folded_then a (covered a + length (share_of a xs)) (present rules x.table puts a).row
          by (Some v) e =
              let is : present rules x.table puts a ≡ v = ap (λ o. or_start rules (first_of o (look_up a x.table))) e in
              let count : v.position ≡ covered a + length (share_of a xs) = ap (λ (p : Positioned). p.position) (sym is) ∙ standing-rows.position a ∙ ap (λ (p : Positioned). p.position + length (share_of a xs)) (started w basis.processor h batch-declared a) in
              let pos : 0 < v.position = standing-rows.touched a v e in
              let some : nat_lt 0 v.position ≡ true = grind (arith, nat_tests, pos) in
              sym (ap (λ (p : Positioned). folded_then a (covered a + length (share_of a xs)) p.row) is ∙ ap (λ k. folded_then a k v.row) (sym count) ∙ ap (λ c. if c then Some (record { position = v.position; row = v.row }) else None) some)
          by None e =
              let is : present rules x.table puts a ≡ value_now a = ap (λ o. or_start rules (first_of o (look_up a x.table))) e in
              let none : covered a + length (share_of a xs) ≡ covered a = (let z : length (share_of a xs) ≡ 0 = ap length (standing-rows.untouched a e) in omega (arith, z)) in
              sym (ap (λ (p : Positioned). folded_then a (covered a + length (share_of a xs)) p.row) (is ∙ started w basis.processor h batch-declared a) ∙ ap (λ k. folded_then a k (row_or (start_row rules.fields) (row_then a))) none ∙ sym (kept-is w basis.processor h batch-declared a))

      made-is : edits_applied changes w ≡ record w { processor_tables = slice_set w.processor_tables basis.processor later; desks = slice_set w.desks actor (desk_of desk); bases = slice_set w.bases actor desk.batch }
      made-is =
          made-append (row_edits basis.processor puts) (Edit.SetRows basis.processor rows ∷ Edit.SetDesk actor desk ∷ []) w
          ∙ ap (λ (u : WorldTables). edits_applied (Edit.SetRows basis.processor rows ∷ Edit.SetDesk actor desk ∷ []) u) (made-rows puts basis.processor w batch-within)
          ∙ ap (λ (y : ProcessorTables). record w { processor_tables = slice_set (slice_set w.processor_tables basis.processor (with_table (put_entries puts x.table) x)) basis.processor (with_state (record y.processor_state { rows = rows }) y); desks = slice_set w.desks actor (desk_of desk); bases = slice_set w.bases actor desk.batch })
          (set-here no_tables w.processor_tables basis.processor (with_table (put_entries puts x.table) x) batch-within)
          ∙ ap (λ ps. record w { processor_tables = ps; desks = slice_set w.desks actor (desk_of desk); bases = slice_set w.bases actor desk.batch }) (set-twice w.processor_tables basis.processor (with_table (put_entries puts x.table) x) later)

      state-is : state_of (edits_applied changes w) ≡ installed m actor b r
      state-is =
          ap state_of made-is
          ∙ ap (λ ss. record m { processor_states = ss; desks = slice_set w.desks actor (desk_of desk) }) (map_set (λ x. x.processor_state) w.processor_tables basis.processor later)
          ∙ ap (λ (t : ProcessorState). record m { processor_states = slice_set m.processor_states basis.processor (record t { rows = put_row new t.rows }); desks = slice_set w.desks actor (desk_of desk) }) (sym (processor_state-place w basis.processor))
          ∙ ap (λ d. record m { processor_states = slice_set m.processor_states basis.processor (record (processor_state_at m basis.processor) { rows = put_row new (processor_state_at m basis.processor).rows }); desks = slice_set w.desks actor d }) cleared.desk

      tables-then : AllFrom (IsTable w.setting es) 0 (slice_set w.processor_tables basis.processor later)
      tables-then = AllFrom-set (IsTable w.setting es) 0 w.processor_tables basis.processor later h.tables (λ k e. let same : basis.processor ≡ k = omega arith in subst (λ (i : ℕ). IsTable w.setting es i later) same table-then)

      can-all : actor < length w.desks → length x.table ≤ 200000 → length puts ≤ 1600000 → CanMakeAll w changes
      can-all lt few rows_few =
          can-append (row_edits basis.processor puts) (Edit.SetRows basis.processor rows ∷ Edit.SetDesk actor desk ∷ []) w (can-rows puts basis.processor w batch-within (omega arith))
          (subst (λ (u : WorldTables). CanMakeAll u (Edit.SetRows basis.processor rows ∷ Edit.SetDesk actor desk ∷ [])) (sym (made-rows puts basis.processor w batch-within))
          ((let l : length (slice_set w.processor_tables basis.processor (with_table (put_entries puts x.table) x)) ≡ length w.processor_tables = length-set w.processor_tables basis.processor (with_table (put_entries puts x.table) x) in let k : basis.processor < length w.processor_tables = batch-within in omega (arith, l, k)), (lt, tt)))

      puts-few : KeepsLimit chain → length w.cells ≤ 200000 → length puts ≤ 1600000
      puts-few few size = let k : length puts ≤ length xs = standing-rows.few in let n : length xs ≤ 1600000 = batch-few whole chain b w.cells few size in omega arith

      pub installed-move : actor < length w.desks → IsDistinct same_name (map (λ e. e.name) x.table) → length w.cells ≤ 200000 → KeepsLimit chain
          → IsMove w (commit_over m actor b (row_at b.segment (processor_state_at m basis.processor).rows)) (record { edits = changes; reply = Reply.Committed (length (share_items basis.shares)) 0 0; report = [] })
      installed-move lt distinct size few =
          subst (λ a. IsMove w a (record { edits = changes; reply = Reply.Committed (length (share_items basis.shares)) 0 0; report = [] })) (sym (over-is ∙ ap (committed m actor b r) none-left))
          (moved w changes (answer (installed m actor b r) (Reply.Committed (length xs) 0 0)) (Reply.Committed (length (share_items basis.shares)) 0 0) h
          (let k : count is_cells changes ≡ 0 = count-rows basis.processor puts (Edit.SetRows basis.processor rows ∷ Edit.SetDesk actor desk ∷ []) in omega (arith, k))
          (can-all lt (rows-bound w basis.processor h batch-declared distinct size) (puts-few few size)) state-is
          (kept-installed m actor b r found-there fence mine differ h.state (all-apply m actor b r found-there fence mine differ h.state none-left))
          (ap (λ (u : WorldTables). u.setting) made-is) (subst (λ (u : WorldTables). AllFrom (IsTable w.setting (events u.cells)) 0 u.processor_tables) (sym made-is) tables-then)
          (subst (λ (u : WorldTables). AllByRecursion (λ o. IfSome o (IsBasisOf w.setting u.cells)) u.bases) (sym made-is) (bases-cleared desk cleared))
          (ap (λ k. Reply.Committed k 0 0) count-is) refl)
