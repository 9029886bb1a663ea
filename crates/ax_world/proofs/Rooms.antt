-- Room that is made for edits stays until they are made.
use Rattle.std.proofs.Common.{◌≡◌, ℕ, zero, suc, ◌+◌, ◌<◌, ◌≤◌, Bool, true, false, List, [], ◌∷◌, map, take, length, Result, Ok, Err, OnOk, get_or, nat_lt, refl, sym, ap, ◌∙◌, subst, arith}
use Rattle.std.specs.List.{AllByRecursion}
use Rattle.std.proofs.lemmas.Bool.Decides.{nat_tests}
use Rattle.std.proofs.lemmas.List.{length-set, length-map}
use Rattle.ax_values.specs.declared.cell.Cell.{Cell}
use Rattle.ax_log.specs.Puts.{Room as LogRoom, IsKept, IsKnown}
use Rattle.ax_log.specs.declared.put.CellPut.{CellPut}
use Rattle.ax_state.specs.Every.{count, one}
use Rattle.ax_world.specs.WorldTables.{WorldTables, ProcessorRoom, ProcessorTablesView, Room, room_in, room_at, processor_tables_at}
use Rattle.ax_world.specs.EditsApplied.{edit_applied, rows_set, row_put, policy_set, mark_put, mark_removed}
use Rattle.ax_world.specs.Fits.{CanMake, CanMakeAll, HasCells, HasRoom, Leaves, is_cells, puts_mark, puts_row}
use Rattle.ax_world.specs.declared.edit.Edit.{Edit}

-- ---- an edit is made

others-quiet : (room : LogRoom) (es : List Edit) → count is_cells es ≤ 0 → AllByRecursion (HasCells room) es
others-quiet room [] h = tt
others-quiet room (Edit.Clock now ∷ es) h = (tt, others-quiet room es (omega arith))
others-quiet room (Edit.Fence fence ∷ es) h = (tt, others-quiet room es (omega arith))
others-quiet room (Edit.Cells puts ∷ es) h = absurd (omega arith)
others-quiet room (Edit.SetRows p rows ∷ es) h = (tt, others-quiet room es (omega arith))
others-quiet room (Edit.PutRow p a v ∷ es) h = (tt, others-quiet room es (omega arith))
others-quiet room (Edit.SetPolicy p keep ∷ es) h = (tt, others-quiet room es (omega arith))
others-quiet room (Edit.PutMark p item ∷ es) h = (tt, others-quiet room es (omega arith))
others-quiet room (Edit.RemoveMark p item ∷ es) h = (tt, others-quiet room es (omega arith))
others-quiet room (Edit.SetDesk k desk ∷ es) h = (tt, others-quiet room es (omega arith))

-- behind the one edit that puts cells no room is wanted
cells-left : (old new : Room) (e : Edit) (es : List Edit) → count is_cells (e ∷ es) ≤ 1 → AllByRecursion (HasCells old.log) es → (is_cells e ≡ false → new.log ≡ old.log) → AllByRecursion (HasCells new.log) es
cells-left old new e es h k l = at (is_cells e) refl
  where
    at : (b : Bool) → is_cells e ≡ b → AllByRecursion (HasCells new.log) es
    at true c = let one_is : one (is_cells e) ≡ 1 = ap one c in others-quiet new.log es (omega arith)
    at false c = subst (λ (room : LogRoom). AllByRecursion (HasCells room) es) (sym (l c)) k

pub room-left : (old new : Room) (e : Edit) (es : List Edit) → count is_cells (e ∷ es) ≤ 1 → HasRoom old (e ∷ es) → Leaves old new e → HasRoom new es
room-left old new e es h k l = record {
  log = cells-left old new e es h k.log.1 l.log;
  rows = λ q. (let a : one (puts_row q e) + count (puts_row q) es ≤ (room_at old q).rows = k.rows q in let b : (room_at old q).rows ≤ (room_at new q).rows + one (puts_row q e) = l.rows q in omega arith);
  marks = λ q. (let a : one (puts_mark q e) + count (puts_mark q) es ≤ (room_at old q).marks = k.marks q in let b : (room_at old q).marks ≤ (room_at new q).marks + one (puts_mark q e) = l.marks q in omega arith);
}

pub single-left : (e : Edit) (es : List Edit) → count is_cells (e ∷ es) ≤ 1 → count is_cells es ≤ 1
single-left e es h = omega arith

-- ---- cells are put

kept-cell : (old new : LogRoom) (x : Cell) → IsKept old new → IsKnown old.names x → IsKnown new.names x
kept-cell old new (Cell.Reserved a s w t) k h = tt
kept-cell old new Cell.Void k h = tt
kept-cell old new (Cell.Event r) k h = k.names r.aggregate h

kept-puts : (old new : LogRoom) (ps : List CellPut) → IsKept old new → AllByRecursion (λ p. IsKnown old.names p.cell) ps → AllByRecursion (λ p. IsKnown new.names p.cell) ps
kept-puts old new [] k h = tt
kept-puts old new (p ∷ ps) k h = (kept-cell old new p.cell k h.0, kept-puts old new ps k h.1)

pub kept-cells : (old new : LogRoom) → IsKept old new → (e : Edit) → HasCells old e → HasCells new e
kept-cells old new k (Edit.Clock now) h = tt
kept-cells old new k (Edit.Fence fence) h = tt
kept-cells old new k (Edit.Cells puts) h = let le : length puts ≤ old.cells = h.cells in let more : old.cells ≤ new.cells = k.cells in record { cells = omega arith; names = kept-puts old new puts k h.names }
kept-cells old new k (Edit.SetRows p rows) h = tt
kept-cells old new k (Edit.PutRow p a v) h = tt
kept-cells old new k (Edit.SetPolicy p keep) h = tt
kept-cells old new k (Edit.PutMark p item) h = tt
kept-cells old new k (Edit.RemoveMark p item) h = tt
kept-cells old new k (Edit.SetDesk i desk) h = tt

-- ---- room is made

seen-next : {A : Type 0} (P Q : A → Type 0) → ((x : A) → P x → Q x) → (xs : List A) (i : ℕ) (x : A) → AllByRecursion P (take i xs) → i < length xs → x ≡ get_or xs i x → Q x → AllByRecursion Q (take (suc i) xs)
seen-next P Q f [] i x h lt e q = absurd (omega arith)
seen-next P Q f (y ∷ ys) zero x h lt e q = (subst Q e q, tt)
seen-next P Q f (y ∷ ys) (suc i) x h lt e q = (f y h.0, seen-next P Q f ys i x h.1 (omega arith) e q)

pub seen-more : {A : Type 0} (P Q : A → Type 0) → ((x : A) → P x → Q x) → (xs : List A) (i : ℕ) (x : A) → AllByRecursion P (take i xs) → i < length xs → x ≡ get_or xs i x → Q x → AllByRecursion Q (take (i + 1) xs)
seen-more P Q f xs i x h lt e q = let next : suc i ≡ i + 1 = omega arith in subst (λ n. AllByRecursion Q (take n xs)) next (seen-next P Q f xs i x h lt e q)

made-length : (w : WorldTables) (e : Edit) → length (edit_applied w e).processor_tables ≡ length w.processor_tables
made-length w (Edit.Clock now) = refl
made-length w (Edit.Fence fence) = refl
made-length w (Edit.Cells puts) = refl
made-length w (Edit.SetRows p rows) = length-set w.processor_tables p (rows_set rows (processor_tables_at w p))
made-length w (Edit.PutRow p a v) = length-set w.processor_tables p (row_put a v (processor_tables_at w p))
made-length w (Edit.SetPolicy p keep) = length-set w.processor_tables p (policy_set keep (processor_tables_at w p))
made-length w (Edit.PutMark p item) = length-set w.processor_tables p (mark_put item (processor_tables_at w p))
made-length w (Edit.RemoveMark p item) = length-set w.processor_tables p (mark_removed item (processor_tables_at w p))
made-length w (Edit.SetDesk k desk) = refl

-- no edit puts a row or a mark of a processor that is not there
undeclared-row : (w : WorldTables) (e : Edit) (q : ℕ) → CanMake w e → length w.processor_tables ≤ q → puts_row q e ≡ false
undeclared-row w (Edit.Clock now) q h k = refl
undeclared-row w (Edit.Fence fence) q h k = refl
undeclared-row w (Edit.Cells puts) q h k = refl
undeclared-row w (Edit.SetRows p rows) q h k = refl
undeclared-row w (Edit.PutRow p a v) q h k = let lt : p < length w.processor_tables = h.0 in grind (arith, nat_tests)
undeclared-row w (Edit.SetPolicy p keep) q h k = refl
undeclared-row w (Edit.PutMark p item) q h k = refl
undeclared-row w (Edit.RemoveMark p item) q h k = refl
undeclared-row w (Edit.SetDesk i desk) q h k = refl

undeclared-mark : (w : WorldTables) (e : Edit) (q : ℕ) → CanMake w e → length w.processor_tables ≤ q → puts_mark q e ≡ false
undeclared-mark w (Edit.Clock now) q h k = refl
undeclared-mark w (Edit.Fence fence) q h k = refl
undeclared-mark w (Edit.Cells puts) q h k = refl
undeclared-mark w (Edit.SetRows p rows) q h k = refl
undeclared-mark w (Edit.PutRow p a v) q h k = refl
undeclared-mark w (Edit.SetPolicy p keep) q h k = refl
undeclared-mark w (Edit.PutMark p item) q h k = let lt : p < length w.processor_tables = h.0 in grind (arith, nat_tests)
undeclared-mark w (Edit.RemoveMark p item) q h k = refl
undeclared-mark w (Edit.SetDesk i desk) q h k = refl

-- ---- room for one kind of entries, of which `puts` says whether an edit puts one

module _ (part : ProcessorRoom → ℕ) (puts : ℕ → Edit → Bool) (none : (w : WorldTables) (e : Edit) (q : ℕ) → CanMake w e → length w.processor_tables ≤ q → puts q e ≡ false) where
  undeclared : (es : List Edit) (w : WorldTables) (q : ℕ) → CanMakeAll w es → length w.processor_tables ≤ q → count (puts q) es ≡ 0
  undeclared [] w q h k = refl
  undeclared (e ∷ es) w q h k =
      let zero_here : one (puts q e) ≡ 0 = ap one (none w e q h.0 k) in
      let l : length (edit_applied w e).processor_tables ≡ length w.processor_tables = made-length w e in
      let ih : count (puts q) es ≡ 0 = undeclared es (edit_applied w e) q h.1 (omega arith) in omega arith

  all-made : (w : WorldTables) (es : List Edit) (old new : List ProcessorTablesView) → CanMakeAll w es → w.processor_tables ≡ map (λ x. x.place) old → map (λ x. x.place) new ≡ map (λ x. x.place) old
      → ((q : ℕ) → q < length new → count (puts q) es ≤ part (room_in (map (λ x. x.room) new) q)) → (q : ℕ) → count (puts q) es ≤ part (room_in (map (λ x. x.room) new) q)
  all-made w es old new can is same h q = at (nat_lt q (length new)) refl
    where
      lengths : length w.processor_tables ≡ length new
      lengths = ap length is ∙ ap length (sym same) ∙ length-map new (λ x. x.place)

      at : (b : Bool) → nat_lt q (length new) ≡ b → count (puts q) es ≤ part (room_in (map (λ x. x.room) new) q)
      at true e = h q (grind (arith, nat_tests, e))
      at false e =
          let past : length new ≤ q = grind (arith, nat_tests, e) in
          let l : length w.processor_tables ≡ length new = lengths in
          let zero_all : count (puts q) es ≡ 0 = undeclared es w q can (omega arith) in omega arith

pub room-made : {U E : Type 0} (r : Result U E) (w : WorldTables) (es : List Edit) (log : LogRoom) (old new : List ProcessorTablesView) → CanMakeAll w es → w.processor_tables ≡ map (λ x. x.place) old → map (λ x. x.place) new ≡ map (λ x. x.place) old
    → AllByRecursion (HasCells log) es → OnOk r ((q : ℕ) → q < length new → count (puts_row q) es ≤ (room_in (map (λ x. x.room) new) q).rows)
    → OnOk r ((q : ℕ) → q < length new → count (puts_mark q) es ≤ (room_in (map (λ x. x.room) new) q).marks) → OnOk r (HasRoom (record { log = log; processors = map (λ x. x.room) new }) es)
room-made (Err e) w es log old new can is same c h k = tt
room-made (Ok u) w es log old new can is same c h k = record {
  log = c;
  rows = all-made (λ r. r.rows) puts_row undeclared-row w es old new can is same h;
  marks = all-made (λ r. r.marks) puts_mark undeclared-mark w es old new can is same k;
}
