-- Puts that keep the order of the log.
use Rattle.std.specs.Prelude.{◌≡◌, ℕ, zero, suc, ◌+◌, ◌<◌, ◌≤◌, ◌⊎◌, Bool, true, false, List, [], ◌∷◌, length, take, max, replicate, Some, slice_get}
use Rattle.std.proofs.Common.{refl, ap, sym, ◌∙◌, subst, inl, inr, ⊎_elim, arith}
use Rattle.std.specs.Prelude.{◌&&◌}
use Rattle.std.specs.List.{list_all}
use Rattle.std.proofs.lemmas.Bool.{cases_lt}
use Rattle.std.proofs.lemmas.List.{take_all}
use Rattle.std.proofs.lemmas.Slice.Eq.{bytes_eq-Decides}
use Rattle.ax_values.specs.Grammar.{Name}
use Rattle.ax_values.specs.Words.{same_name}
use Rattle.ax_values.specs.declared.record.Record.{Record}
use Rattle.ax_values.specs.declared.cell.Cell.{Cell}
use Rattle.ax_log.specs.Log.{Stored, is_of, stream_of, length_of, is_reserved, option_is}
use Rattle.ax_log.specs.Order.{AreNumbered, IsReservedRight, IsOrdered, max_cells, is_small, has_few_fields}
use Rattle.ax_log.specs.Puts.{HasPlace, CanPut, CanPutAll, puts_at}
use Rattle.ax_log.proofs.CellPutLaws.{put, IsOpen, place-open, put_at-put, length-put, grown-put, get-same, get-other, take-before, take-past, open-take, Misses, filter-other, length-own, numbered-own}
use Rattle.ax_log.specs.declared.put.CellPut.{CellPut}

-- ---- one put

-- a cell that has no event of an aggregate leaves its events in every front
length-other : (cells : List Cell) (i : ℕ) (x : Cell) (a : Name) (j : ℕ) → IsOpen cells i → Misses (is_of a) x → length_of a (take j (put i x cells)) ≡ length_of a (take j cells)
length-other cells i x a j o m =
    ⊎_elim (λ (h : i < j). ap (λ (cs : List Cell). length_of a cs) (take-past cells i j x h) ∙ ap (λ (es : List Stored). length es) (filter-other (is_of a) (take j cells) 0 i x (open-take cells i j h o) m))
    (λ (h : j ≤ i). ap (λ (cs : List Cell). length_of a cs) (take-before cells i j x h)) (cases_lt i j)

length-same : (cells : List Cell) (i : ℕ) (x : Cell) (a : Name) → IsOpen cells i → Misses (is_of a) x → length_of a (put i x cells) ≡ length_of a cells
length-same cells i x a o m = ap (λ (es : List Stored). length es) (filter-other (is_of a) cells 0 i x o m)

-- what was right of another reserved cell is right still
right-other : (cells : List Cell) (i : ℕ) (x : Cell) (j : ℕ) (a : Name) (s : ℕ) → IsOpen cells i → Misses (is_of a) x → IsReservedRight cells j a s → IsReservedRight (put i x cells) j a s
right-other cells i x j a s o m r =
    let same : length_of a (put i x cells) ≡ length_of a cells = length-same cells i x a o m in
    let le : s ≤ length_of a cells = r.bound in
    record { bound = omega arith; before = λ e. length-other cells i x a j o m ∙ r.before (e ∙ same) ∙ sym same }

within-limit : (cells : List Cell) (i : ℕ) (x : Cell) → length cells ≤ max_cells → i < max_cells → length (put i x cells) ≤ max_cells
within-limit cells i x h lt = let le : length (put i x cells) ≤ max (length cells) (suc i) = length-put cells i x in omega arith

small-both : (b c d : Bool) → (b && c) ≡ true → d ≡ true → (d && c) ≡ true
small-both true c true h e = h
small-both false c d h e = absurd (cc)
small-both true c false h e = absurd (cc)

small-more : (b c d : Bool) → (b && c) ≡ true → (c ≡ true → d ≡ true) → (b && d) ≡ true
small-more true c d h more = more h
small-more false c d h more = absurd (cc)

small-put : (cells : List Cell) (i : ℕ) (x : Cell) → list_all is_small cells ≡ true → is_small x ≡ true → list_all is_small (put i x cells) ≡ true
small-put [] zero x h e = small-both true true (is_small x) refl e
small-put [] (suc i) x h e = refl
small-put (c ∷ cs) zero x h e = small-both (is_small c) (list_all is_small cs) (is_small x) h e
small-put (c ∷ cs) (suc i) x h e = small-more (is_small c) (list_all is_small cs) (list_all is_small (put i x cs)) h (λ k. small-put cs i x k e)

same-cell : {A : Type 0} (x y : A) → Some x ≡ Some y → x ≡ y
same-cell x y e = cc

-- an event that goes on with its aggregate's stream, behind all events of it
pub record IsNext (cells : List Cell) (i : ℕ) (r : Record) : Type 0 where
  pub free : IsOpen cells i
  pub last : length_of r.aggregate (take i cells) ≡ length_of r.aggregate cells
  pub seq_is : r.seq ≡ length_of r.aggregate cells
  pub few : has_few_fields r ≡ true

pub length-next : (cells : List Cell) (i : ℕ) (r : Record) → IsOpen cells i → length_of r.aggregate (put i (Cell.Event r) cells) ≡ suc (length_of r.aggregate cells)
length-next cells i r o = length-own (is_of r.aggregate) cells 0 i r o (λ j. (bytes_eq-Decides r.aggregate r.aggregate).1 refl)

pub ordered-event : (cells : List Cell) (i : ℕ) (r : Record) → IsNext cells i r → i < max_cells → IsOrdered cells → IsOrdered (put i (Cell.Event r) cells)
ordered-event cells i r n lt h = record {
  numbered = λ a. numbered a (same_name r.aggregate a) refl;
  reserved = λ j a s w t e. reserved j a s w t e (same_name r.aggregate a) refl;
  size = within-limit cells i (Cell.Event r) h.size lt;
  small = small-put cells i (Cell.Event r) h.small n.few;
}
  where
    later : List Cell
    later = put i (Cell.Event r) cells

    numbered : (a : Name) (b : Bool) → same_name r.aggregate a ≡ b → AreNumbered 0 (stream_of a later)
    numbered a true e =
        let is : r.aggregate ≡ a = (bytes_eq-Decides r.aggregate a).0 e in
        let next : r.seq ≡ 0 + length_of r.aggregate cells = (let k : r.seq ≡ length_of r.aggregate cells = n.seq_is in omega arith) in
        subst (λ (x : Name). AreNumbered 0 (stream_of x later)) is
        (numbered-own (is_of r.aggregate) cells 0 0 i r n.free (λ j. (bytes_eq-Decides r.aggregate r.aggregate).1 refl) n.last next (h.numbered r.aggregate))
    numbered a false e = rw (filter-other (is_of a) cells 0 i (Cell.Event r) n.free (λ j. e)) (h.numbered a)

    was : (j : ℕ) (a : Name) (s : ℕ) (w : Name) (t : ℕ) → slice_get later j ≡ Some (Cell.Reserved a s w t) → slice_get cells j ≡ Some (Cell.Reserved a s w t)
    was j a s w t e = sym (get-other cells i j (Cell.Event r) (λ same. absurd (let k : Some (Cell.Event r) ≡ Some (Cell.Reserved a s w t) = sym (get-same cells i (Cell.Event r) n.free.within) ∙ ap (slice_get later) (sym same) ∙ e in cc))) ∙ e

    reserved : (j : ℕ) (a : Name) (s : ℕ) (w : Name) (t : ℕ) → slice_get later j ≡ Some (Cell.Reserved a s w t) → (b : Bool) → same_name r.aggregate a ≡ b → IsReservedRight later j a s
    reserved j a s w t e true k =
        let is : r.aggregate ≡ a = (bytes_eq-Decides r.aggregate a).0 k in
        let le : s ≤ length_of a cells = (h.reserved j a s w t (was j a s w t e)).bound in
        let more : length_of a later ≡ suc (length_of a cells) = subst (λ (x : Name). length_of x later ≡ suc (length_of x cells)) is (length-next cells i r n.free) in
        record { bound = omega arith; before = λ same. absurd (omega arith) }
    reserved j a s w t e false k = right-other cells i (Cell.Event r) j a s n.free (λ l. k) (h.reserved j a s w t (was j a s w t e))

-- a cell without an event
abbrev pub IsQuiet : Cell → Type 0
IsQuiet (Cell.Reserved a s w t) = Unit {0}
IsQuiet Cell.Void = Unit {0}
IsQuiet (Cell.Event r) = ⊥

quiet-misses : (x : Cell) (a : Name) → IsQuiet x → Misses (is_of a) x
quiet-misses (Cell.Reserved b s w t) a q = tt
quiet-misses Cell.Void a q = tt
quiet-misses (Cell.Event r) a q = absurd q

quiet-small : (x : Cell) → IsQuiet x → is_small x ≡ true
quiet-small (Cell.Reserved b s w t) q = refl
quiet-small Cell.Void q = refl
quiet-small (Cell.Event r) q = absurd q

ordered-quiet : (cells : List Cell) (i : ℕ) (x : Cell) → IsOpen cells i → IsQuiet x → i < max_cells → ((a : Name) (s : ℕ) (w : Name) (t : ℕ) → x ≡ Cell.Reserved a s w t → IsReservedRight cells i a s)
    → IsOrdered cells → IsOrdered (put i x cells)
ordered-quiet cells i x o q lt right h = record {
  numbered = λ a. rw (filter-other (is_of a) cells 0 i x o (quiet-misses x a q)) (h.numbered a);
  reserved = λ j a s w t e. right-other cells i x j a s o (quiet-misses x a q) (reserved j a s w t e (cases_lt i j) (cases_lt j i));
  size = within-limit cells i x h.size lt;
  small = small-put cells i x h.small (quiet-small x q);
}
  where
    here : (j : ℕ) (a : Name) (s : ℕ) (w : Name) (t : ℕ) → slice_get (put i x cells) j ≡ Some (Cell.Reserved a s w t) → j ≡ i → IsReservedRight cells j a s
    here j a s w t e same =
        let is : x ≡ Cell.Reserved a s w t = same-cell x (Cell.Reserved a s w t) (sym (get-same cells i x o.within) ∙ ap (slice_get (put i x cells)) (sym same) ∙ e) in
        subst (λ (k : ℕ). IsReservedRight cells k a s) (sym same) (right a s w t is)

    away : (j : ℕ) (a : Name) (s : ℕ) (w : Name) (t : ℕ) → slice_get (put i x cells) j ≡ Some (Cell.Reserved a s w t) → (j ≡ i → ⊥) → IsReservedRight cells j a s
    away j a s w t e apart = h.reserved j a s w t (sym (get-other cells i j x apart) ∙ e)

    reserved : (j : ℕ) (a : Name) (s : ℕ) (w : Name) (t : ℕ) → slice_get (put i x cells) j ≡ Some (Cell.Reserved a s w t) → (i < j) ⊎ (j ≤ i) → (j < i) ⊎ (i ≤ j) → IsReservedRight cells j a s
    reserved j a s w t e above below =
        ⊎_elim (λ (p : i < j). away j a s w t e (λ same. absurd (omega arith)))
        (λ (p : j ≤ i). ⊎_elim (λ (q : j < i). away j a s w t e (λ same. absurd (omega arith))) (λ (q : i ≤ j). here j a s w t e (omega arith)) below) above

-- ---- puts one after another

can-put : (cells : List Cell) (i : ℕ) (x : Cell) → HasPlace cells i → IsOrdered (put i x cells) → CanPut cells (record { index = i; cell = x })
can-put cells i x place h = record { place = place; after = subst IsOrdered (sym (put_at-put cells i x (place-open cells i place).within)) h }

pub can-more : (cells : List Cell) (i : ℕ) (x : Cell) (ps : List CellPut) → HasPlace cells i → IsOrdered (put i x cells) → CanPutAll (put i x cells) ps → CanPutAll cells (record { index = i; cell = x } ∷ ps)
can-more cells i x ps place h rest = (can-put cells i x place h, subst (λ (cs : List Cell). CanPutAll cs ps) (sym (put_at-put cells i x (place-open cells i place).within)) rest)

-- a reserved cell may become void
pub can_void : (cells : List Cell) (i : ℕ) → option_is is_reserved (slice_get cells i) ≡ true → IsOrdered cells → CanPut cells (record { index = i; cell = Cell.Void })
can_void cells i e h =
    can-put cells i Cell.Void (inr e) (ordered-quiet cells i Cell.Void (place-open cells i (inr e)) tt (within cells h.size e) (λ a s w t k. absurd (cc)) h)
  where
    inside : (cs : List Cell) (j : ℕ) → option_is is_reserved (slice_get cs j) ≡ true → j < length cs
    inside [] j k = absurd (cc)
    inside (c ∷ cs) zero k = omega arith
    inside (c ∷ cs) (suc j) k = let rest : j < length cs = inside cs j k in omega arith

    within : (cs : List Cell) → length cs ≤ max_cells → option_is is_reserved (slice_get cs i) ≡ true → i < max_cells
    within cs le k = let lt : i < length cs = inside cs i k in omega arith

-- cells may be reserved at the end, numbered from the stream's length
pub can_reserve : (count i : ℕ) (a : Name) (s : ℕ) (w : Name) (t : ℕ) (cells : List Cell) → i ≡ length cells → s ≡ length_of a cells → length cells + count ≤ max_cells → IsOrdered cells
    → CanPutAll cells (puts_at i (replicate count (Cell.Reserved a s w t)))
can_reserve zero i a s w t cells e is room h = tt
can_reserve (suc count) i a s w t cells e is room h =
    can-more cells i x (puts_at (suc i) (replicate count x)) (inl e) ordered
    (can_reserve count (suc i) a s w t (put i x cells) longer (is ∙ sym (length-same cells i x a o tt)) (let l : suc i ≡ length (put i x cells) = longer in omega arith) ordered)
  where
    x : Cell
    x = Cell.Reserved a s w t

    o : IsOpen cells i
    o = place-open cells i (inl e)

    longer : suc i ≡ length (put i x cells)
    longer = let low : suc i ≤ length (put i x cells) = grown-put cells i x o.within in let high : length (put i x cells) ≤ max (length cells) (suc i) = length-put cells i x in omega arith

    right : (b : Name) (u : ℕ) (v : Name) (r : ℕ) → x ≡ Cell.Reserved b u v r → IsReservedRight cells i b u
    right b u v r k =
        let ab : a ≡ b = cc in
        let su : s ≡ u = cc in
        let now : u ≡ length_of b cells = sym su ∙ is ∙ ap (λ (y : Name). length_of y cells) ab in
        record { bound = omega arith; before = λ same. ap (λ (cs : List Cell). length_of b cs) (take_all i cells (omega arith)) }

    ordered : IsOrdered (put i x cells)
    ordered = ordered-quiet cells i x o tt (omega arith) right h
