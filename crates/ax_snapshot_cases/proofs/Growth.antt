-- A snapshot stays one while a log grows.
use Rattle.std.proofs.Common.{◌≡◌, ℕ, suc, ◌+◌, ◌≤◌, ◌==◌, Bool, true, false, take, List, [], ◌∷◌, ◌++◌, length, filter, Option, Some, None, if◌then◌else◌, refl, sym, ap, ◌∙◌, subst, arith}
use Rattle.std.specs.Prelude.{IfSome, slice_set}
use Rattle.std.proofs.lemmas.Bool.Decides.{nat_tests}
use Rattle.std.proofs.lemmas.List.{take-append-le, length-append}
use Rattle.std.proofs.Math.Seq.{take-length}
use Rattle.ax_values.specs.Grammar.{Name}
use Rattle.ax_values.specs.declared.cell.Cell.{Cell}
use Rattle.ax_log.specs.Log.{Stored, stream_of, events_from, is_of, length_of, put_at}
use Rattle.ax_rules.specs.Rules.{Rules, lenient}
use Rattle.ax_upcast.specs.declared.upcaster.Upcaster.{Upcaster}
use Rattle.ax_repo.specs.Snapshots.{items_in, state_of, snapshot_of, IsSnapshotOf}
use Rattle.ax_repo.specs.declared.snapshot.Snapshot.{Snapshot}
use Rattle.ax_snapshot_cases.specs.Grows.{IsFront, Grows}

pub grows_not : (cells : List Cell) → Grows cells cells
grows_not cells = record { front = λ a k l. record { within = l; same = refl } }

pub grows_more : (one two three : List Cell) → Grows one two → Grows two three → Grows one three
grows_more one two three g h = record {
  front = λ a k l. (
      let f = g.front a k l in
      let e = h.front a k f.within in
      record { within = e.within; same = e.same ∙ f.same });
}

own : (b : Bool) (e : Stored) (xs ys zs : List Stored) → xs ≡ ys ++ zs → (if b then e ∷ xs else xs) ≡ (if b then e ∷ ys else ys) ++ zs
own true e xs ys zs h = ap (λ (l : List Stored). e ∷ l) h
own false e xs ys zs h = h

-- the events of cells with one more at the end
one-more : (a : Name) (k : ℕ) (cells : List Cell) (c : Cell)
    → filter (is_of a) (events_from k (cells ++ c ∷ [])) ≡ filter (is_of a) (events_from k cells) ++ filter (is_of a) (events_from (k + length cells) (c ∷ []))
one-more a k [] c = let e : k + 0 ≡ k = omega arith in ap (λ (i : ℕ). filter (is_of a) (events_from i (c ∷ []))) (sym e)
one-more a k (Cell.Event r ∷ cells) c =
    let e : suc k + length cells ≡ k + suc (length cells) = omega arith in
    let s : Stored = record { index = k; record_of = r } in
    own (is_of a s) s (filter (is_of a) (events_from (suc k) (cells ++ c ∷ []))) (filter (is_of a) (events_from (suc k) cells)) (filter (is_of a) (events_from (k + suc (length cells)) (c ∷ [])))
    (one-more a (suc k) cells c ∙ ap (λ (i : ℕ). filter (is_of a) (events_from (suc k) cells) ++ filter (is_of a) (events_from i (c ∷ []))) e)
one-more a k (Cell.Reserved b s w t ∷ cells) c =
    let e : suc k + length cells ≡ k + suc (length cells) = omega arith in
    one-more a (suc k) cells c ∙ ap (λ (i : ℕ). filter (is_of a) (events_from (suc k) cells) ++ filter (is_of a) (events_from i (c ∷ []))) e
one-more a k (Cell.Void ∷ cells) c =
    let e : suc k + length cells ≡ k + suc (length cells) = omega arith in
    one-more a (suc k) cells c ∙ ap (λ (i : ℕ). filter (is_of a) (events_from (suc k) cells) ++ filter (is_of a) (events_from i (c ∷ []))) e

-- a cell more at the end
grows-end : (cells : List Cell) (c : Cell) → Grows cells (cells ++ c ∷ [])
grows-end cells c = record {
  front = λ a k l. (
      let more = filter (is_of a) (events_from (0 + length cells) (c ∷ [])) in
      let e : stream_of a (cells ++ c ∷ []) ≡ stream_of a cells ++ more = one-more a 0 cells c in
      record {
        within = subst (λ (n : ℕ). k ≤ n) (sym (ap length e ∙ length-append (stream_of a cells) more)) (omega (arith, l));
        same = ap (take k) e ∙ take-append-le k (stream_of a cells) more l;
      });
}

-- a put at the end
pub grows_put : (cells new : List Cell) (i : ℕ) (c : Cell) → i ≡ length cells → new ≡ put_at cells i c → Grows cells new
grows_put cells new i c at n = subst (λ (cs : List Cell). Grows cells cs) (sym n) (by (i == length cells) (grind (arith, nat_tests, at)))
  where
    by : (b : Bool) → b ≡ true → Grows cells (if b then cells ++ c ∷ [] else slice_set cells i c)
    by true h = grows-end cells c
    by false h = absurd (cc)

-- the snapshot of all events is one of the first events of a log that has grown
pub still : (rules : Rules) (chain : List Upcaster) (revision : ℕ) (a : Name) (old new : List Cell) (o : Option Snapshot)
    → Grows old new → o ≡ snapshot_of rules chain revision a old → IfSome o (IsSnapshotOf rules chain a new)
still rules chain revision a old new o g e = subst (λ (o : Option Snapshot). IfSome o (IsSnapshotOf rules chain a new)) (sym e) (by (length_of a old == 0))
  where
    by : (b : Bool) → IfSome (if b then None else Some (record { aggregate = a; revision = revision; events = length_of a old; state = state_of rules chain a old })) (IsSnapshotOf rules chain a new)
    by true = tt
    by false =
        let f = g.front a (length (stream_of a old)) (omega arith) in
        record {
          aggregate = refl;
          events = f.within;
          state = ap (λ (es : List Stored). lenient rules (items_in chain es)) (sym (f.same ∙ take-length (stream_of a old)));
        }
