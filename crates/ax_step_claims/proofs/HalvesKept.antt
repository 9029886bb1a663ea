-- A split and a merge keep what holds of every state.
use Rattle.std.proofs.Common.{◌≡◌, ℕ, suc, ◌+◌, ◌≤◌, ◌==◌, Bool, true, false, not, List, [], ◌∷◌, Option, Some, None, slice_get, if◌then◌else◌, refl, sym, ap, ◌∙◌, arith}
use Rattle.std.specs.List.{AllByRecursion}
use borrow.Author.Tests.{eqb-true, eqb-false}
use Rattle.ax_segments.specs.Segments.{Segment, IsSegment, half_mask, max_mask, partner, same_segment}
use Rattle.ax_segments.proofs.Halves.{is_lower}
use Rattle.ax_claims.specs.Rows.{TokenRow, row_at, row_cmp, put_row, remove_row}
use Rattle.ax_claims.specs.Changes.{is_claimed, lower_row, upper_row, split_rows, whole_row, merge_rows, partner_row}
use Rattle.ax_state.specs.Every.{count, one}
use Rattle.ax_state.specs.State.{State, processor_state_at, actor_name}
use Rattle.ax_state.specs.Answer.{answer}
use Rattle.ax_state.specs.WellFormed.{IsWellFormed, IsProcessorState, IsTokenOver, has_no_gaps, has_no_replay}
use Rattle.ax_state.proofs.Lists.{All-get, All-filter, All-put, count-put, one-most}
use Rattle.ax_state.proofs.RowPuts.{All-rows, found-row}
use Rattle.ax_state.proofs.Frames.{place-there, place-at}
use Rattle.ax_state.proofs.Collapsing.{IsTokenOf, token-lower, token-upper}
use Rattle.ax_state.proofs.Splits.{split-parts, split-covers, IsMerge, is-merge}
use Rattle.ax_state.proofs.FreshRows.{IsFreshRow, count-filter, kept-fresh-rows}
use Rattle.ax_world.proofs.HeldFences.{kept-on_held_row}
use Rattle.ax_step_claims.specs.Claiming.{claimed_reply, halved, split_row, split_at, joined, merged_with, merge_at}
use Rattle.ax_journal.specs.declared.reply.Reply.{Reply}

module _ (m : State) (p : ℕ) (s : Segment) (r : TokenRow) (h : IsWellFormed m) (found : row_at s (processor_state_at m p).rows ≡ Some r) where
  abbrev rows : List TokenRow
  rows = (processor_state_at m p).rows

  abbrev fresh : ℕ
  fresh = suc m.fence

  there : slice_get m.processor_states p ≡ Some (processor_state_at m p)
  there = place-there m p s r found

  was : IsProcessorState m.setting m.cells p (processor_state_at m p)
  was = place-at m p there h

  place : (k : ℕ) × (slice_get rows k ≡ Some r) × (r.segment ≡ s)
  place = found-row s rows r found

  token-of : (k : ℕ) (x : TokenRow) → slice_get rows k ≡ Some x → IsTokenOf m.setting m.cells p x.segment.mask x.token
  token-of k x e = record {
    over = All-get (λ r. IsTokenOver m.cells r.segment.mask r.token) rows k x (All-rows (λ y. IsTokenOver m.cells y.segment.mask y.token) rows was.tokens) e;
    gaps = λ need. All-get (λ r. has_no_gaps r.token ≡ true) rows k x (All-rows (λ y. has_no_gaps y.token ≡ true) rows (was.gaps need)) e;
    replays = λ need. All-get (λ r. has_no_replay r.token ≡ true) rows k x (All-rows (λ y. has_no_replay y.token ≡ true) rows (was.replays need)) e;
  }

  -- ---- split

  module _ (more : (r.segment.mask == max_mask) ≡ false) where
    abbrev lower : TokenRow
    lower = lower_row r fresh

    abbrev upper : TokenRow
    upper = upper_row r fresh

    abbrev rest : List TokenRow
    rest = remove_row r.segment rows

    room : half_mask r.segment.mask ≤ max_mask
    room = (is_lower r.segment (All-get (λ r. IsSegment r.segment) rows place.0 r (All-rows (λ x. IsSegment x.segment) rows was.parts.each) place.1) (eqb-false r.segment.mask max_mask more)).mask

    all-split : (P : TokenRow → Type 0) → AllByRecursion P rows → AllByRecursion P (lower ∷ upper ∷ []) → AllByRecursion P (split_rows r fresh rows)
    all-split P old new = All-put P row_cmp upper (put_row lower rest) (All-put P row_cmp lower rest (All-filter P (λ x. not (same_segment x.segment r.segment)) rows old) new.0) new.1.0

    count-split : (t : TokenRow → Bool) → count t (split_rows r fresh rows) ≤ count t rows + count t (lower ∷ upper ∷ [])
    count-split t =
        let a : count t (put_row upper (put_row lower rest)) ≤ count t (put_row lower rest) + one (t upper) = count-put t row_cmp upper (put_row lower rest) in
        let b : count t (put_row lower rest) ≤ count t rest + one (t lower) = count-put t row_cmp lower rest in
        let c : count t rest ≤ count t rows = count-filter t (λ x. not (same_segment x.segment r.segment)) rows in omega arith

    fences-differ : (f : ℕ) → count (λ x. x.fence == f) (lower ∷ upper ∷ []) ≤ 1
    fences-differ f = at (fresh == f) (suc fresh == f) refl refl
      where
        at : (b c : Bool) → (fresh == f) ≡ b → (suc fresh == f) ≡ c → one b + (one c + 0) ≤ 1
        at true true e g = let first : fresh ≡ f = eqb-true fresh f e in let second : suc fresh ≡ f = eqb-true (suc fresh) f g in absurd (omega arith)
        at true false e g = omega arith
        at false true e g = omega arith
        at false false e g = omega arith

    fresh-halves : AllByRecursion (IsFreshRow m p (suc fresh)) (lower ∷ upper ∷ [])
    fresh-halves = (
      record { token = token-lower m.setting m.cells p r.segment.mask r.token room (token-of place.0 r place.1); owner = λ e. refl; since = omega arith; above = omega arith; within = omega arith },
      (record { token = token-upper m.setting m.cells p r.segment.mask r.token room (token-of place.0 r place.1); owner = λ e. refl; since = omega arith; above = omega arith; within = omega arith }, tt),
    )

    pub kept-halved : IsWellFormed (halved m p s r).state
    kept-halved = kept-fresh-rows m p (suc fresh) (lower ∷ upper ∷ []) (split_rows r fresh rows) there h all-split count-split fresh-halves (omega arith) fences-differ
        (split-parts rows place.0 r fresh was.parts place.1 more) (split-covers rows place.0 r fresh was.parts place.1 more)

  kept-split_row : IsWellFormed (split_row m p s r).state
  kept-split_row = at (s.mask == max_mask) refl
    where
      at : (b : Bool) → (s.mask == max_mask) ≡ b → IsWellFormed (if b then answer m Reply.MaskFull else halved m p s r).state
      at true e = h
      at false e = kept-halved (ap (λ t. t.mask == max_mask) place.2 ∙ e)

  -- ---- merge

  module _ (q : TokenRow) (k : ℕ) (at_q : slice_get rows k ≡ Some q) (is : partner r.segment ≡ Some q.segment) where
    abbrev whole : TokenRow
    whole = whole_row r q fresh

    merge-is : IsMerge rows r q whole (merge_rows r q fresh rows)
    merge-is = is-merge rows place.0 k r q fresh was.parts place.1 at_q is

    all-merge : (P : TokenRow → Type 0) → AllByRecursion P rows → AllByRecursion P (whole ∷ []) → AllByRecursion P (merge_rows r q fresh rows)
    all-merge P old new =
        All-put P row_cmp whole (remove_row r.segment (remove_row q.segment rows))
        (All-filter P (λ x. not (same_segment x.segment r.segment)) (remove_row q.segment rows) (All-filter P (λ x. not (same_segment x.segment q.segment)) rows old)) new.0

    count-merge : (t : TokenRow → Bool) → count t (merge_rows r q fresh rows) ≤ count t rows + count t (whole ∷ [])
    count-merge t =
        let a : count t (merge_rows r q fresh rows) ≤ count t (remove_row r.segment (remove_row q.segment rows)) + one (t whole) = count-put t row_cmp whole (remove_row r.segment (remove_row q.segment rows)) in
        let b : count t (remove_row r.segment (remove_row q.segment rows)) ≤ count t (remove_row q.segment rows) = count-filter t (λ x. not (same_segment x.segment r.segment)) (remove_row q.segment rows) in
        let c : count t (remove_row q.segment rows) ≤ count t rows = count-filter t (λ x. not (same_segment x.segment q.segment)) rows in omega arith

    fence-once : (f : ℕ) → count (λ x. x.fence == f) (whole ∷ []) ≤ 1
    fence-once f = let most : one (fresh == f) ≤ 1 = one-most (fresh == f) in omega arith

    pub kept-joined : IsWellFormed (joined m p r q).state
    kept-joined = kept-fresh-rows m p fresh (whole ∷ []) (merge_rows r q fresh rows) there h all-merge count-merge
        (record { token = merge-is.token m.setting m.cells p (token-of place.0 r place.1) (token-of k q at_q); owner = λ e. refl; since = omega arith; above = omega arith; within = omega arith }, tt)
        (omega arith) fence-once merge-is.parts merge-is.covers

  kept-with : (actor : ℕ) (x : Option TokenRow) → partner_row (partner s) rows ≡ x → IsWellFormed (merged_with m actor p r x).state
  kept-with actor None e = h
  kept-with actor (Some q) e = at (is_claimed (actor_name m actor) m.clock q) (partner s) refl e
    where
      at : (b : Bool) (o : Option Segment) → partner s ≡ o → partner_row o rows ≡ Some q → IsWellFormed (if b then answer m (claimed_reply q q.owner) else joined m p r q).state
      at true o f e = h
      at false None f e = absurd (cc)
      at false (Some o) f e = let other = found-row o rows q e in kept-joined q other.0 other.1 (ap partner place.2 ∙ f ∙ ap Some (sym other.2))

pub kept-split : (m : State) (actor p : ℕ) (s : Segment) → IsWellFormed m → IsWellFormed (split_at m actor p s).state
kept-split m actor p s h = kept-on_held_row m actor p s (split_row m p s) h (λ r found held. kept-split_row m p s r h found)

pub kept-merge : (m : State) (actor p : ℕ) (s : Segment) → IsWellFormed m → IsWellFormed (merge_at m actor p s).state
kept-merge m actor p s h =
    kept-on_held_row m actor p s (λ r. merged_with m actor p r (partner_row (partner s) (processor_state_at m p).rows)) h
    (λ r found held. kept-with m p s r h found actor (partner_row (partner s) (processor_state_at m p).rows) refl)
