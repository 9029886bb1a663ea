-- A fetch keeps what holds of every state.
use Rattle.std.proofs.Common.{◌≡◌, ℕ, zero, suc, ◌≤◌, ◌&&◌, ◌||◌, Bool, true, false, IsTrue, List, [], ◌∷◌, length, Option, Some, slice_get, if◌then◌else◌, refl, ap, ◌∙◌, subst, arith, nat_lt, nat_le}
use Rattle.std.proofs.lemmas.Bool.Decides.{nat_tests}
use Rattle.ax_values.specs.Grammar.{Name}
use Rattle.ax_laws.proofs.Tests.{both, and-false, and-swap}
use Rattle.ax_log.specs.Log.{Stored, events, stream_in, is_settled}
use Rattle.ax_segments.specs.Segments.{Segment}
use Rattle.ax_segments.specs.Sequences.{hash_in}
use Rattle.ax_tokens.specs.Plain.{settles}
use Rattle.ax_tokens.specs.Tokens.{advanced, covers, gaps_fit}
use Rattle.ax_tokens.proofs.Changes.{covers-advanced, covers-collapsed}
use Rattle.ax_claims.specs.Rows.{TokenRow, row_at}
use Rattle.ax_state.specs.Setting.{is_projection, whole_at}
use Rattle.ax_state.specs.State.{State, Batch, desk_at, processor_state_at, actor_name}
use Rattle.ax_state.specs.WellFormed.{IsWellFormed, IsProcessorState, IsTokenOver, TokenPrefix, IsStanding, is_prefix_test}
use Rattle.ax_state.proofs.Lists.{All-map, All-get}
use Rattle.ax_state.proofs.RowPuts.{found-row, All-rows}
use Rattle.ax_state.proofs.Coverage.{prefix-here}
use Rattle.ax_state.proofs.Frames.{seat-at, place-there, place-at}
use Rattle.ax_state.proofs.Desks.{kept-batch, batch-here}
use Rattle.ax_world.specs.Holding.{held_fence}
use Rattle.ax_world.proofs.HeldFences.{held-owned, kept-on_held_row}
use Rattle.ax_step_work.specs.Reach.{HasSettled}
use Rattle.ax_step_work.specs.Working.{is_new, new_below, is_fetchable, largest, fetch_limit, fetch_bound, fetched_batch, fetched, fetch_at}
use Rattle.ax_step_work.proofs.Advancing.{covered-settled, token-advanced, advance-adds, advanced-none}
use Rattle.ax_step_work.proofs.Bounds.{limit-within}
use Rattle.ax_step_work.proofs.Covering.{rising-stream, settled-stream, prefix-grows, same-tests}
use Rattle.ax_step_work.proofs.NotWhole.{gaps-allowed}

-- ---- the bound

largest-by : (b : Bool) (test : ℕ → Bool) (n : ℕ) → test (suc n) ≡ b → (test 0 ≡ true → test (largest test n) ≡ true) → test 0 ≡ true → test (if b then suc n else largest test n) ≡ true
largest-by true test n e again h = e
largest-by false test n e again h = again h

pub largest-passes : (test : ℕ → Bool) (n : ℕ) → test 0 ≡ true → test (largest test n) ≡ true
largest-passes test zero h = h
largest-passes test (suc n) h = largest-by (test (suc n)) test n refl (largest-passes test n) h

pub largest-within : (test : ℕ → Bool) (n : ℕ) → largest test n ≤ n
largest-within test zero = omega arith
largest-within test (suc n) = elim (test (suc n)) as (λ b. (if b then suc n else largest test n) ≤ suc n) [ true ↦ omega arith | false ↦ (let ih : largest test n ≤ n = largest-within test n in omega arith) ]

-- ---- the batch

-- of a row that is found
module _ (m : State) (actor p : ℕ) (s : Segment) (most : ℕ) (r : TokenRow) (found : row_at s (processor_state_at m p).rows ≡ Some r) (h : IsWellFormed m) where
  abbrev rows : List TokenRow
  rows = (processor_state_at m p).rows

  abbrev whole : Option Name
  whole = whole_at m.setting p

  was : IsProcessorState m.setting m.cells p (processor_state_at m p)
  was = place-at m p (place-there m p s r found) h

  place : (k : ℕ) × (slice_get rows k ≡ Some r) × (r.segment ≡ s)
  place = found-row s rows r found

  pub over : IsTokenOver m.cells s.mask r.token
  over = subst (λ (t : Segment). IsTokenOver m.cells t.mask r.token) place.2
      (All-get (λ x. IsTokenOver m.cells x.segment.mask x.token) rows place.0 r (All-rows (λ x. IsTokenOver m.cells x.segment.mask x.token) rows was.tokens) place.1)

  -- a token of the state has few gaps
  pub row-gaps : IsTrue (gaps_fit r.token)
  row-gaps = over.gaps

  -- and what it covers is settled
  pub row-settled : HasSettled r.token m.cells
  row-settled = covered-settled m.cells r.token over.each

  abbrev test : ℕ → Bool
  test = is_fetchable whole s r.token m.cells most

  abbrev bound : ℕ
  bound = fetch_bound whole s r.token m.cells most

  none-below : (es : List Stored) → length (new_below whole s r.token es 0) ≡ 0
  none-below [] = refl
  none-below (e ∷ es) =
      let past : nat_lt e.index 0 ≡ false = grind (arith, nat_tests) in
      let fails : (is_new whole s r.token e && nat_lt e.index 0) ≡ false = ap (λ b. is_new whole s r.token e && b) past ∙ and-false (is_new whole s r.token e) in
      ap (λ b. length (if b then e ∷ new_below whole s r.token es 0 else new_below whole s r.token es 0)) fails ∙ none-below es

  starts : test 0 ≡ true
  starts =
      let least : nat_le 0 most ≡ true = grind (arith, nat_tests) in
      ap (λ n. nat_le n most && gaps_fit (advanced m.cells 0 r.token)) (none-below (events m.cells))
      ∙ ap (λ b. b && gaps_fit (advanced m.cells 0 r.token)) least
      ∙ ap gaps_fit (advanced-none m.cells r.token over.each) ∙ over.gaps

  few : gaps_fit (advanced m.cells bound r.token) ≡ true
  few = (both (nat_le (length (new_below whole s r.token (events m.cells) bound)) most) (gaps_fit (advanced m.cells bound r.token)) (largest-passes test (fetch_limit whole m.cells) starts)).1

  within : bound ≤ length m.cells
  within = let a : bound ≤ fetch_limit whole m.cells = largest-within test (fetch_limit whole m.cells) in let b : fetch_limit whole m.cells ≤ length m.cells = limit-within whole m.cells in omega arith

  abbrev b : Batch
  b = fetched_batch m p s most r

  covers-new : (h i : ℕ) → covers b.new s.mask h i ≡ (covers r.token s.mask h i || settles m.cells bound i)
  covers-new h i = covers-collapsed (advanced m.cells bound r.token) s.mask h i ∙ covers-advanced m.cells bound r.token s.mask h i

  prefixes : TokenPrefix whole (events m.cells) s b.new
  prefixes a e =
      ap is_prefix_test (same-tests (λ i. covers b.new s.mask (hash_in whole a) i) (λ i. covers r.token s.mask (hash_in whole a) i || nat_lt i bound) (stream_in a (events m.cells))
      (All-map (λ x. IsTrue (is_settled m.cells x.index)) (λ x. covers b.new s.mask (hash_in whole a) x.index ≡ (covers r.token s.mask (hash_in whole a) x.index || nat_lt x.index bound)) (λ x. test-at x.index) (stream_in a (events m.cells)) (settled-stream a m.cells)))
      ∙ prefix-grows (λ i. covers r.token s.mask (hash_in whole a) i) bound 0 (stream_in a (events m.cells)) (rising-stream a m.cells)
      (subst (λ (t : Segment). TokenPrefix whole (events m.cells) t r.token) place.2 (prefix-here whole (events m.cells) rows place.0 r was.parts place.1 was.folded.prefixes) a e)
    where
      test-at : (i : ℕ) → IsTrue (is_settled m.cells i) → covers b.new s.mask (hash_in whole a) i ≡ (covers r.token s.mask (hash_in whole a) i || nat_lt i bound)
      test-at i settled =
          covers-new (hash_in whole a) i
          ∙ ap (λ c. covers r.token s.mask (hash_in whole a) i || (nat_lt i bound && c)) settled
          ∙ ap (λ c. covers r.token s.mask (hash_in whole a) i || c) (and-swap (nat_lt i bound) true)

  pub standing : IsTrue (is_projection m.setting p) → IsStanding m.setting m.cells b r.token
  standing projection = record {
    old = refl;
    new = advance-adds m.cells bound within r.token over.each;
    token = token-advanced m.cells bound within s.mask r.token over few;
    prefixes = prefixes;
    gaps = λ asked. absurd (gaps-allowed m.setting p projection asked);
  }

  pub kept-fetched : IsTrue (is_projection m.setting p) → held_fence p s (desk_at m actor).held ≡ Some r.fence → IsWellFormed (fetched m actor b).state
  kept-fetched projection held =
      kept-batch m actor (Some b) (held-owned m.fence m.processor_states (actor_name m actor) (desk_at m actor) p s r.fence (seat-at m actor h) held)
      (record { declared = projection; rows = batch-here m b r found (standing projection) h }) h

-- ---- the step

pub kept-fetch : (m : State) (actor p : ℕ) (s : Segment) (most : ℕ) → IsTrue (is_projection m.setting p) → IsWellFormed m → IsWellFormed (fetch_at m actor p s most).state
kept-fetch m actor p s most projection h = kept-on_held_row m actor p s (λ r. fetched m actor (fetched_batch m p s most r)) h (λ r f held. kept-fetched m actor p s most r f h projection held)
