-- Cells that grow: what is covered stays, and stays a prefix.
use Rattle.std.specs.Prelude.{◌≡◌, ℕ, ◌≤◌, Bool, true, false, IsTrue, IfSome, List, [], ◌∷◌, length, filter, find, Option, Some, if◌then◌else◌}
use Rattle.std.specs.List.{AllByRecursion}
use Rattle.std.proofs.Common.{sym, subst, arith}
use Rattle.ax_values.specs.Grammar.{Name}
use Rattle.ax_log.specs.Log.{Stored, events, is_settled}
use Rattle.ax_segments.specs.Segments.{matches, is_upper, half_mask}
use Rattle.ax_segments.specs.Sequences.{hash_in}
use Rattle.ax_tokens.specs.Plain.{Plain}
use Rattle.ax_tokens.specs.Tokens.{Token, plain, merged, replay, half, covers_here, covers, parts}
use Rattle.ax_state.specs.Setting.{Setting, whole_at}
use Rattle.ax_state.specs.State.{ProcessorState, Batch}
use Rattle.ax_state.specs.Positions.{first_in}
use Rattle.ax_state.specs.Portions.{Portion, portions, portion_covers, covered_by, covered_events}
use Rattle.ax_state.specs.WellFormed.{IsPlainOver, IsTokenOver, AreTokens, PassPrefix, HasRows, IsProcessorState, IsStanding, IsBatchRow, IsBatchAt, IsBatchIn}
use Rattle.ax_state.proofs.Lists.{All-map, All-left, All-right, AllFrom-map, IfSome-map}
use Rattle.ax_values.specs.declared.cell.Cell.{Cell}

-- settled cells stay settled, and what is read off the events at settled indexes stays
pub record IsGrowth (cells later : List Cell) : Type 0 where
  pub settled : (i : ℕ) → IsTrue (is_settled cells i) → IsTrue (is_settled later i)
  pub longer : length cells ≤ length later
  pub prefixes : (test : ℕ → Bool) → ((i : ℕ) → test i ≡ true → is_settled cells i ≡ true) → (a : Name) → PassPrefix test (events cells) a → PassPrefix test (events later) a
  pub filtered : (test : Name → ℕ → Bool) → ((a : Name) (i : ℕ) → test a i ≡ true → is_settled cells i ≡ true) → filter (λ e. test e.record_of.aggregate e.index) (events later) ≡ filter (λ e. test e.record_of.aggregate e.index) (events cells)

-- ---- no token covers a reserved cell

pub covers-settled : (cells : List Cell) (t : Token) (mask h i : ℕ) → AllByRecursion (IsPlainOver cells) (parts t) → covers t mask h i ≡ true → is_settled cells i ≡ true
covers-settled cells (plain p) mask h i all e = all.0.settled i e
covers-settled cells (merged l u) mask h i all e =
    at (is_upper mask h) e (covers-settled cells l (half_mask mask) h i (All-left (IsPlainOver cells) (parts l) (parts u) all)) (covers-settled cells u (half_mask mask) h i (All-right (IsPlainOver cells) (parts l) (parts u) all))
  where
    at : (b : Bool) → covers_here (if b then half u (half_mask mask) h else half l (half_mask mask) h) i ≡ true → (covers l (half_mask mask) h i ≡ true → is_settled cells i ≡ true) → (covers u (half_mask mask) h i ≡ true → is_settled cells i ≡ true)
        → is_settled cells i ≡ true
    at true e l u = u e
    at false e l u = l e
covers-settled cells (replay r c) mask h i all e = all.1.0.settled i e

pub covered-settled : (cells : List Cell) (ps : List Portion) (h i : ℕ) → AreTokens cells ps → covered_by ps h i ≡ true → is_settled cells i ≡ true
covered-settled cells [] h i all e = absurd (cc)
covered-settled cells (x ∷ xs) h i all e = at (matches x.segment h) e (covered-settled cells xs h i all.1)
  where
    at : (b : Bool) → portion_covers h i (if b then Some x else find (λ y. matches y.segment h) xs) ≡ true → (covered_by xs h i ≡ true → is_settled cells i ≡ true) → is_settled cells i ≡ true
    at true e again = covers-settled cells x.token x.segment.mask h i all.0.each e
    at false e again = again e

-- ---- tokens, processors and batches

module _ (cells later : List Cell) (g : IsGrowth cells later) where
  plain-later : (p : Plain) → IsPlainOver cells p → IsPlainOver later p
  plain-later p h = record {
    canonical = h.canonical;
    within = (let le : length cells ≤ length later = g.longer in let w : p.next ≤ length cells = h.within in omega arith);
    settled = λ i e. g.settled i (h.settled i e);
  }

  pub token-later : (mask : ℕ) (t : Token) → IsTokenOver cells mask t → IsTokenOver later mask t
  token-later mask t h = record { each = All-map (IsPlainOver cells) (IsPlainOver later) plain-later (parts t) h.each; masks = h.masks; gaps = h.gaps; stays = h.stays }

  -- what is covered stays
  pub covered-later : (whole : Option Name) (ps : List Portion) → AreTokens cells ps → covered_events whole ps (events later) ≡ covered_events whole ps (events cells)
  covered-later whole ps all = g.filtered (λ a i. covered_by ps (hash_in whole a) i) (λ a i. covered-settled cells ps (hash_in whole a) i all)

  pub place-later : (setting : Setting) (p : ℕ) (s : ProcessorState) → IsProcessorState setting cells p s → IsProcessorState setting later p s
  place-later setting p s h = record {
    parts = h.parts;
    tokens = All-map (λ x. IsTokenOver cells x.segment.mask x.token) (λ x. IsTokenOver later x.segment.mask x.token) (λ x. token-later x.segment.mask x.token) (portions s.rows) h.tokens;
    folded = record {
      prefixes = λ a. g.prefixes (λ i. covered_by (portions s.rows) (hash_in (whole_at setting p) a) i) (λ i. covered-settled cells (portions s.rows) (hash_in (whole_at setting p) a) i h.tokens) a (h.folded.prefixes a);
      rows = subst (λ (cs : List Stored). HasRows setting p cs (first_in (whole_at setting p) s.queue) s.drops) (sym (covered-later (whole_at setting p) (portions s.rows) h.tokens)) h.folded.rows;
    };
    gaps = h.gaps;
    replays = h.replays;
    owners = h.owners;
    parked = h.parked;
    bare = h.bare;
  }

  standing-later : (setting : Setting) (b : Batch) (t : Token) → IsStanding setting cells b t → IsStanding setting later b t
  standing-later setting b t h = record {
    old = h.old;
    new = record {
      added = h.new.added;
      bound = h.new.bound;
      within = h.new.within;
      settled = All-map (λ i. IsTrue (is_settled cells i)) (λ i. IsTrue (is_settled later i)) g.settled h.new.added h.new.settled;
      new_is = h.new.new_is;
    };
    token = token-later b.segment.mask b.new h.token;
    prefixes = λ a m. g.prefixes (λ i. covers b.new b.segment.mask (hash_in (whole_at setting b.processor) a) i) (λ i. covers-settled cells b.new b.segment.mask (hash_in (whole_at setting b.processor) a) i h.token.each) a (h.prefixes a m);
    gaps = h.gaps;
  }

  pub batch-later : (setting : Setting) (ss : List ProcessorState) (o : Option Batch) → IfSome o (IsBatchIn setting cells ss) → IfSome o (IsBatchIn setting later ss)
  batch-later setting ss o h = IfSome-map (IsBatchIn setting cells ss) (IsBatchIn setting later ss) (λ b k. record {
    declared = k.declared;
    rows = AllFrom-map (IsBatchAt setting cells b) (IsBatchAt setting later b) (λ q s at of. All-map (IsBatchRow setting cells b) (IsBatchRow setting later b) (λ r row seg fence. standing-later setting b r.token (row seg fence)) s.rows (at of)) 0 ss k.rows;
  }) o h
