-- The walk over the indexes that the old token does not cover for some hash: which of them are fetched.
use Rattle.std.proofs.Common.{◌≡◌, ℕ, min, ◌+◌, ◌<◌, ◌≤◌, List, [], ◌++◌, length, get_or, filter, Option, ◌∙◌, arith}
use Rattle.ax_values.specs.Grammar.{Name}
use Rattle.ax_values.specs.declared.cell.Cell.{Cell}
use Rattle.ax_log.specs.Log.{Stored, events}
use Rattle.ax_segments.specs.Segments.{Segment}
use Rattle.ax_tokens.specs.Tokens.{Token}
use Rattle.ax_step_work.specs.Reach.{IsCoveredBetween, IsOpenFrom, events_at}
use Rattle.ax_state.specs.Batches.{is_fetched}
use Rattle.ax_step_work.proofs.Reached.{fetched-covered, fetched-open}
use Rattle.ax_step_work.proofs.Walks.{passed, passed-same, passed-none, passed-all, grown}

pub end-within : (cells : List Cell) (last end i : ℕ) → end ≡ min last (length cells) → i < end → i < length cells
end-within cells last end i is lt = omega arith

module _ (whole : Option Name) (s : Segment) (old new : Token) (cells : List Cell) where
  abbrev pub fetched_below : ℕ → List Stored
  fetched_below b = passed (is_fetched whole s old new) (events cells) b

  pub fetched-start : (index : ℕ) → IsCoveredBetween old 0 index → fetched_below index ≡ []
  fetched-start index h = passed-same (is_fetched whole s old new) (events cells) 0 index (omega arith) (fetched-covered whole s old new 0 index h) ∙ passed-none (is_fetched whole s old new) (events cells)

  module _ (i next : ℕ) (c : Cell) (lt : i < length cells) (at : c ≡ get_or cells i c) (le : i + 1 ≤ next) (h : IsCoveredBetween old (i + 1) next) where
    pub fetched-grown : fetched_below next ≡ fetched_below i ++ events_at (is_fetched whole s old new) i c
    fetched-grown = grown (is_fetched whole s old new) cells i next c lt at le (fetched-covered whole s old new (i + 1) next h)

  pub fetched-all : (last end i : ℕ) → IsOpenFrom new last → end ≡ min last (length cells) → end ≤ i → fetched_below i ≡ filter (is_fetched whole s old new) (events cells)
  fetched-all last end i h is le = passed-all (is_fetched whole s old new) cells last end i is le (fetched-open whole s old new last h)
