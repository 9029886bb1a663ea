-- Bases of batches over cells that grow: they stay bases of the log.
use Rattle.std.specs.Prelude.{◌≡◌, not, ◌&&◌, IfSome, List, flat_map, Option}
use Rattle.std.specs.List.{AllByRecursion}
use Rattle.std.proofs.Common.{sym, ap, ◌∙◌}
use Rattle.ax_laws.proofs.Tests.{both}
use Rattle.ax_values.specs.Grammar.{Name}
use Rattle.ax_log.specs.Log.{Stored, events}
use Rattle.ax_segments.specs.Segments.{matches}
use Rattle.ax_segments.specs.Sequences.{hash_in}
use Rattle.ax_tokens.specs.Tokens.{covers}
use Rattle.ax_basis.specs.Basis.{Basis}
use Rattle.ax_projections.specs.Items.{placed_items}
use Rattle.ax_state.specs.Setting.{Setting, whole_at, projection_at}
use Rattle.ax_state.specs.State.{Batch}
use Rattle.ax_state.specs.WellFormed.{IsTokenOver}
use Rattle.ax_state.specs.Batches.{IsBasisOf, batch_of, fetched_events, known_events, one_portion, batch_items, shares_among, member_by, member_of}
use Rattle.ax_state.proofs.Growth.{IsGrowth, token-later, covered-later, covers-settled}
use Rattle.ax_state.proofs.Lists.{All-map, IfSome-map}
use Rattle.ax_values.specs.declared.cell.Cell.{Cell}

module _ (cells later : List Cell) (g : IsGrowth cells later) where
  -- the fetched events stay
  pub fetched-later : (whole : Option Name) (b : Batch) → IsTokenOver cells b.segment.mask b.new → fetched_events whole b (events later) ≡ fetched_events whole b (events cells)
  fetched-later whole b new =
      g.filtered (λ a i. matches b.segment (hash_in whole a) && (covers b.new b.segment.mask (hash_in whole a) i && not (covers b.old b.segment.mask (hash_in whole a) i)))
      (λ a i e. covers-settled cells b.new b.segment.mask (hash_in whole a) i new.each
      (both (covers b.new b.segment.mask (hash_in whole a) i) (not (covers b.old b.segment.mask (hash_in whole a) i))
      (both (matches b.segment (hash_in whole a)) (covers b.new b.segment.mask (hash_in whole a) i && not (covers b.old b.segment.mask (hash_in whole a) i)) e).1).0)

  -- so do the events that were handled before
  known-later : (whole : Option Name) (b : Batch) → IsTokenOver cells b.segment.mask b.old → known_events whole b (events later) ≡ known_events whole b (events cells)
  known-later whole b old = covered-later cells later g whole (one_portion b.segment b.old) (old, tt)

  pub basis-later : (setting : Setting) (x : Basis) → IsBasisOf setting cells x → IsBasisOf setting later x
  basis-later setting x h =
      let whole = whole_at setting x.processor in
      let rules = projection_at setting x.processor in
      record {
        old = token-later cells later g x.segment.mask x.old h.old;
        new = token-later cells later g x.segment.mask x.new h.new;
        keep = h.keep;
        shares = h.shares
            ∙ ap (λ (es : List Stored). shares_among whole (batch_of x) (member_of whole rules setting.sheet.chain (batch_of x) (events cells)) (flat_map (placed_items setting.sheet.chain) es)) (sym (fetched-later whole (batch_of x) h.new))
            ∙ ap (λ (known : List Stored). shares_among whole (batch_of x) (λ a. member_by rules setting.sheet.chain known a) (batch_items whole setting.sheet.chain (batch_of x) (events later))) (sym (known-later whole (batch_of x) h.old));
      }

  pub bases-later : (setting : Setting) (os : List (Option Basis)) → AllByRecursion (λ o. IfSome o (IsBasisOf setting cells)) os → AllByRecursion (λ o. IfSome o (IsBasisOf setting later)) os
  bases-later setting os h = All-map (λ o. IfSome o (IsBasisOf setting cells)) (λ o. IfSome o (IsBasisOf setting later)) (λ o k. IfSome-map (IsBasisOf setting cells) (IsBasisOf setting later) (λ x. basis-later setting x) o k) os h
