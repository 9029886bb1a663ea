-- What a commit adds to the covered items of each aggregate.
use Rattle.std.proofs.Common.{◌≡◌, ℕ, ◌&&◌, Bool, true, false, not, List, [], ◌++◌, filter, flat_map, Option, Some, slice_get, sym, ap, ◌∙◌}
use Rattle.std.proofs.lemmas.Grind.{flat_map-append}
use Rattle.ax_values.specs.Grammar.{Name}
use Rattle.ax_log.specs.Log.{Stored, stream_in}
use Rattle.ax_segments.specs.Segments.{Segment, matches}
use Rattle.ax_segments.specs.Sequences.{hash_in}
use Rattle.ax_segments.proofs.HashLaws.{hash_in-small}
use Rattle.ax_tokens.specs.Tokens.{covers}
use Rattle.ax_projections.specs.Items.{placed_items}
use Rattle.ax_claims.specs.Rows.{TokenRow, put_row}
use Rattle.ax_state.specs.State.{Batch}
use Rattle.ax_state.specs.Portions.{portions, covered_by, covered_events, items_in}
use Rattle.ax_state.specs.WellFormed.{AreParts, CoverPrefix}
use Rattle.ax_state.proofs.Coverage.{IsChanged, changed, covered-here, prefix-same}
use Rattle.ax_state.proofs.Prefixes.{same-filter, covered-stream}
use Rattle.ax_state.specs.Batches.{batch_items}
use Rattle.ax_step_work.proofs.Folding.{share_of, covered-split}
use Rattle.ax_step_work.proofs.Known.{share-stream, none-taken}
use Rattle.ax_upcast.specs.declared.upcaster.Upcaster.{Upcaster}

-- what a processor has covered of an aggregate after a batch: what it had, and the batch's share
pub record IsAdded (whole : Option Name) (chain : List Upcaster) (es : List Stored) (rows later : List TokenRow) (b : Batch) : Type 0 where
  pub mine : (a : Name) → matches b.segment (hash_in whole a) ≡ true → items_in chain (covered_events whole (portions later) es) a ≡ items_in chain (covered_events whole (portions rows) es) a ++ share_of a (batch_items whole chain b es)
  pub others : (a : Name) → matches b.segment (hash_in whole a) ≡ false → items_in chain (covered_events whole (portions later) es) a ≡ items_in chain (covered_events whole (portions rows) es) a
  pub none : (a : Name) → matches b.segment (hash_in whole a) ≡ false → share_of a (batch_items whole chain b es) ≡ []

pub items-added : (whole : Option Name) (chain : List Upcaster) (es : List Stored) (rows : List TokenRow) (k : ℕ) (r n : TokenRow) (b : Batch) → AreParts (portions rows) → CoverPrefix whole es (portions rows) → slice_get rows k ≡ Some r
    → r.segment ≡ b.segment → b.old ≡ r.token → n.segment ≡ r.segment → n.token ≡ b.new → ((mask h i : ℕ) → covers b.old mask h i ≡ true → covers b.new mask h i ≡ true) → IsAdded whole chain es rows (put_row n rows) b
items-added whole chain es rows k r n b parts prefixes at seg old same new more = record {
  mine = λ a m.
      ap (flat_map (placed_items chain)) (covered-stream whole (portions (put_row n rows)) a es
      ∙ tests-are a (λ i. covered_by (portions (put_row n rows)) (hash_in whole a) i) (λ i. covers b.new b.segment.mask (hash_in whole a) i) (λ i. later-here a m i)
      ∙ covered-split (λ i. covers b.old b.segment.mask (hash_in whole a) i) (λ i. covers b.new b.segment.mask (hash_in whole a) i) (stream_in a es) (λ i. more b.segment.mask (hash_in whole a) i)
      (prefix-same (λ i. covers b.old b.segment.mask (hash_in whole a) i) (λ i. covered_by (portions rows) (hash_in whole a) i) es a (λ i. sym (earlier-here a m i)) (prefixes a)))
      ∙ flat_map-append (placed_items chain) (filter (λ e. covers b.old b.segment.mask (hash_in whole a) e.index) (stream_in a es)) (filter (λ e. covers b.new b.segment.mask (hash_in whole a) e.index && not (covers b.old b.segment.mask (hash_in whole a) e.index)) (stream_in a es))
      ∙ ap (λ xs. xs ++ flat_map (placed_items chain) (filter (λ e. covers b.new b.segment.mask (hash_in whole a) e.index && not (covers b.old b.segment.mask (hash_in whole a) e.index)) (stream_in a es)))
      (ap (flat_map (placed_items chain)) (sym (covered-stream whole (portions rows) a es ∙ tests-are a (λ i. covered_by (portions rows) (hash_in whole a) i) (λ i. covers b.old b.segment.mask (hash_in whole a) i) (λ i. earlier-here a m i))))
      ∙ ap (λ ys. items_in chain (covered_events whole (portions rows) es) a ++ ys)
      (sym (share-stream whole chain es b a ∙ ap (λ c. flat_map (placed_items chain) (filter (λ e. c && (covers b.new b.segment.mask (hash_in whole a) e.index && not (covers b.old b.segment.mask (hash_in whole a) e.index))) (stream_in a es))) m));
  others = λ a m.
      ap (flat_map (placed_items chain)) (covered-stream whole (portions (put_row n rows)) a es
      ∙ tests-are a (λ i. covered_by (portions (put_row n rows)) (hash_in whole a) i) (λ i. covered_by (portions rows) (hash_in whole a) i) (λ i. put.other (hash_in whole a) i (ap (λ t. matches t (hash_in whole a)) (same ∙ seg) ∙ m))
      ∙ sym (covered-stream whole (portions rows) a es));
  none = λ a m. none-taken whole chain es b a m;
}
  where
    put : IsChanged rows (put_row n rows) n
    put = changed rows k r n parts at same

    tests-are : (a : Name) (f g : ℕ → Bool) → ((i : ℕ) → f i ≡ g i) → filter (λ e. f e.index) (stream_in a es) ≡ filter (λ e. g e.index) (stream_in a es)
    tests-are a f g h = same-filter (λ (e : Stored). f e.index) (λ e. g e.index) (stream_in a es) (λ e. h e.index)

    later-here : (a : Name) → matches b.segment (hash_in whole a) ≡ true → (i : ℕ) → covered_by (portions (put_row n rows)) (hash_in whole a) i ≡ covers b.new b.segment.mask (hash_in whole a) i
    later-here a m i =
        put.here (hash_in whole a) i (hash_in-small whole a) (ap (λ t. matches t (hash_in whole a)) (same ∙ seg) ∙ m)
        ∙ ap (λ t. covers t n.segment.mask (hash_in whole a) i) new ∙ ap (λ (t : Segment). covers b.new t.mask (hash_in whole a) i) (same ∙ seg)

    earlier-here : (a : Name) → matches b.segment (hash_in whole a) ≡ true → (i : ℕ) → covered_by (portions rows) (hash_in whole a) i ≡ covers b.old b.segment.mask (hash_in whole a) i
    earlier-here a m i =
        covered-here rows k r (hash_in whole a) i parts at (hash_in-small whole a) (ap (λ t. matches t (hash_in whole a)) seg ∙ m)
        ∙ ap (λ t. covers t r.segment.mask (hash_in whole a) i) (sym old) ∙ ap (λ (t : Segment). covers b.old t.mask (hash_in whole a) i) seg
