-- What rows cover after one of them is put in the place of that of its segment, and prefixes of streams.
use Rattle.std.proofs.Common.{◌≡◌, ℕ, zero, suc, ◌<◌, ◌≤◌, ◌^◌, Bool, true, false, List, [], ◌∷◌, find, length, filter, Option, Some, slice_get, slice_set, if◌then◌else◌, refl, sym, ap, ◌∙◌, subst, arith}
use Rattle.ax_values.specs.Grammar.{Name}
use Rattle.ax_laws.proofs.Lists.{map-same}
use Rattle.ax_log.specs.Log.{Stored, stream_in}
use Rattle.ax_segments.specs.Segments.{matches}
use Rattle.ax_segments.specs.Sequences.{hash_in}
use Rattle.ax_segments.proofs.HashLaws.{hash_in-small}
use Rattle.ax_tokens.specs.Tokens.{covers}
use Rattle.ax_claims.specs.Rows.{TokenRow, put_row}
use Rattle.ax_state.specs.Portions.{Portion, portion_of, portions, portion_covers, covered_by}
use Rattle.ax_state.specs.WellFormed.{AreParts, PassPrefix, CoverPrefix, TokenPrefix, is_prefix_test}
use Rattle.ax_state.proofs.RowPuts.{put-set}

-- ---- tests that agree

pub prefix-same : (f g : ℕ → Bool) (es : List Stored) (a : Name) → ((i : ℕ) → f i ≡ g i) → PassPrefix g es a → PassPrefix f es a
prefix-same f g es a same h = ap is_prefix_test (map-same (λ (e : Stored). f e.index) (λ e. g e.index) (λ e. same e.index) (stream_in a es)) ∙ h

-- ---- what is found

module _ (t : Portion → Bool) (n : TokenRow) where
  some-pass : (xs : List TokenRow) (k : ℕ) (r : TokenRow) → slice_get xs k ≡ Some r → t (portion_of r) ≡ true → 1 ≤ length (filter t (portions xs))
  some-pass [] k r e h = absurd (cc)
  some-pass (x ∷ xs) zero r e h =
      let is : x ≡ r = cc in let yes : t (portion_of x) ≡ true = ap (λ y. t (portion_of y)) is ∙ h in
      subst (λ b. 1 ≤ length (if b then portion_of x ∷ filter t (portions xs) else filter t (portions xs))) (sym yes) (omega arith)
  some-pass (x ∷ xs) (suc k) r e h =
      let ih : 1 ≤ length (filter t (portions xs)) = some-pass xs k r e h in
      elim (t (portion_of x)) as (λ b. 1 ≤ length (if b then portion_of x ∷ filter t (portions xs) else filter t (portions xs))) [ true ↦ omega arith | false ↦ ih ]

  found-at : (b : Bool) (x : TokenRow) (xs : List TokenRow) (k : ℕ) (r : TokenRow) → t (portion_of x) ≡ b → slice_get xs k ≡ Some r → t (portion_of r) ≡ true → length (if b then portion_of x ∷ filter t (portions xs) else filter t (portions xs)) ≤ 1
      → (length (filter t (portions xs)) ≤ 1 → find t (portions (slice_set xs k n)) ≡ Some (portion_of n)) → find t (portion_of x ∷ portions (slice_set xs k n)) ≡ Some (portion_of n)
  found-at true x xs k r e g h one again = let more : 1 ≤ length (filter t (portions xs)) = some-pass xs k r g h in absurd (omega arith)
  found-at false x xs k r e g h one again = ap (λ b. if b then Some (portion_of x) else find t (portions (slice_set xs k n))) e ∙ again one

  find-here : (xs : List TokenRow) (k : ℕ) (r : TokenRow) → slice_get xs k ≡ Some r → t (portion_of r) ≡ true → t (portion_of n) ≡ true → length (filter t (portions xs)) ≤ 1 → find t (portions (slice_set xs k n)) ≡ Some (portion_of n)
  find-here [] k r e h g one = absurd (cc)
  find-here (x ∷ xs) zero r e h g one = ap (λ b. if b then Some (portion_of n) else find t (portions xs)) g
  find-here (x ∷ xs) (suc k) r e h g one = found-at (t (portion_of x)) x xs k r refl e h one (λ o. find-here xs k r e h g o)

  find-other : (xs : List TokenRow) (k : ℕ) (r : TokenRow) → slice_get xs k ≡ Some r → t (portion_of r) ≡ false → t (portion_of n) ≡ false → find t (portions (slice_set xs k n)) ≡ find t (portions xs)
  find-other [] k r e h g = refl
  find-other (x ∷ xs) zero r e h g =
      let is : x ≡ r = cc in let differ : t (portion_of x) ≡ false = ap (λ y. t (portion_of y)) is ∙ h in
      ap (λ b. if b then Some (portion_of n) else find t (portions xs)) g ∙ sym (ap (λ b. if b then Some (portion_of x) else find t (portions xs)) differ)
  find-other (x ∷ xs) (suc k) r e h g = ap (λ o. if t (portion_of x) then Some (portion_of x) else o) (find-other xs k r e h g)

-- ---- what is covered

-- a hash that a row's segment matches is served by that row's token
pub covered-here : (rows : List TokenRow) (k : ℕ) (r : TokenRow) (h i : ℕ) → AreParts (portions rows) → slice_get rows k ≡ Some r → h < 2 ^ 32 → matches r.segment h ≡ true → covered_by (portions rows) h i ≡ covers r.token r.segment.mask h i
covered-here rows k r h i parts e small m =
    let one : length (filter (λ x. matches x.segment h) (portions rows)) ≡ 1 = parts.once h small in
    ap (λ rs. covered_by (portions rs) h i) (sym (same rows k r e))
    ∙ ap (portion_covers h i) (find-here (λ x. matches x.segment h) r rows k r e m m (omega arith))
  where
    same : (rows : List TokenRow) (k : ℕ) (r : TokenRow) → slice_get rows k ≡ Some r → slice_set rows k r ≡ rows
    same [] k r e = refl
    same (x ∷ xs) zero r e = let is : x ≡ r = cc in ap (λ y. y ∷ xs) (sym is)
    same (x ∷ xs) (suc k) r e = ap (λ ys. x ∷ ys) (same xs k r e)

-- a hash is served by the row that is put, where its segment matches it, and else as before
pub record IsChanged (rows later : List TokenRow) (n : TokenRow) : Type 0 where
  pub here : (h i : ℕ) → h < 2 ^ 32 → matches n.segment h ≡ true → covered_by (portions later) h i ≡ covers n.token n.segment.mask h i
  pub other : (h i : ℕ) → matches n.segment h ≡ false → covered_by (portions later) h i ≡ covered_by (portions rows) h i

pub changed : (rows : List TokenRow) (k : ℕ) (r n : TokenRow) → AreParts (portions rows) → slice_get rows k ≡ Some r → n.segment ≡ r.segment → IsChanged rows (put_row n rows) n
changed rows k r n parts e s = record {
  here = λ h i small m. (let one : length (filter (λ x. matches x.segment h) (portions rows)) ≡ 1 = parts.once h small in
      ap (λ rs. covered_by (portions rs) h i) set ∙ ap (portion_covers h i) (find-here (λ x. matches x.segment h) n rows k r e (ap (λ t. matches t h) (sym s) ∙ m) m (omega arith)));
  other = λ h i m. ap (λ rs. covered_by (portions rs) h i) set ∙ ap (portion_covers h i) (find-other (λ x. matches x.segment h) n rows k r e (ap (λ t. matches t h) (sym s) ∙ m) m);
}
  where
    set : put_row n rows ≡ slice_set rows k n
    set = put-set rows k r n parts e s

-- ---- prefixes

module _ (whole : Option Name) (es : List Stored) (rows : List TokenRow) (k : ℕ) (r : TokenRow) (parts : AreParts (portions rows)) (at : slice_get rows k ≡ Some r) (prefixes : CoverPrefix whole es (portions rows)) where
  -- of each row
  pub prefix-here : TokenPrefix whole es r.segment r.token
  prefix-here a m =
      prefix-same (λ i. covers r.token r.segment.mask (hash_in whole a) i) (λ i. covered_by (portions rows) (hash_in whole a) i) es a
      (λ i. sym (covered-here rows k r (hash_in whole a) i parts at (hash_in-small whole a) m)) (prefixes a)

  -- the row that is put brings its own
  pub prefix-put : (n : TokenRow) → n.segment ≡ r.segment → TokenPrefix whole es n.segment n.token → CoverPrefix whole es (portions (put_row n rows))
  prefix-put n same new a = by (matches n.segment (hash_in whole a)) refl
    where
      put : IsChanged rows (put_row n rows) n
      put = changed rows k r n parts at same

      by : (b : Bool) → matches n.segment (hash_in whole a) ≡ b → PassPrefix (λ i. covered_by (portions (put_row n rows)) (hash_in whole a) i) es a
      by true m =
          prefix-same (λ i. covered_by (portions (put_row n rows)) (hash_in whole a) i) (λ i. covers n.token n.segment.mask (hash_in whole a) i) es a
          (λ i. put.here (hash_in whole a) i (hash_in-small whole a) m) (new a m)
      by false m =
          prefix-same (λ i. covered_by (portions (put_row n rows)) (hash_in whole a) i) (λ i. covered_by (portions rows) (hash_in whole a) i) es a
          (λ i. put.other (hash_in whole a) i m) (prefixes a)
