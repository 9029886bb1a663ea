-- Lists that rise in a total order: what a put makes of them at the place that a search finds.
use Rattle.std.proofs.Common.{◌≡◌, ℕ, ◌<◌, ◌≤◌, true, List, length, get_or, set, sym, ap, ◌∙◌}
use Rattle.std.specs.Prelude.{insert}
use Rattle.std.specs.List.Sorted.{IsPartitionPoint}
use Rattle.std.specs.Ordering.{is_lt}
use Rattle.std.specs.Cmp.{IsTotalOrder, on_total}
use Rattle.std.specs.declared.cmp.Ordering.{Ordering}
use Rattle.std.specs.declared.cmp.Ordering.TheVariants.{Less, Equal, Greater}
use Rattle.std.proofs.lemmas.Cmp.{nat_list_cmp_total}
use Rattle.ax_values.specs.Words.{field_cmp, rises, put_rising}
use Rattle.ax_values.proofs.Rising.{put-found, put-none, rises-put}

pub field_total : IsTotalOrder field_cmp
field_total = on_total (λ f. f.name) nat_list_cmp_total

module _ {A : Type 0} (cmp : A → A → Ordering) (o : IsTotalOrder cmp) where
  abbrev pub Rises : List A → Type 0
  Rises xs = rises (λ x y. is_lt (cmp x y)) xs ≡ true

  -- the list after the put, which rises
  pub record IsPut (r : A) (xs new : List A) : Type 0 where
    pub same : new ≡ put_rising cmp r xs
    pub rising : Rises new

  -- in the place of an equal
  pub put-there : (r : A) (xs : List A) (i : ℕ) → Rises xs → i < length xs → cmp (get_or xs i r) r ≡ Equal → IsPut r xs (set xs i r)
  put-there r xs i h lt e =
      let made = put-found cmp o r xs i h lt e in record { same = sym made; rising = ap (rises (λ x y. is_lt (cmp x y))) (sym made) ∙ rises-put cmp o r xs h }

  -- where none is equal
  pub put-between : (r : A) (xs : List A) (i : ℕ) → Rises xs → i ≤ length xs → IsPartitionPoint (λ y. cmp y r ≡ Less) (λ y. cmp y r ≡ Greater) xs i → IsPut r xs (insert xs i r)
  put-between r xs i h le p =
      let made = put-none cmp o r xs i le p in record { same = sym made; rising = ap (rises (λ x y. is_lt (cmp x y))) (sym made) ∙ rises-put cmp o r xs h }
