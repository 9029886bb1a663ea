-- Fields that rise by name: where a put happens, and what a field that is taken out leaves.
use Rattle.std.proofs.Common.{◌≡◌, ℕ, ◌<◌, ◌≤◌, true, List, length, get_or, set, sym, ap, ◌∙◌}
use Rattle.std.specs.Prelude.{insert, remove}
use Rattle.std.specs.List.Sorted.{IsPartitionPoint}
use Rattle.std.specs.Cmp.{IsTotalOrder, on_total}
use Rattle.std.specs.declared.cmp.Ordering.TheVariants.{Less, Equal, Greater}
use Rattle.std.proofs.lemmas.Cmp.{nat_list_cmp_total, tied_itself}
use Rattle.ax_values.specs.Words.{field_cmp, field_below, rises, put_rising}
use Rattle.ax_values.specs.declared.value.Field.{Field}
use Rattle.ax_values.proofs.Rising.{put-found, put-none, remove-found, rises-put, rises-remove}

pub field_total : IsTotalOrder field_cmp
field_total = on_total (λ f. f.name) nat_list_cmp_total

-- at a field with its name
pub put-there : (f : Field) (fs : List Field) (i : ℕ) → rises field_below fs ≡ true → i < length fs → field_cmp (get_or fs i f) f ≡ Equal
    → (set fs i f ≡ put_rising field_cmp f fs) × (rises field_below (set fs i f) ≡ true)
put-there f fs i r lt e =
    let same = sym (put-found field_cmp field_total f fs i r lt e) in (same, ap (rises field_below) same ∙ rises-put field_cmp field_total f fs r)

-- elsewhere
pub put-between : (f : Field) (fs : List Field) (i : ℕ) → rises field_below fs ≡ true → i ≤ length fs → IsPartitionPoint (λ y. field_cmp y f ≡ Less) (λ y. field_cmp y f ≡ Greater) fs i
    → (insert fs i f ≡ put_rising field_cmp f fs) × (rises field_below (insert fs i f) ≡ true)
put-between f fs i r le p =
    let same = sym (put-none field_cmp field_total f fs i le p) in (same, ap (rises field_below) same ∙ rises-put field_cmp field_total f fs r)

-- without the field at a place
pub rises-taken : (fs : List Field) (i : ℕ) (f : Field) → i < length fs → f ≡ get_or fs i f → rises field_below fs ≡ true → rises field_below (remove fs i) ≡ true
rises-taken fs i f lt e r =
    let equal : field_cmp (get_or fs i f) f ≡ Equal = ap (λ g. field_cmp g f) (sym e) ∙ tied_itself field_total f in
    ap (rises field_below) (sym (remove-found field_cmp field_total f fs i r lt equal)) ∙ rises-remove field_cmp field_total f fs r
