-- Token rows: what a processor keeps of each of its segments.
use Rattle.std.specs.Prelude.{◌≡◌, ℕ, zero, suc, ◌-◌, ◌^◌, ◌<◌, Bool, not, List, [], ◌∷◌, length, filter, find, Option, Some, None, IsTrue, nat_lt}
use Rattle.std.specs.List.{AllByRecursion}
use Rattle.std.specs.declared.cmp.Ordering.{Ordering}
use Rattle.ax_values.specs.Grammar.{Name}
use Rattle.ax_values.specs.Words.{put_rising, rises, place_where}
use Rattle.ax_segments.specs.Segments.{Segment, IsSegment, matches, same_segment, segment_cmp}
use Rattle.ax_tokens.specs.Tokens.{Token, start}

-- a segment, how far it is, who claimed it and when, and the fence of its last change of hands
pub record TokenRow : Type 0 where
  pub segment : Segment
  pub token : Token
  pub owner : Option Name
  pub since : ℕ
  pub fence : ℕ

-- rows stand by id, and then by mask
abbrev pub row_cmp : TokenRow → TokenRow → Ordering
row_cmp r s = segment_cmp r.segment s.segment

-- segments that share no hash differ in their ids
abbrev pub row_below : TokenRow → TokenRow → Bool
row_below r s = nat_lt r.segment.id s.segment.id

abbrev pub row_at : Segment → List TokenRow → Option TokenRow
row_at s rows = find (λ r. same_segment r.segment s) rows

-- the place of the segment's row
abbrev pub place_if : Option TokenRow → ℕ → Option ℕ
place_if None place = None
place_if (Some r) place = Some place

abbrev pub place_at : Segment → List TokenRow → Option ℕ
place_at s rows = place_if (row_at s rows) (place_where (λ r. same_segment r.segment s) rows)

-- the rows with one in the place of that of its segment
abbrev pub put_row : TokenRow → List TokenRow → List TokenRow
put_row = put_rising row_cmp

-- the rows without that of the segment
abbrev pub remove_row : Segment → List TokenRow → List TokenRow
remove_row s rows = filter (λ r. not (same_segment r.segment s)) rows

-- the row whose segment matches the hash
abbrev pub row_serving : ℕ → List TokenRow → Option TokenRow
row_serving h rows = find (λ r. matches r.segment h) rows

-- each hash of 32 bits is matched by one row
abbrev pub MatchOnce : List TokenRow → Type 0
MatchOnce rows = (h : ℕ) → h < 2 ^ 32 → length (filter (λ r. matches r.segment h) rows) ≡ 1

abbrev pub AreSegments : List TokenRow → Type 0
AreSegments rows = AllByRecursion (λ r. IsSegment r.segment) rows

pub record AreRows (rows : List TokenRow) : Type 0 where
  pub order : IsTrue (rises row_below rows)
  pub segments : AreSegments rows
  pub once : MatchOnce rows

-- n rows of the segments from id on, which have covered nothing and which nobody owns, with fences from one on
abbrev pub first_rows : ℕ → ℕ → ℕ → ℕ → List TokenRow
first_rows zero id mask fence = []
first_rows (suc n) id mask fence = record { segment = record { id = id; mask = mask }; token = start; owner = None; since = 0; fence = fence } ∷ first_rows n (suc id) mask (suc fence)

-- the rows of a processor that starts with n segments
abbrev pub starting : ℕ → ℕ → List TokenRow
starting n fence = first_rows n 0 (n - 1) fence
