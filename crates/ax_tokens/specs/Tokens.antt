-- Tokens: sets of indexes, one for each hash.
use Rattle.std.specs.Prelude.{◌^◌, ◌<◌, ℕ, suc, Bool, true, false, not, ◌&&◌, ◌||◌, List, [], ◌∷◌, ◌++◌, length, max, nat_lt, nat_le, IsTrue, if◌then◌else◌}
use Rattle.ax_values.specs.declared.cell.Cell.{Cell}
use Rattle.ax_segments.specs.Segments.{Segment, matches, half_mask, is_upper, max_mask}
use Rattle.ax_tokens.specs.Plain.{Plain, has, is_canonical_plain, nothing, union, advanced_plain, includes, same_plain}

pub data Token : Type 0 where
  plain : Plain → Token
  merged : (lower upper : Token) → Token
  replay : (at_reset current : Plain) → Token

-- ---- the half that serves a hash, under a mask

abbrev pub half : Token → ℕ → ℕ → Token
half (plain p) mask h = plain p
half (merged l u) mask h = if is_upper mask h then half u (half_mask mask) h else half l (half_mask mask) h
half (replay r c) mask h = replay r c

abbrev pub covers_here : Token → ℕ → Bool
covers_here (plain p) i = has p i
covers_here (merged l u) i = false
covers_here (replay r c) i = has c i

abbrev pub replays_here : Token → ℕ → Bool
replays_here (plain p) i = false
replays_here (merged l u) i = false
replays_here (replay r c) i = has r i

-- whether the token, under the mask, covers the index for the hash
abbrev pub covers : Token → ℕ → ℕ → ℕ → Bool
covers t mask h i = covers_here (half t mask h) i

-- whether the half of the hash is a replay whose first part has the index
abbrev pub replays : Token → ℕ → ℕ → ℕ → Bool
replays t mask h i = replays_here (half t mask h) i

-- whether the hash has met the index, now or before the reset
abbrev pub meets : Token → ℕ → ℕ → ℕ → Bool
meets t mask h i = covers t mask h i || replays t mask h i

-- ---- changes

abbrev pub start : Token
start = plain nothing

abbrev pub advanced : List Cell → ℕ → Token → Token
advanced cells b (plain p) = plain (advanced_plain cells b p)
advanced cells b (merged l u) = merged (advanced cells b l) (advanced cells b u)
advanced cells b (replay r c) = replay r (advanced_plain cells b c)

-- the indexes of all plain halves, and of both parts of all replays
abbrev pub ever_covered : Token → Plain
ever_covered (plain p) = p
ever_covered (merged l u) = union (ever_covered l) (ever_covered u)
ever_covered (replay r c) = union r c

abbrev pub reset : Token → Token
reset t = replay (ever_covered t) nothing

abbrev pub lower_part : Token → Token
lower_part (plain p) = plain p
lower_part (merged l u) = l
lower_part (replay r c) = replay r c

abbrev pub upper_part : Token → Token
upper_part (plain p) = plain p
upper_part (merged l u) = u
upper_part (replay r c) = replay r c

-- ---- collapsing

-- a replay that has covered all of its first part is plain
abbrev pub caught_up : Plain → Plain → Token
caught_up r c = if includes c r then plain c else replay r c

-- whether two halves are equal, and plain or replays
abbrev pub joins : Token → Token → Bool
joins (plain p) (plain q) = same_plain p q
joins (replay r c) (replay s d) = same_plain r s && same_plain c d
joins l u = false

-- two such halves become one
abbrev pub joined : Token → Token → Token
joined l u = if joins l u then l else merged l u

-- the innermost parts first
abbrev pub collapsed : Token → Token
collapsed (plain p) = plain p
collapsed (merged l u) = joined (collapsed l) (collapsed u)
collapsed (replay r c) = caught_up r c

-- whether nowhere in it two such halves are left, or a replay that has covered all of its first part
abbrev pub is_collapsed : Token → Bool
is_collapsed (plain p) = true
is_collapsed (merged l u) = (is_collapsed l && is_collapsed u) && not (joins l u)
is_collapsed (replay r c) = not (includes c r)

-- ---- parts

abbrev pub parts : Token → List Plain
parts (plain p) = p ∷ []
parts (merged l u) = parts l ++ parts u
parts (replay r c) = r ∷ c ∷ []

abbrev pub is_canonical : Token → Bool
is_canonical (plain p) = is_canonical_plain p
is_canonical (merged l u) = is_canonical l && is_canonical u
is_canonical (replay r c) = is_canonical_plain r && is_canonical_plain c

-- whether each bound has 32 bits
abbrev pub is_small : Token → Bool
is_small (plain p) = nat_lt p.next (2 ^ 32)
is_small (merged l u) = is_small l && is_small u
is_small (replay r c) = nat_lt r.next (2 ^ 32) && nat_lt c.next (2 ^ 32)

-- what the types keep
pub record IsKept (t : Token) : Type 0 where
  pub canonical : IsTrue (is_canonical t)
  pub small : IsTrue (is_small t)

abbrev pub max_gaps : ℕ
max_gaps = 1000

abbrev pub gaps_fit : Token → Bool
gaps_fit (plain p) = nat_le (length p.gaps) max_gaps
gaps_fit (merged l u) = gaps_fit l && gaps_fit u
gaps_fit (replay r c) = nat_le (length r.gaps) max_gaps && nat_le (length c.gaps) max_gaps

-- whether some half has not covered the index
abbrev pub misses : Token → ℕ → Bool
misses (plain p) i = not (has p i)
misses (merged l u) i = misses l i || misses u i
misses (replay r c) i = not (has c i)

-- whether, under the mask, each half stands under a mask of the grammar
abbrev pub masks_fit : ℕ → Token → Bool
masks_fit mask (plain p) = nat_le mask max_mask
masks_fit mask (merged l u) = masks_fit (half_mask mask) l && masks_fit (half_mask mask) u
masks_fit mask (replay r c) = nat_le mask max_mask

-- how many halves stand within one another, at most
abbrev pub depth : Token → ℕ
depth (plain p) = 0
depth (merged l u) = suc (max (depth l) (depth u))
depth (replay r c) = 0

-- ---- what some hash of a segment has met

-- a hash of 32 bits of the segment that has met the index
pub record IsMet (t : Token) (s : Segment) (i : ℕ) : Type 0 where
  pub hash : ℕ
  pub small : hash < 2 ^ 32
  pub matching : IsTrue (matches s hash)
  pub met : IsTrue (meets t s.mask hash i)
