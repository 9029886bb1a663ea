-- Tokens that are collapsed, cut into their parts for the halves of a segment, or merged: what is kept of a token holds of them too.
use Rattle.std.proofs.Common.{◌≡◌, ℕ, ◌≤◌, ◌==◌, Bool, true, false, IsTrue, List, [], ◌∷◌, ◌++◌, length, if◌then◌else◌, refl, sym, ap, arith, nat_le}
use Rattle.std.specs.List.{AllByRecursion, list_all}
use Rattle.std.proofs.lemmas.Bool.Decides.{nat_tests}
use Rattle.ax_laws.proofs.Tests.{both, and-true}
use Rattle.ax_segments.specs.Segments.{half_mask, max_mask}
use Rattle.ax_tokens.specs.Plain.{Plain, includes}
use Rattle.ax_tokens.specs.Tokens.{Token, plain, merged, replay, parts, half, covers, covers_here, collapsed, caught_up, joins, joined, lower_part, upper_part, gaps_fit, masks_fit, max_gaps}
use Rattle.ax_tokens.specs.Meaning.{IsPartFor}
use Rattle.ax_tokens.proofs.Changes.{is_collapsed-collapsed, collapsed-is}
use Rattle.ax_state.specs.Setting.{Setting, is_saga, needs_no_gaps}
use Rattle.ax_state.specs.WellFormed.{IsPlainOver, IsTokenOver, has_no_gaps, has_no_replay}
use Rattle.ax_state.proofs.Lists.{All-left, All-right, All-append}
use Rattle.ax_values.specs.declared.cell.Cell.{Cell}

-- ---- collapsed

joined-parts : (P : Plain → Type 0) (l u : Token) → AllByRecursion P (parts l) → AllByRecursion P (parts u) → AllByRecursion P (parts (joined l u))
joined-parts P l u h k = elim (joins l u) as (λ c. AllByRecursion P (parts (if c then l else merged l u))) [ true ↦ h | false ↦ All-append P (parts l) (parts u) h k ]

caught-parts : (P : Plain → Type 0) (r c : Plain) → P r → P c → AllByRecursion P (parts (caught_up r c))
caught-parts P r c h k = elim (includes c r) as (λ d. AllByRecursion P (parts (if d then plain c else replay r c))) [ true ↦ (k, tt) | false ↦ (h, (k, tt)) ]

pub collapsed-parts : (P : Plain → Type 0) (t : Token) → AllByRecursion P (parts t) → AllByRecursion P (parts (collapsed t))
collapsed-parts P (plain p) h = h
collapsed-parts P (merged l u) h =
    joined-parts P (collapsed l) (collapsed u) (collapsed-parts P l (All-left P (parts l) (parts u) h)) (collapsed-parts P u (All-right P (parts l) (parts u) h))
collapsed-parts P (replay r c) h = caught-parts P r c h.0 h.1.0

collapsed-gaps : (t : Token) → gaps_fit t ≡ true → gaps_fit (collapsed t) ≡ true
collapsed-gaps (plain p) h = h
collapsed-gaps (merged l u) h = at (joins (collapsed l) (collapsed u)) (collapsed-gaps l (both (gaps_fit l) (gaps_fit u) h).0) (collapsed-gaps u (both (gaps_fit l) (gaps_fit u) h).1)
  where
    at : (c : Bool) → gaps_fit (collapsed l) ≡ true → gaps_fit (collapsed u) ≡ true → gaps_fit (if c then collapsed l else merged (collapsed l) (collapsed u)) ≡ true
    at true x y = x
    at false x y = rw x y
collapsed-gaps (replay r c) h = elim (includes c r) as (λ d. gaps_fit (if d then plain c else replay r c) ≡ true) [ true ↦ (both (nat_le (length r.gaps) max_gaps) (nat_le (length c.gaps) max_gaps) h).1 | false ↦ h ]

higher : (mask : ℕ) → nat_le (half_mask mask) max_mask ≡ true → nat_le mask max_mask ≡ true
higher mask h = grind (arith, nat_tests)

joined-masks : (mask : ℕ) (l u : Token) (c : Bool) → joins l u ≡ c → masks_fit (half_mask mask) l ≡ true → masks_fit (half_mask mask) u ≡ true → masks_fit mask (if c then l else merged l u) ≡ true
joined-masks mask l u false e h k = rw h k
joined-masks mask (plain p) u true e h k = higher mask h
joined-masks mask (merged x y) u true e h k = absurd (cc)
joined-masks mask (replay r c) u true e h k = higher mask h

collapsed-masks : (t : Token) (mask : ℕ) → masks_fit mask t ≡ true → masks_fit mask (collapsed t) ≡ true
collapsed-masks (plain p) mask h = h
collapsed-masks (merged l u) mask h =
    let k = both (masks_fit (half_mask mask) l) (masks_fit (half_mask mask) u) h in
    joined-masks mask (collapsed l) (collapsed u) (joins (collapsed l) (collapsed u)) refl (collapsed-masks l (half_mask mask) k.0) (collapsed-masks u (half_mask mask) k.1)
collapsed-masks (replay r c) mask h = elim (includes c r) as (λ d. masks_fit mask (if d then plain c else replay r c) ≡ true) [ true ↦ h | false ↦ h ]

-- what is asked of a token, once it is collapsed
pub token-collapsed : (cells : List Cell) (mask : ℕ) (t : Token) → AllByRecursion (IsPlainOver cells) (parts t) → masks_fit mask t ≡ true → gaps_fit t ≡ true → IsTokenOver cells mask (collapsed t)
token-collapsed cells mask t each masks gaps = record {
  each = collapsed-parts (IsPlainOver cells) t each;
  masks = collapsed-masks t mask masks;
  gaps = collapsed-gaps t gaps;
  stays = collapsed-is (collapsed t) (is_collapsed-collapsed t);
}

-- ---- no gaps, no replays

listed : (xs : List Plain) → list_all (λ p. length p.gaps == 0) xs ≡ true → AllByRecursion (λ p. (length p.gaps == 0) ≡ true) xs
listed [] h = tt
listed (p ∷ ps) h = let k = both (length p.gaps == 0) (list_all (λ p. length p.gaps == 0) ps) h in (k.0, listed ps k.1)

unlisted : (xs : List Plain) → AllByRecursion (λ p. (length p.gaps == 0) ≡ true) xs → list_all (λ p. length p.gaps == 0) xs ≡ true
unlisted [] h = refl
unlisted (p ∷ ps) h = and-true (length p.gaps == 0) (list_all (λ p. length p.gaps == 0) ps) h.0 (unlisted ps h.1)

collapsed-no_gaps : (t : Token) → has_no_gaps t ≡ true → has_no_gaps (collapsed t) ≡ true
collapsed-no_gaps t h = unlisted (parts (collapsed t)) (collapsed-parts (λ p. (length p.gaps == 0) ≡ true) t (listed (parts t) h))

collapsed-no_replay : (t : Token) → has_no_replay t ≡ true → has_no_replay (collapsed t) ≡ true
collapsed-no_replay (plain p) h = refl
collapsed-no_replay (merged l u) h =
    let k = both (has_no_replay l) (has_no_replay u) h in
    let low = collapsed-no_replay l k.0 in
    elim (joins (collapsed l) (collapsed u)) as (λ c. has_no_replay (if c then collapsed l else merged (collapsed l) (collapsed u)) ≡ true)
    [ true ↦ low | false ↦ and-true (has_no_replay (collapsed l)) (has_no_replay (collapsed u)) low (collapsed-no_replay u k.1) ]
collapsed-no_replay (replay r c) h = absurd (cc)

-- ---- the parts for the halves of a segment

pub lower-sets : (t : Token) → IsPartFor covers false t (lower_part t)
lower-sets (plain p) mask h i e = refl
lower-sets (merged l u) mask h i e = ap (λ b. covers_here (if b then half u (half_mask mask) h else half l (half_mask mask) h) i) (sym e)
lower-sets (replay r c) mask h i e = refl

pub upper-sets : (t : Token) → IsPartFor covers true t (upper_part t)
upper-sets (plain p) mask h i e = refl
upper-sets (merged l u) mask h i e = ap (λ b. covers_here (if b then half u (half_mask mask) h else half l (half_mask mask) h) i) (sym e)
upper-sets (replay r c) mask h i e = refl

-- what is kept of a token, but for the masks and for what is left to collapse
pub record IsFit (cells : List Cell) (t : Token) : Type 0 where
  pub each : AllByRecursion (IsPlainOver cells) (parts t)
  pub gaps : gaps_fit t ≡ true

lower-fit : (cells : List Cell) (t : Token) → IsFit cells t → IsFit cells (lower_part t)
lower-fit cells (plain p) h = h
lower-fit cells (merged l u) h = record { each = All-left (IsPlainOver cells) (parts l) (parts u) h.each; gaps = (both (gaps_fit l) (gaps_fit u) h.gaps).0 }
lower-fit cells (replay r c) h = h

upper-fit : (cells : List Cell) (t : Token) → IsFit cells t → IsFit cells (upper_part t)
upper-fit cells (plain p) h = h
upper-fit cells (merged l u) h = record { each = All-right (IsPlainOver cells) (parts l) (parts u) h.each; gaps = (both (gaps_fit l) (gaps_fit u) h.gaps).1 }
upper-fit cells (replay r c) h = h

lower-masks : (t : Token) (mask : ℕ) → nat_le (half_mask mask) max_mask ≡ true → masks_fit mask t ≡ true → masks_fit (half_mask mask) (lower_part t) ≡ true
lower-masks (plain p) mask room h = room
lower-masks (merged l u) mask room h = (both (masks_fit (half_mask mask) l) (masks_fit (half_mask mask) u) h).0
lower-masks (replay r c) mask room h = room

upper-masks : (t : Token) (mask : ℕ) → nat_le (half_mask mask) max_mask ≡ true → masks_fit mask t ≡ true → masks_fit (half_mask mask) (upper_part t) ≡ true
upper-masks (plain p) mask room h = room
upper-masks (merged l u) mask room h = (both (masks_fit (half_mask mask) l) (masks_fit (half_mask mask) u) h).1
upper-masks (replay r c) mask room h = room

lower-no_gaps : (t : Token) → has_no_gaps t ≡ true → has_no_gaps (lower_part t) ≡ true
lower-no_gaps (plain p) h = h
lower-no_gaps (merged l u) h = unlisted (parts l) (All-left (λ p. (length p.gaps == 0) ≡ true) (parts l) (parts u) (listed (parts l ++ parts u) h))
lower-no_gaps (replay r c) h = h

upper-no_gaps : (t : Token) → has_no_gaps t ≡ true → has_no_gaps (upper_part t) ≡ true
upper-no_gaps (plain p) h = h
upper-no_gaps (merged l u) h = unlisted (parts u) (All-right (λ p. (length p.gaps == 0) ≡ true) (parts l) (parts u) (listed (parts l ++ parts u) h))
upper-no_gaps (replay r c) h = h

lower-no_replay : (t : Token) → has_no_replay t ≡ true → has_no_replay (lower_part t) ≡ true
lower-no_replay (plain p) h = h
lower-no_replay (merged l u) h = (both (has_no_replay l) (has_no_replay u) h).0
lower-no_replay (replay r c) h = h

upper-no_replay : (t : Token) → has_no_replay t ≡ true → has_no_replay (upper_part t) ≡ true
upper-no_replay (plain p) h = h
upper-no_replay (merged l u) h = (both (has_no_replay l) (has_no_replay u) h).1
upper-no_replay (replay r c) h = h

-- what a well-formed state asks of a token of the processor p, under a mask
pub record IsTokenOf (setting : Setting) (cells : List Cell) (p mask : ℕ) (t : Token) : Type 0 where
  pub over : IsTokenOver cells mask t
  pub gaps : IsTrue (needs_no_gaps setting p) → IsTrue (has_no_gaps t)
  pub replays : IsTrue (is_saga setting p) → IsTrue (has_no_replay t)

module _ (setting : Setting) (cells : List Cell) (p mask : ℕ) where
  module _ (t : Token) (room : half_mask mask ≤ max_mask) (h : IsTokenOf setting cells p mask t) where
    fits : nat_le (half_mask mask) max_mask ≡ true
    fits = grind (arith, nat_tests)

    fit : IsFit cells t
    fit = record { each = h.over.each; gaps = h.over.gaps }

    pub token-lower : IsTokenOf setting cells p (half_mask mask) (collapsed (lower_part t))
    token-lower = record {
      over = token-collapsed cells (half_mask mask) (lower_part t) (lower-fit cells t fit).each (lower-masks t mask fits h.over.masks) (lower-fit cells t fit).gaps;
      gaps = λ e. collapsed-no_gaps (lower_part t) (lower-no_gaps t (h.gaps e));
      replays = λ e. collapsed-no_replay (lower_part t) (lower-no_replay t (h.replays e));
    }

    pub token-upper : IsTokenOf setting cells p (half_mask mask) (collapsed (upper_part t))
    token-upper = record {
      over = token-collapsed cells (half_mask mask) (upper_part t) (upper-fit cells t fit).each (upper-masks t mask fits h.over.masks) (upper-fit cells t fit).gaps;
      gaps = λ e. collapsed-no_gaps (upper_part t) (upper-no_gaps t (h.gaps e));
      replays = λ e. collapsed-no_replay (upper_part t) (upper-no_replay t (h.replays e));
    }

  -- two tokens as halves
  pub token-merged : (l u : Token) → IsTokenOf setting cells p (half_mask mask) l → IsTokenOf setting cells p (half_mask mask) u → IsTokenOf setting cells p mask (collapsed (merged l u))
  token-merged l u h k = record {
    over = token-collapsed cells mask (merged l u) (All-append (IsPlainOver cells) (parts l) (parts u) h.over.each k.over.each)
        (and-true (masks_fit (half_mask mask) l) (masks_fit (half_mask mask) u) h.over.masks k.over.masks) (and-true (gaps_fit l) (gaps_fit u) h.over.gaps k.over.gaps);
    gaps = λ e. collapsed-no_gaps (merged l u)
        (unlisted (parts l ++ parts u) (All-append (λ p. (length p.gaps == 0) ≡ true) (parts l) (parts u) (listed (parts l) (h.gaps e)) (listed (parts u) (k.gaps e))));
    replays = λ e. collapsed-no_replay (merged l u) (and-true (has_no_replay l) (has_no_replay u) (h.replays e) (k.replays e));
  }
