-- Segments of the space of hashes: which hashes they match, their halves and partners.
use Rattle.std.specs.Prelude.{◌≡◌, ℕ, ◌+◌, ◌-◌, ◌*◌, ◌/◌, ◌%◌, ◌^◌, ◌==◌, ◌≤◌, Bool, false, ◌&&◌, ◌||◌, List, fold, min, Option, Some, None, Result, Ok, Err, IsTrue, nat_lt, if◌then◌else◌}
use Rattle.std.specs.Int.{is_power_of_two}
use Rattle.std.specs.declared.cmp.Ordering.{Ordering}
use Rattle.std.specs.Ordering.{nat_cmp, ordering_then}
use Rattle.ax_segments.specs.declared.segment.MaskFull.{MaskFull}

-- Java's hash of a string, over bytes
abbrev pub hash_of : List ℕ → ℕ
hash_of bytes = fold (λ h b. (31 * h + b) % 2 ^ 32) 0 bytes

pub record Segment : Type 0 where
  pub id : ℕ
  pub mask : ℕ

abbrev pub max_mask : ℕ
max_mask = 65535

-- the grammar of segments
pub record IsSegment (s : Segment) : Type 0 where
  pub power : IsTrue (is_power_of_two (s.mask + 1))
  pub mask : s.mask ≤ max_mask
  pub id : s.id ≤ s.mask

-- whether the low bits of the hash, those of the mask, are the id; mask + 1 is a power of two, so that the remainder is these bits
abbrev pub matches : Segment → ℕ → Bool
matches s h = h % (s.mask + 1) == s.id

abbrev pub root : Segment
root = record { id = 0; mask = 0 }

-- whether h has the bit by which the halves of a segment of this mask differ
abbrev pub is_upper : ℕ → ℕ → Bool
is_upper mask h = (h / (mask + 1)) % 2 == 1

abbrev pub half_mask : ℕ → ℕ
half_mask mask = 2 * mask + 1

abbrev pub lower_half : Segment → Segment
lower_half s = record { id = s.id; mask = half_mask s.mask }

abbrev pub upper_half : Segment → Segment
upper_half s = record { id = s.id + (s.mask + 1); mask = half_mask s.mask }

abbrev pub split : Segment → Result (Segment × Segment) MaskFull
split s = if s.mask == max_mask then Err (record {}) else Ok (lower_half s, upper_half s)

-- the id with the highest bit of the mask flipped
abbrev pub flipped : Segment → ℕ
flipped s = if nat_lt s.id ((s.mask + 1) / 2) then s.id + (s.mask + 1) / 2 else s.id - (s.mask + 1) / 2

-- the other half of the segment that s is a half of; the root has none
abbrev pub partner : Segment → Option Segment
partner s = if s.mask == 0 then None else Some (record { id = flipped s; mask = s.mask })

abbrev pub same_segment : Segment → Segment → Bool
same_segment s t = (s.id == t.id) && (s.mask == t.mask)

abbrev pub is_partner : Option Segment → Segment → Bool
is_partner None t = false
is_partner (Some s) t = same_segment s t

-- the segment that the two are the halves of, where they are
abbrev pub merged : Segment → Segment → Option Segment
merged s t = if is_partner (partner s) t then Some (record { id = min s.id t.id; mask = s.mask / 2 }) else None

-- segments stand by id, and then by mask
abbrev pub segment_cmp : Segment → Segment → Ordering
segment_cmp s t = ordering_then (nat_cmp s.id t.id) (nat_cmp s.mask t.mask)

-- the two match, between them, each hash of the whole exactly once, and nothing else
pub record AreHalves (whole s t : Segment) : Type 0 where
  pub each : (h : ℕ) → (matches s h || matches t h) ≡ matches whole h
  pub once : (h : ℕ) → (matches s h && matches t h) ≡ false
