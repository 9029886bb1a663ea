-- Changes of token rows, and why they are refused.
use Rattle.std.specs.Prelude.{◌≡◌, ℕ, suc, ◌+◌, ◌/◌, ◌==◌, Bool, false, not, ◌&&◌, List, [], ◌∷◌, Option, Some, None, Result, Ok, Err, min, position, nat_lt, if◌then◌else◌}
use Rattle.ax_values.specs.Grammar.{Name}
use Rattle.ax_values.specs.Words.{same_name, place_where}
use Rattle.ax_segments.specs.Segments.{Segment, same_segment, lower_half, upper_half, max_mask, partner}
use Rattle.ax_tokens.specs.Tokens.{Token, merged, reset, collapsed, lower_part, upper_part}
use Rattle.ax_claims.specs.Rows.{TokenRow, row_at, put_row, remove_row}
use Rattle.ax_claims.specs.declared.refused.Refused.{Refused}
use Rattle.ax_claims.specs.declared.refused.ClaimFault.{ClaimFault}

-- for how long a claim stands without an extension, in milliseconds
abbrev pub claim_period : ℕ
claim_period = 10000

abbrev pub is_expired : ℕ → TokenRow → Bool
is_expired now r = nat_lt (r.since + claim_period) now

abbrev pub is_other : Name → Option Name → Bool
is_other actor None = false
is_other actor (Some owner) = not (same_name owner actor)

-- whether the row has another owner and is not expired
abbrev pub is_claimed : Name → ℕ → TokenRow → Bool
is_claimed actor now r = is_other actor r.owner && not (is_expired now r)

-- the row with another owner, claim time and fence
abbrev pub owned : TokenRow → Option Name → ℕ → ℕ → TokenRow
owned r owner since fence = record r { owner = owner; since = since; fence = fence }

-- ---- claim

abbrev pub claimed_row : Segment → Name → ℕ → ℕ → List TokenRow → Option TokenRow → Result (List TokenRow) Refused
claimed_row s actor now fence rows None = Err Refused.NoSegment
claimed_row s actor now fence rows (Some r) =
    if is_claimed actor now r then Err (Refused.Claimed (place_where (λ x. same_segment x.segment s) rows)) else Ok (put_row (owned r (Some actor) now fence) rows)

-- the row of the segment gets an owner, unless it has another whose claim is not expired
abbrev pub claimed : Segment → Name → ℕ → ℕ → List TokenRow → Result (List TokenRow) Refused
claimed s actor now fence rows = claimed_row s actor now fence rows (row_at s rows)

-- ---- store

abbrev pub stored_row : ℕ → Token → ℕ → List TokenRow → Option TokenRow → Result (List TokenRow) Refused
stored_row held t now rows None = Err (Refused.Stale held None)
stored_row held t now rows (Some r) = if r.fence == held then Ok (put_row (record r { token = t; since = now }) rows) else Err (Refused.Stale held (Some r.fence))

-- the row of the segment gets a token and a claim time, where it has the fence that is held
abbrev pub stored : Segment → ℕ → Token → ℕ → List TokenRow → Result (List TokenRow) Refused
stored s held t now rows = stored_row held t now rows (row_at s rows)

-- ---- a row that is held

-- what refuses a change of a row under the fence that is held for it, if anything
abbrev pub held_check : Option ℕ → Option TokenRow → Option Refused
held_check None None = Some Refused.NoSegment
held_check None (Some r) = Some Refused.NotHeld
held_check (Some f) None = Some (Refused.Stale f None)
held_check (Some f) (Some r) = if r.fence == f then None else Some (Refused.Stale f (Some r.fence))

abbrev pub checked : Option Refused → Option TokenRow → (TokenRow → Result (List TokenRow) Refused) → Result (List TokenRow) Refused
checked (Some refused) row change = Err refused
checked None None change = Err Refused.NoSegment
checked None (Some r) change = change r

-- the change of the segment's row, where it is held
abbrev pub if_held : Segment → Option ℕ → List TokenRow → (TokenRow → Result (List TokenRow) Refused) → Result (List TokenRow) Refused
if_held s held rows change = checked (held_check held (row_at s rows)) (row_at s rows) change

-- ---- extend, release

-- the row gets a new claim time
abbrev pub extended : Segment → Option ℕ → ℕ → List TokenRow → Result (List TokenRow) Refused
extended s held now rows = if_held s held rows (λ r. Ok (put_row (owned r r.owner now r.fence) rows))

-- the row has no owner, and a new fence
abbrev pub released : Segment → Option ℕ → ℕ → List TokenRow → Result (List TokenRow) Refused
released s held fence rows = if_held s held rows (λ r. Ok (put_row (owned r None 0 fence) rows))

-- ---- split, merge

-- a row without owner
abbrev pub free_row : Segment → Token → ℕ → TokenRow
free_row s t fence = record { segment = s; token = t; owner = None; since = 0; fence = fence }

abbrev pub lower_row : TokenRow → ℕ → TokenRow
lower_row r fence = free_row (lower_half r.segment) (collapsed (lower_part r.token)) fence

abbrev pub upper_row : TokenRow → ℕ → TokenRow
upper_row r fence = free_row (upper_half r.segment) (collapsed (upper_part r.token)) (suc fence)

-- the rows with the two halves in the place of the row: each hash keeps what is covered for it
abbrev pub split_rows : TokenRow → ℕ → List TokenRow → List TokenRow
split_rows r fence rows = put_row (upper_row r fence) (put_row (lower_row r fence) (remove_row r.segment rows))

abbrev pub split : Segment → Option ℕ → ℕ → List TokenRow → Result (List TokenRow) Refused
split s held fence rows = if_held s held rows (λ r. if s.mask == max_mask then Err Refused.MaskFull else Ok (split_rows r fence rows))

-- the token of the smaller id is the lower half
abbrev pub merged_token : TokenRow → TokenRow → Token
merged_token r q = collapsed (if nat_lt r.segment.id q.segment.id then merged r.token q.token else merged q.token r.token)

abbrev pub whole_row : TokenRow → TokenRow → ℕ → TokenRow
whole_row r q fence = free_row (record { id = min r.segment.id q.segment.id; mask = r.segment.mask / 2 }) (merged_token r q) fence

-- the rows with one in the place of the two
abbrev pub merge_rows : TokenRow → TokenRow → ℕ → List TokenRow → List TokenRow
merge_rows r q fence rows = put_row (whole_row r q fence) (remove_row r.segment (remove_row q.segment rows))

abbrev pub partner_row : Option Segment → List TokenRow → Option TokenRow
partner_row None rows = None
partner_row (Some s) rows = row_at s rows

abbrev pub merged_with : Name → ℕ → ℕ → List TokenRow → TokenRow → Option TokenRow → Result (List TokenRow) Refused
merged_with actor now fence rows r None = Err Refused.Alone
merged_with actor now fence rows r (Some q) =
    if is_claimed actor now q then Err (Refused.Claimed (place_where (λ x. same_segment x.segment q.segment) rows)) else Ok (merge_rows r q fence rows)

-- the row and that of the other half of the segment that both are halves of become one, unless another owns the other
abbrev pub merge : Segment → Option ℕ → Name → ℕ → ℕ → List TokenRow → Result (List TokenRow) Refused
merge s held actor now fence rows = if_held s held rows (λ r. merged_with actor now fence rows r (partner_row (partner s) rows))

-- ---- reset

-- each row belongs to the actor, under a fence of its own, and its token begins anew
abbrev pub reset_rows : Name → ℕ → ℕ → List TokenRow → List TokenRow
reset_rows actor now fence [] = []
reset_rows actor now fence (r ∷ rows) =
    record { segment = r.segment; token = collapsed (reset r.token); owner = Some actor; since = now; fence = fence } ∷ reset_rows actor now (suc fence) rows

abbrev pub reset_unless : Name → ℕ → ℕ → List TokenRow → Option ℕ → Result (List TokenRow) Refused
reset_unless actor now fence rows (Some place) = Err (Refused.Claimed place)
reset_unless actor now fence rows None = Ok (reset_rows actor now fence rows)

-- all rows begin anew, unless another owns one of them
abbrev pub all_reset : Name → ℕ → ℕ → List TokenRow → Result (List TokenRow) Refused
all_reset actor now fence rows = reset_unless actor now fence rows (position (is_claimed actor now) rows)

-- ---- answers

-- what stands after a change, and what it answers: a refusal changes nothing and gives back what was to be put
abbrev pub IsChange : {B : Type 0} → Result (List TokenRow) Refused → B → List TokenRow → List TokenRow → Result (Unit {0}) (Refused × B) → Type 0
IsChange (Ok rows) given old new (Ok done) = new ≡ rows
IsChange (Ok rows) given old new (Err e) = ⊥
IsChange (Err refused) given old new (Ok done) = ⊥
IsChange (Err refused) given old new (Err e) = (e.0 ≡ refused) × (e.1 ≡ given) × (new ≡ old)

-- the same of a change that takes nothing that it could give back
abbrev pub IsChanged : Result (List TokenRow) Refused → List TokenRow → List TokenRow → Result (Unit {0}) Refused → Type 0
IsChanged (Ok rows) old new (Ok done) = new ≡ rows
IsChanged (Ok rows) old new (Err e) = ⊥
IsChanged (Err refused) old new (Ok done) = ⊥
IsChanged (Err refused) old new (Err e) = (e ≡ refused) × (new ≡ old)

-- and of one that may want memory, which changes nothing either
abbrev pub IsChangedUnlessMemory : Result (List TokenRow) Refused → List TokenRow → List TokenRow → Result (Unit {0}) ClaimFault → Type 0
IsChangedUnlessMemory (Ok rows) old new (Ok done) = new ≡ rows
IsChangedUnlessMemory (Ok rows) old new (Err ClaimFault.Memory) = new ≡ old
IsChangedUnlessMemory (Ok rows) old new (Err (ClaimFault.Refused e)) = ⊥
IsChangedUnlessMemory (Err refused) old new (Ok done) = ⊥
IsChangedUnlessMemory (Err refused) old new (Err ClaimFault.Memory) = new ≡ old
IsChangedUnlessMemory (Err refused) old new (Err (ClaimFault.Refused e)) = (e ≡ refused) × (new ≡ old)
