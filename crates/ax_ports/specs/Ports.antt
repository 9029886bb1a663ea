-- Counts of faults, and what a read and a write do to the bytes that a source has left and a sink has taken.
use Rattle.std.specs.Prelude.{◌≡◌, ℕ, ◌+◌, ◌-◌, ◌^◌, ◌<◌, ◌≤◌, min, List, length, take, drop, Option, Some, Result, MatchResult, IfSome, OnOk, OnErr, IfOk}
use Rattle.std.specs.Io.KnownBytes.{Appends}

-- a count after one more, up to the last `u64`
abbrev pub one_more : ℕ → ℕ
one_more n = min (n + 1) (2 ^ 64 - 1)

-- a count rose, or stands at its end
abbrev pub Rose : ℕ → ℕ → Type 0
Rose before now = one_more before ≤ now

-- a fault is answered only where the count rose, and any other answer leaves the count
pub record HasCause {T E : Type 0} (before now : ℕ) (result : Result T E) : Type 0 where
  pub later : before ≤ now
  pub kept : OnOk result (now ≡ before)
  pub failed : OnErr result (Rose before now)

-- of a piece that is not empty a write takes something, and never more than there is
abbrev pub TakesSome : {E : Type 0} → Result ℕ E → List ℕ → Type 0
TakesSome r piece = IfOk r (λ n. (n ≤ length piece) × (0 < length piece → 0 < n))

-- a write adds the front of the piece that it counts; one that fails adds some front of it, and never the whole
abbrev pub WritesFront : {E : Type 0} → Option (List ℕ) → Option (List ℕ) → Result ℕ E → List ℕ → Type 0
WritesFront old new r piece =
    MatchResult r (λ n. Appends old new (take n piece)) (λ _. (k : ℕ) × (k ≤ length piece - 1) × Appends old new (take k piece))

-- of known bytes the first n are taken, and no more
abbrev pub TakesFirst : Option (List ℕ) → Option (List ℕ) → ℕ → Type 0
TakesFirst old new n = IfSome old (λ all. (n ≤ length all) × (new ≡ Some (drop n all)))

-- known bytes grow by a front of the text
abbrev pub AppendsFront : Option (List ℕ) → Option (List ℕ) → List ℕ → Type 0
AppendsFront old new text = (k : ℕ) × (k ≤ length text) × Appends old new (take k text)
