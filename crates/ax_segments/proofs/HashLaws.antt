-- Hashes have 32 bits.
use Rattle.std.specs.Prelude.{ℕ, ◌+◌, ◌*◌, ◌%◌, ◌^◌, ◌<◌, List, [], ◌∷◌, fold, Option}
use Rattle.std.proofs.Common.{arith}
use Rattle.ax_values.specs.Grammar.{Name}
use Rattle.ax_values.specs.Words.{sequence_in}
use Rattle.ax_segments.specs.Sequences.{hash_in}

hash-from : (h : ℕ) (bytes : List ℕ) → h < 2 ^ 32 → fold (λ h b. (31 * h + b) % 2 ^ 32) h bytes < 2 ^ 32
hash-from h [] small = small
hash-from h (b ∷ bytes) small = hash-from ((31 * h + b) % 2 ^ 32) bytes (omega arith)

pub hash_in-small : (whole : Option Name) (a : Name) → hash_in whole a < 2 ^ 32
hash_in-small whole a = hash-from 0 (sequence_in whole a) (omega arith)
