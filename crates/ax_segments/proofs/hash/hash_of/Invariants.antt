-- the hash of what is left, from the hash so far, is that of all bytes
use Rattle.std.proofs.Common.{◌≡◌, ◌+◌, ◌*◌, ◌%◌, ◌^◌, drop}
use Rattle.std.specs.Prelude.{fold}
use Rattle.ax_segments.specs.Segments.{hash_of}
use Rattle.ax_segments.proofs.hash.hash_of.Given as goal

abbrev pub invariant-loop-byte : goal.invariant-loop-byte
invariant-loop-byte l = fold (λ h b. (31 * h + b) % 2 ^ 32) l.hash (drop l.byte-index l.bytes) ≡ hash_of l.bytes
