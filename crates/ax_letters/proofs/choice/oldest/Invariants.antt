-- the oldest so far and those that are left
use Rattle.std.proofs.Common.{◌≡◌, drop}
use Rattle.std.specs.Prelude.{option_map}
use Rattle.ax_letters.specs.Letters.{oldest}
use Rattle.ax_letters.specs.Room.{queue_of}
use Rattle.ax_letters.proofs.Chosen.{oldest_after}
use Rattle.ax_letters.proofs.choice.oldest.Given as goal

abbrev pub invariant-loop-sequence : goal.invariant-loop-sequence
invariant-loop-sequence l = oldest_after (option_map (λ s. s.now.sequence) l.oldest) (oldest (queue_of (drop l.sequence-index l.sequences))) ≡ oldest (queue_of l.sequences)
