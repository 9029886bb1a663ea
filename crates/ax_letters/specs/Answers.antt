-- What changes of a queue answer, and why they are refused.
use Rattle.std.specs.Prelude.{◌≡◌, ℕ, length, Option, Some, None, option_map, Result, Ok, Err, nat_le, if◌then◌else◌}
use Rattle.std.specs.Borrow.{Bor}
use Rattle.std.specs.Option.{option_copied}
use Rattle.ax_values.specs.Grammar.{Name}
use Rattle.ax_letters.specs.Letters.{Sequence, Queue, sequence_named, sequence_of, oldest, oldest_free, max_letters, max_sequences}
use Rattle.ax_letters.specs.declared.letter.Letter.{Letter}
use Rattle.ax_letters.specs.declared.letter.Taken.{Taken}
use Rattle.ax_letters.specs.declared.fault.QueueFault.{QueueFault}

-- ---- enqueue

abbrev pub full_sequence : Queue → Option Sequence → Option QueueFault
full_sequence q None = if nat_le max_sequences (length q) then Some QueueFault.SequencesFull else None
full_sequence q (Some s) = if nat_le max_letters (length s.letters) then Some QueueFault.SequenceFull else None

-- no letter comes to a full sequence, nor a sequence to a full queue
abbrev pub enqueue_refusal : Option Name → Letter → Queue → Option QueueFault
enqueue_refusal whole l q = full_sequence q (sequence_named (sequence_of whole l) q)

-- the refusal comes exactly where it is asked; else only memory may be wanting
abbrev pub IsRefusal : Option QueueFault → Result (Unit {0}) QueueFault → Type 0
IsRefusal None (Ok done) = Unit {0}
IsRefusal None (Err e) = e ≡ QueueFault.Memory
IsRefusal (Some f) (Ok done) = ⊥
IsRefusal (Some f) (Err e) = e ≡ f

-- ---- take

abbrev pub refused_by : Option Taken → Result (Option Sequence) QueueFault
refused_by None = Ok None
refused_by (Some t) = Err (QueueFault.LettersTaken t.by t.since)

abbrev pub refused_take : Option Sequence → Result (Option Sequence) QueueFault
refused_take None = Ok None
refused_take (Some s) = refused_by s.taken

abbrev pub taking_by : Option Sequence → Queue → Result (Option Sequence) QueueFault
taking_by None q = refused_take (oldest q)
taking_by (Some s) q = Ok (Some s)

-- the sequence that a take gets, none where there are no letters; where none may be taken, by whom and since when the oldest is
abbrev pub taking : ℕ → Queue → Result (Option Sequence) QueueFault
taking now q = taking_by (oldest_free now q) q

-- the name of that sequence, or the refusal, in whose place memory may be wanting
abbrev pub IsTake : Result (Option Sequence) QueueFault → Result (Option (Bor Name)) QueueFault → Type 0
IsTake (Ok o) (Ok name) = option_copied name ≡ option_map (λ s. s.name) o
IsTake (Ok o) (Err e) = ⊥
IsTake (Err f) (Ok name) = ⊥
IsTake (Err f) (Err e) = (e ≡ QueueFault.Memory → ⊥) → e ≡ f
