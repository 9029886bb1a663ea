-- Dead letters: a queue of sequences, each with the parked items of one aggregate, or of all aggregates of a whole processor.
use Rattle.std.specs.Prelude.{ℕ, ◌+◌, ◌≤◌, Bool, true, ◌&&◌, IsTrue, List, [], ◌∷◌, ◌++◌, length, find, Option, Some, None, is_some, nat_lt, nat_le, if◌then◌else◌}
use Rattle.std.specs.List.{list_all}
use Rattle.std.specs.Ordering.{match_ordering, is_lt}
use Rattle.ax_values.specs.Grammar.{Name, ItemName}
use Rattle.ax_values.specs.Words.{same_name, same_item, name_cmp, sequence_in, rises}
use Rattle.ax_rules.specs.declared.why.Why.{Why}
use Rattle.ax_letters.specs.declared.letter.Letter.{Letter}
use Rattle.ax_letters.specs.declared.letter.Taken.{Taken}

pub record Sequence : Type 0 where
  pub name : Name
  pub letters : List Letter
  pub taken : Option Taken

-- the sequences with letters, by name
abbrev pub Queue : Type 0
Queue = List Sequence

abbrev pub max_sequences : ℕ
max_sequences = 1024

abbrev pub max_letters : ℕ
max_letters = 1024

-- ---- what every queue keeps

abbrev pub sequence_below : Sequence → Sequence → Bool
sequence_below s t = is_lt (name_cmp s.name t.name)

-- it has a letter, and no more than a sequence may have
abbrev pub is_filled : Sequence → Bool
is_filled s = nat_lt 0 (length s.letters) && nat_le (length s.letters) max_letters

pub record IsQueue (q : Queue) : Type 0 where
  pub rising : IsTrue (rises sequence_below q)
  pub few : length q ≤ max_sequences
  pub filled : IsTrue (list_all is_filled q)

-- ---- readers

abbrev pub sequence_named : Name → Queue → Option Sequence
sequence_named a q = find (λ s. same_name s.name a) q

abbrev pub letters_or_none : Option Sequence → List Letter
letters_or_none None = []
letters_or_none (Some s) = s.letters

abbrev pub letters_of : Name → Queue → List Letter
letters_of a q = letters_or_none (sequence_named a q)

-- whether a sequence has letters
abbrev pub is_parked : Name → Queue → Bool
is_parked a q = is_some (sequence_named a q)

abbrev pub taken_or_none : Option Sequence → Option Taken
taken_or_none None = None
taken_or_none (Some s) = s.taken

abbrev pub taken_of : Name → Queue → Option Taken
taken_of a q = taken_or_none (sequence_named a q)

abbrev pub is_letter_of : ItemName → Letter → Bool
is_letter_of x l = same_item l.item.name x

-- the first letter of an item
abbrev pub letter_of : Option Name → ItemName → Queue → Option Letter
letter_of whole x q = find (is_letter_of x) (letters_of (sequence_in whole x.aggregate) q)

-- ---- the choice of the next sequence

-- for how long a take stands, in milliseconds
abbrev pub take_period : ℕ
take_period = 30000

abbrev pub is_free_at : ℕ → Option Taken → Bool
is_free_at now None = true
is_free_at now (Some t) = nat_lt (t.since + take_period) now

abbrev pub first_touched : List Letter → ℕ
first_touched [] = 0
first_touched (l ∷ ls) = l.touched

-- the one whose first letter was touched less recently, or the first where both were touched at one moment
abbrev pub older_of : Sequence → Sequence → Sequence
older_of s t = if nat_lt (first_touched t.letters) (first_touched s.letters) then t else s

abbrev pub older : Sequence → Option Sequence → Sequence
older s None = s
older s (Some t) = older_of s t

-- the older of a sequence and of one before it
abbrev pub later_older : Option Sequence → Sequence → Sequence
later_older None t = t
later_older (Some s) t = older_of s t

-- the sequence whose first letter was touched least recently, of those the first by name
abbrev pub oldest : Queue → Option Sequence
oldest [] = None
oldest (s ∷ q) = Some (older s (oldest q))

abbrev pub free_sequences : ℕ → Queue → Queue
free_sequences now [] = []
free_sequences now (s ∷ q) = if is_free_at now s.taken then s ∷ free_sequences now q else free_sequences now q

abbrev pub oldest_free : ℕ → Queue → Option Sequence
oldest_free now q = oldest (free_sequences now q)

-- ---- changes

abbrev pub new_sequence : Name → Letter → Sequence
new_sequence name l = record { name = name; letters = l ∷ []; taken = None }

abbrev pub with_letter : Sequence → Letter → Sequence
with_letter s l = record s { letters = s.letters ++ l ∷ [] }

-- the letter at the end of the sequence of a name
abbrev pub enqueue_under : Name → Letter → Queue → Queue
enqueue_under name l [] = new_sequence name l ∷ []
enqueue_under name l (s ∷ q) = match_ordering (name_cmp name s.name) (new_sequence name l ∷ s ∷ q) (with_letter s l ∷ q) (s ∷ enqueue_under name l q)

abbrev pub sequence_of : Option Name → Letter → Name
sequence_of whole l = sequence_in whole l.item.name.aggregate

-- the letter at the end of its sequence
abbrev pub enqueue : Option Name → Letter → Queue → Queue
enqueue whole l q = enqueue_under (sequence_of whole l) l q

abbrev pub enqueue_all : Option Name → List Letter → Queue → Queue
enqueue_all whole [] q = q
enqueue_all whole (l ∷ ls) q = enqueue_all whole ls (enqueue whole l q)

-- the letters without the first one of the item
abbrev pub without_letter : ItemName → List Letter → List Letter
without_letter x [] = []
without_letter x (l ∷ ls) = if is_letter_of x l then ls else l ∷ without_letter x ls

abbrev pub touched_letter : Letter → Why → ℕ → Letter
touched_letter l why now = record l { touched = now; why = why }

-- the letters with a new cause and time in the first one of the item
abbrev pub touch_letter : ItemName → Why → ℕ → List Letter → List Letter
touch_letter x why now [] = []
touch_letter x why now (l ∷ ls) = if is_letter_of x l then touched_letter l why now ∷ ls else l ∷ touch_letter x why now ls

-- a sequence without letters is none
abbrev pub keep_sequence : Sequence → List Letter → Queue → Queue
keep_sequence s [] q = q
keep_sequence s (l ∷ ls) q = record s { letters = l ∷ ls } ∷ q

-- the queue with the letters of a sequence changed
abbrev pub change_letters : Name → (List Letter → List Letter) → Queue → Queue
change_letters a f [] = []
change_letters a f (s ∷ q) = if same_name s.name a then keep_sequence s (f s.letters) q else s ∷ change_letters a f q

abbrev pub evict : Option Name → ItemName → Queue → Queue
evict whole x q = change_letters (sequence_in whole x.aggregate) (without_letter x) q

abbrev pub requeue : Option Name → ItemName → Why → ℕ → Queue → Queue
requeue whole x why now q = change_letters (sequence_in whole x.aggregate) (touch_letter x why now) q

-- the queue with a sequence taken, or with its take ended
abbrev pub hold : Name → Option Taken → Queue → Queue
hold a taken [] = []
hold a taken (s ∷ q) = if same_name s.name a then record s { taken = taken } ∷ q else s ∷ hold a taken q
