-- For which letters a queue has memory set aside, and what contracts see of a queue.
use Rattle.std.specs.Prelude.{◌≡◌, ℕ, ◌+◌, ◌≤◌, ◌<◌, Bool, IsTrue, List, [], ◌∷◌, length, map, filter, find, Option, Some, None, Result, Ok, Err, slice_get, slice_set, remove, if◌then◌else◌}
use Rattle.std.specs.List.{AllByRecursion, list_all}
use Rattle.std.specs.List.Sorted.{IsPartitionPoint}
use Rattle.std.specs.declared.cmp.Ordering.TheVariants.{Less, Greater}
use Rattle.std.specs.Ordering.{is_lt}
use Rattle.ax_values.specs.Grammar.{Name, ItemName}
use Rattle.ax_values.specs.Words.{same_name, name_cmp, rises, sequence_in, place_where}
use Rattle.ax_letters.specs.Letters.{Sequence, Queue, is_filled, is_letter_of, touched_letter, max_sequences, sequence_of}
use Rattle.ax_letters.specs.declared.letter.Letter.{Letter}
use Rattle.ax_rules.specs.declared.why.Why.{Why}

-- so many letters more of a sequence take no memory
pub record Spare : Type 0 where
  pub name : Name
  pub letters : ℕ

-- of sequences that are there, and of others that may come
pub record Room : Type 0 where
  pub there : List Spare
  pub prepared : List Spare

-- the name of the processor where it is whole, the sequences, and for which letters there is room
pub record QueueView : Type 0 where
  pub whole : Option Name
  pub sequences : Queue
  pub room : Room

abbrev pub spare_or : Option Spare → ℕ → ℕ
spare_or None n = n
spare_or (Some s) n = s.letters

abbrev pub spare_of : Name → List Spare → Option Spare
spare_of a spares = find (λ s. same_name s.name a) spares

-- how many letters more of the sequence take no memory
abbrev pub room_of : Name → Room → ℕ
room_of a room = spare_or (spare_of a room.there) (spare_or (spare_of a room.prepared) 0)

abbrev pub count_of : Name → List Name → ℕ
count_of a names = length (filter (λ b. same_name b a) names)

-- letters of these sequences take no memory
abbrev pub HasRoom : Room → List Name → Type 0
HasRoom room names = (a : Name) → count_of a names ≤ room_of a room

-- for what there was room, there still is
abbrev pub KeepsRoom : Room → Room → Type 0
KeepsRoom old new = (a : Name) → room_of a old ≤ room_of a new

-- the same, apart from one letter of each of these sequences
abbrev pub TakesRoom : Room → Room → List Name → Type 0
TakesRoom old new names = (a : Name) → room_of a old ≤ room_of a new + count_of a names

-- there is room for one letter more of the sequence
abbrev pub MakesRoom : Room → Room → Name → Type 0
MakesRoom old new name = (a : Name) → room_of a old + count_of a (name ∷ []) ≤ room_of a new

abbrev pub sequences_of : Option Name → List Letter → List Name
sequences_of whole letters = map (sequence_of whole) letters

-- ---- what is kept

-- a sequence, and for how many letters more it has memory
pub record Kept : Type 0 where
  pub sequence : Sequence
  pub room : ℕ

abbrev pub kept_below : Kept → Kept → Bool
kept_below k m = is_lt (name_cmp k.sequence.name m.sequence.name)

abbrev pub queue_of : List Kept → Queue
queue_of ks = map (λ k. k.sequence) ks

abbrev pub spares : List Kept → List Spare
spares ks = map (λ k. record { name = k.sequence.name; letters = k.room }) ks

-- a sequence that may come
abbrev pub blank : Name → Sequence
blank a = record { name = a; letters = []; taken = None }

abbrev pub AreBlank : List Kept → Type 0
AreBlank ks = AllByRecursion (λ k. k.sequence ≡ blank k.sequence.name) ks

abbrev pub is_stocked : Kept → Bool
is_stocked k = is_filled k.sequence

-- the sequences that are there rise by name and have letters, none too many; those that may come rise by name and have a place
pub record IsStored (there prepared : List Kept) (places : ℕ) : Type 0 where
  pub order : IsTrue (rises kept_below there)
  pub few : length there ≤ max_sequences
  pub filled : IsTrue (list_all is_stocked there)
  pub rising : IsTrue (rises kept_below prepared)
  pub blanks : AreBlank prepared
  pub placed : length there + length prepared ≤ places

-- ---- parts of changes

-- for how many letters of the sequence there is room in one of the lists
abbrev pub room_under : Name → List Kept → ℕ
room_under a ks = spare_or (spare_of a (spares ks)) 0

-- the new list is the old one without the sequence of the name, which had this room
pub record IsTakenOut (a : Name) (old new : List Kept) (room : ℕ) : Type 0 where
  pub rising : IsTrue (rises kept_below new)
  pub blanks : AreBlank new
  pub same : room ≡ room_under a old
  pub others : (b : Name) → room_under b new ≡ (if same_name a b then 0 else room_under b old)

abbrev pub kept_without : ℕ → Kept → Kept
kept_without at k = record k { sequence = record k.sequence { letters = remove k.sequence.letters at } }

abbrev pub set_or_remove : List Kept → ℕ → Kept → List Letter → List Kept
set_or_remove ks i k [] = remove ks i
set_or_remove ks i k (l ∷ ls) = slice_set ks i k

-- the sequences without a letter, and without its sequence where it was the last
abbrev pub taken_from : List Kept → ℕ → ℕ → Kept → List Kept
taken_from ks i at k = set_or_remove ks i (kept_without at k) (remove k.sequence.letters at)

-- the letter at the place has a new cause and moment
abbrev pub IsTouched : ℕ → Why → ℕ → Kept → Kept → Type 0
IsTouched place why now old new =
    (l : Letter) → slice_get old.sequence.letters place ≡ Some l → new ≡ record old { sequence = record old.sequence { letters = slice_set old.sequence.letters place (touched_letter l why now) } }

-- ---- where a sequence stands

-- the sequence of the name is at the place
pub record HasName (a : Name) (ks : List Kept) (i : ℕ) : Type 0 where
  pub kept : Kept
  pub here : slice_get ks i ≡ Some kept
  pub named : kept.sequence.name ≡ a

-- no sequence has the name; it would stand at the place
pub record LacksName (a : Name) (ks : List Kept) (i : ℕ) : Type 0 where
  pub within : i ≤ length ks
  pub parts : IsPartitionPoint (λ k. name_cmp k.sequence.name a ≡ Less) (λ k. name_cmp k.sequence.name a ≡ Greater) ks i

abbrev pub IsPlaceOf : Name → List Kept → Result ℕ ℕ → Type 0
IsPlaceOf a ks (Ok i) = HasName a ks i
IsPlaceOf a ks (Err i) = LacksName a ks i

-- the first letter of the item stands at the place `at` of the sequence at the place i
pub record IsLetterPlace (whole : Option Name) (x : ItemName) (q : Queue) (i at : ℕ) : Type 0 where
  pub sequence : Sequence
  pub here : slice_get q i ≡ Some sequence
  pub named : sequence.name ≡ sequence_in whole x.aggregate
  pub within : at < length sequence.letters
  pub first : place_where (is_letter_of x) sequence.letters ≡ at
