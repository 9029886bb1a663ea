-- A letter that comes to its sequence, at the place where that stands or would stand.
use Rattle.std.proofs.Common.{◌≡◌, ◌<◌, ◌≤◌, ◌+◌, ◌-◌, ℕ, Bool, true, false, List, [], ◌∷◌, ◌++◌, length, set, get_or, Some, None, nat_lt, nat_le, refl, sym, ap, ◌∙◌, subst, arith}
use Rattle.std.specs.Prelude.{insert, if◌then◌else◌}
use Rattle.std.proofs.lemmas.Bool.Decides.{nat_tests}
use Rattle.std.proofs.lemmas.List.{length-append}
use Rattle.ax_values.specs.Grammar.{Name}
use Rattle.ax_laws.proofs.Tests.{and-true}
use Rattle.ax_letters.specs.Letters.{sequence_named, enqueue_under, with_letter, max_letters, max_sequences}
use Rattle.ax_letters.specs.Room.{Kept, HasName, LacksName, IsStored, IsTakenOut, TakesRoom, blank, is_stocked, queue_of, room_of, room_under}
use Rattle.ax_letters.specs.Answers.{full_sequence}
use Rattle.ax_letters.specs.declared.letter.Letter.{Letter}
use Rattle.ax_letters.specs.declared.fault.QueueFault.{QueueFault}
use Rattle.ax_letters.proofs.Changed.{name_of, Rising, sequence-found, sequence-none, read-here, stored-set, stored-insert, enqueue-here, enqueue-new, length-queue}
use Rattle.ax_letters.proofs.Rooms.{room_in, room-here, room-none, takes-there, takes-new}

-- no refusal says that there is a place
refused : (b : Bool) (f : QueueFault) → (if b then Some f else None) ≡ None → b ≡ false
refused true f h = absurd (cc)
refused false f h = refl

module _ (n : Name) (ks prepared : List Kept) (i : ℕ) where
  -- ---- a sequence that is there

  module _ (f : HasName n ks i) (h : Rising ks) where
    pub room-there : (k : Kept) → k ≡ get_or ks i k → room_of n (room_in ks prepared) ≡ k.room
    room-there k read =
        ap (λ n. room_of n (room_in ks prepared)) (sym f.named) ∙ room-here ks i f.kept (room_under f.kept.sequence.name prepared) h f.here ∙ ap (λ k. k.room) (sym (read-here n ks i f k read))

    module _ (l : Letter) (k y : Kept) (read : k ≡ get_or ks i k) (made : y ≡ record { sequence = with_letter k.sequence l; room = k.room - 1 }) where
      made-is : y ≡ record { sequence = with_letter f.kept.sequence l; room = f.kept.room - 1 }
      made-is = made ∙ ap (λ k. record { sequence = with_letter k.sequence l; room = k.room - 1 }) (read-here n ks i f k read)

      pub put-there : queue_of (set ks i y) ≡ enqueue_under n l (queue_of ks)
      put-there = sym (enqueue-here l ks i f.kept y h f.here (ap (λ k. k.sequence) made-is)) ∙ ap (λ n. enqueue_under n l (queue_of ks)) f.named

      pub takes-put : TakesRoom (room_in ks prepared) (room_in (set ks i y) prepared) (n ∷ [])
      takes-put =
          subst (λ n. TakesRoom (room_in ks prepared) (room_in (set ks i y) prepared) (n ∷ [])) f.named
          (takes-there ks prepared i f.kept y h f.here (ap name_of made-is) (ap (λ k. k.room) made-is))

      pub stored-put : (places : ℕ) → IsStored ks prepared places → full_sequence (queue_of ks) (sequence_named n (queue_of ks)) ≡ None → IsStored (set ks i y) prepared places
      stored-put places stored fits =
          let few : nat_le max_letters (length f.kept.sequence.letters) ≡ false =
          refused _ QueueFault.SequenceFull (ap (full_sequence (queue_of ks)) (sym (sequence-found n ks i f h)) ∙ fits) in
          let lower : length f.kept.sequence.letters < max_letters = grind (arith, nat_tests) in
          let long : length (f.kept.sequence.letters ++ l ∷ []) ≡ length f.kept.sequence.letters + 1 = length-append f.kept.sequence.letters (l ∷ []) in
          let filled : is_stocked (record { sequence = with_letter f.kept.sequence l; room = f.kept.room - 1 }) ≡ true =
          and-true (nat_lt 0 (length (f.kept.sequence.letters ++ l ∷ []))) (nat_le (length (f.kept.sequence.letters ++ l ∷ [])) max_letters)
          (let some : 0 < length (f.kept.sequence.letters ++ l ∷ []) = omega arith in grind (arith, nat_tests))
          (let most : length (f.kept.sequence.letters ++ l ∷ []) ≤ max_letters = omega arith in grind (arith, nat_tests)) in
          stored-set ks prepared places i f.kept y stored f.here (ap name_of made-is) (ap is_stocked made-is ∙ filled)

  -- ---- a sequence that comes

  module _ (f : LacksName n ks i) where
    pub room-not-there : room_of n (room_in ks prepared) ≡ room_under n prepared
    room-not-there = room-none n ks i (room_under n prepared) f

    module _ (l : Letter) (x y : Kept) (new : List Kept) (out : IsTakenOut n prepared new x.room) (is : x.sequence ≡ blank n) (made : y ≡ record { sequence = with_letter x.sequence l; room = x.room - 1 }) where
      made-new : y ≡ record { sequence = with_letter (blank n) l; room = x.room - 1 }
      made-new = made ∙ ap (λ s. record { sequence = with_letter s l; room = x.room - 1 }) is

      pub put-new : queue_of (insert ks i y) ≡ enqueue_under n l (queue_of ks)
      put-new = sym (enqueue-new l n ks i y f (ap (λ k. k.sequence) made-new))

      pub takes-put-new : TakesRoom (room_in ks prepared) (room_in (insert ks i y) new) (n ∷ [])
      takes-put-new = takes-new n ks prepared new i x.room f out y (ap name_of made-new) (ap (λ k. k.room) made-new)

      pub stored-put-new : (before places : ℕ) → IsStored ks prepared before → full_sequence (queue_of ks) (sequence_named n (queue_of ks)) ≡ None → length ks + length new < places → IsStored (insert ks i y) new places
      stored-put-new before places stored fits room =
          let few : nat_le max_sequences (length (queue_of ks)) ≡ false =
          refused _ QueueFault.SequencesFull (ap (full_sequence (queue_of ks)) (sym (sequence-none n ks i f)) ∙ fits) in
          let lower : length (queue_of ks) < max_sequences = grind (arith, nat_tests) in
          let long = length-queue ks in
          stored-insert ks prepared new before places i y stored (subst (λ n. LacksName n ks i) (sym (ap name_of made-new)) f) (ap is_stocked made-new) (omega (arith, long, lower)) out.rising out.blanks room
