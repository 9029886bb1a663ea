-- A letter that is taken out or touched, at the place where it was found.
use Rattle.std.proofs.Common.{◌≡◌, ◌<◌, ◌≤◌, ◌+◌, ℕ, zero, suc, false, List, [], ◌∷◌, length, set, get_or, Option, Some, None, ◌&&◌, nat_lt, nat_le, refl, sym, ap, ◌∙◌, subst, arith}
use Rattle.std.specs.Prelude.{find, remove, slice_get, option_map}
use Rattle.std.proofs.lemmas.Bool.Decides.{nat_tests}
use Rattle.std.proofs.lemmas.List.{length-set}
use Rattle.std.proofs.lemmas.List.Edits.{length-remove}
use Rattle.std.proofs.lemmas.Option.{slice_get-map, slice_get_within, slice_get-get_or}
use Rattle.ax_laws.proofs.Lists.{all-at}
use Rattle.ax_laws.proofs.Tests.{both, and-true}
use Rattle.ax_rules.specs.declared.why.Why.{Why}
use Rattle.ax_values.specs.Grammar.{Name, ItemName}
use Rattle.ax_values.specs.Words.{place_where, sequence_in}
use Rattle.ax_letters.specs.Letters.{Sequence, letters_or_none, letter_of, is_letter_of, evict, requeue, change_letters, without_letter, touch_letter, touched_letter, max_letters}
use Rattle.ax_letters.specs.Room.{Kept, HasName, LacksName, IsLetterPlace, IsStored, is_stocked, kept_without, queue_of, set_or_remove, taken_from}
use Rattle.ax_letters.specs.declared.letter.Letter.{Letter}
use Rattle.ax_letters.proofs.Changed.{name_of, Rising, sequence-found, sequence-none, read-here, change-here, without-here, touch-here, find-place, with_letters, stored-set, stored-remove}

queue-get : (ks : List Kept) (i : ℕ) → slice_get (queue_of ks) i ≡ option_map (λ k. k.sequence) (slice_get ks i)
queue-get ks i = slice_get-map (λ (k : Kept). k.sequence) ks i

same-sequence : (ks : List Kept) (i : ℕ) (k : Kept) (s : Sequence) → slice_get ks i ≡ Some k → slice_get (queue_of ks) i ≡ Some s → k.sequence ≡ s
same-sequence ks i k s e h = let both : Some k.sequence ≡ Some s = ap (option_map (λ k. k.sequence)) (sym e) ∙ sym (queue-get ks i) ∙ h in cc

-- what is behind a sequence of the queue
kept-at : (ks : List Kept) (i : ℕ) (s : Sequence) → slice_get (queue_of ks) i ≡ Some s → HasName s.name ks i
kept-at [] i s e = absurd (cc)
kept-at (k ∷ ks) zero s e = let is : k.sequence ≡ s = cc in record { kept = k; here = refl; named = ap (λ s. s.name) is }
kept-at (k ∷ ks) (suc i) s e = let f = kept-at ks i s e in record { kept = f.kept; here = f.here; named = f.named }

set-some : (ks : List Kept) (i : ℕ) (y : Kept) (ls : List Letter) → 0 < length ls → set ks i y ≡ set_or_remove ks i y ls
set-some ks i y [] h = absurd (omega arith)
set-some ks i y (l ∷ ls) h = refl

-- ---- where a letter is

module _ (whole : Option Name) (x : ItemName) (ks : List Kept) where
  abbrev a : Name
  a = sequence_in whole x.aggregate

  pub no-sequence : (i : ℕ) → LacksName a ks i → letter_of whole x (queue_of ks) ≡ None
  no-sequence i f = ap (λ o. find (is_letter_of x) (letters_or_none o)) (sequence-none a ks i f)

  letters-found : (i : ℕ) (f : HasName a ks i) → Rising ks → letter_of whole x (queue_of ks) ≡ find (is_letter_of x) f.kept.sequence.letters
  letters-found i f h = ap (λ o. find (is_letter_of x) (letters_or_none o)) (sequence-found a ks i f h)

  pub no-letter : (i : ℕ) (f : HasName a ks i) (k : Kept) → Rising ks → k ≡ get_or ks i k → find (is_letter_of x) k.sequence.letters ≡ None → letter_of whole x (queue_of ks) ≡ None
  no-letter i f k h read none = letters-found i f h ∙ ap (λ k. find (is_letter_of x) k.sequence.letters) (sym (read-here a ks i f k read)) ∙ none

  pub letter-place : (i at : ℕ) (f : HasName a ks i) (k : Kept) → k ≡ get_or ks i k → at < length k.sequence.letters → place_where (is_letter_of x) k.sequence.letters ≡ at → IsLetterPlace whole x (queue_of ks) i at
  letter-place i at f k read within first =
      let is : k ≡ f.kept = read-here a ks i f k read in
      record {
        sequence = f.kept.sequence;
        here = queue-get ks i ∙ ap (option_map (λ k. k.sequence)) f.here;
        named = f.named;
        within = subst (λ k. at < length k.sequence.letters) is within;
        first = subst (λ k. place_where (is_letter_of x) k.sequence.letters ≡ at) is first;
      }

  module _ (i at : ℕ) (g : IsLetterPlace whole x (queue_of ks) i at) where
    abbrev there : HasName a ks i
    there = let f = kept-at ks i g.sequence g.here in record { kept = f.kept; here = f.here; named = f.named ∙ g.named }

    pub place-within : i < length ks
    place-within = slice_get_within ks i there.kept there.here

    pub letter-within : (k : Kept) → slice_get ks i ≡ Some k → at < length k.sequence.letters
    letter-within k e = subst (λ s. at < length s.letters) (sym (same-sequence ks i k g.sequence e g.here)) g.within

    letter-first : (k : Kept) → slice_get ks i ≡ Some k → place_where (is_letter_of x) k.sequence.letters ≡ at
    letter-first k e = ap (λ s. place_where (is_letter_of x) s.letters) (same-sequence ks i k g.sequence e g.here) ∙ g.first

    -- the letter that stands there
    pub letter-is : (l : Letter) → Rising ks → ((k : Kept) → slice_get ks i ≡ Some k → slice_get k.sequence.letters at ≡ Some l) → letter_of whole x (queue_of ks) ≡ Some l
    letter-is l h found =
        letters-found i there h ∙ find-place x there.kept.sequence.letters
        ∙ ap (slice_get there.kept.sequence.letters) (letter-first there.kept there.here) ∙ found there.kept there.here

    -- ---- evict

    taken : (new : List Kept) → ((k : Kept) → slice_get ks i ≡ Some k → new ≡ taken_from ks i at k) → new ≡ taken_from ks i at there.kept
    taken new rest = rest there.kept there.here

    without-at : without_letter x there.kept.sequence.letters ≡ remove there.kept.sequence.letters at
    without-at =
        let first = letter-first there.kept there.here in
        without-here x there.kept.sequence.letters (subst (λ n. n < length there.kept.sequence.letters) (sym first) (letter-within there.kept there.here))
        ∙ ap (remove there.kept.sequence.letters) first

    pub evicted : (new : List Kept) → Rising ks → ((k : Kept) → slice_get ks i ≡ Some k → new ≡ taken_from ks i at k) → queue_of new ≡ evict whole x (queue_of ks)
    evicted new h rest =
        ap queue_of (taken new rest)
        ∙ ap (λ ls. queue_of (set_or_remove ks i (with_letters there.kept ls) ls)) (sym without-at)
        ∙ sym (change-here (without_letter x) ks i there.kept h there.here)
        ∙ ap (λ n. change_letters n (without_letter x) (queue_of ks)) there.named

    pub stored-taken : (new prepared : List Kept) (places : ℕ) → IsStored ks prepared places → ((k : Kept) → slice_get ks i ≡ Some k → new ≡ taken_from ks i at k) → IsStored new prepared places
    stored-taken new prepared places h rest =
        subst (λ new. IsStored new prepared places) (sym (taken new rest)) (by (remove there.kept.sequence.letters at) refl)
      where
        by : (ls : List Letter) → remove there.kept.sequence.letters at ≡ ls → IsStored (set_or_remove ks i (kept_without at there.kept) ls) prepared places
        by [] e = stored-remove ks prepared places i there.kept h there.here
        by (l ∷ ls) e =
            let stocked = both (nat_lt 0 (length there.kept.sequence.letters)) (nat_le (length there.kept.sequence.letters) max_letters) (all-at is_stocked ks i there.kept h.filled there.here) in
            let long : length (remove there.kept.sequence.letters at) + 1 ≡ length there.kept.sequence.letters = length-remove there.kept.sequence.letters at (letter-within there.kept there.here) in
            let some : length (remove there.kept.sequence.letters at) ≡ suc (length ls) = ap length e in
            let most : length there.kept.sequence.letters ≤ max_letters = grind (arith, nat_tests, stocked.1) in
            stored-set ks prepared places i there.kept (kept_without at there.kept) h there.here refl
            (and-true (nat_lt 0 (length (remove there.kept.sequence.letters at))) (nat_le (length (remove there.kept.sequence.letters at)) max_letters)
            (let lt : 0 < length (remove there.kept.sequence.letters at) = omega arith in grind (arith, nat_tests))
            (let le : length (remove there.kept.sequence.letters at) ≤ max_letters = omega arith in grind (arith, nat_tests)))

    -- ---- requeue

    module _ (why : Why) (now : ℕ) (k y : Kept) (read : k ≡ get_or ks i k)
        (made : (l : Letter) → slice_get k.sequence.letters at ≡ Some l → y ≡ with_letters k (set k.sequence.letters at (touched_letter l why now))) where
      k-is : k ≡ there.kept
      k-is = read-here a ks i there k read

      k-here : slice_get ks i ≡ Some k
      k-here = there.here ∙ ap Some (sym k-is)

      abbrev found : Letter
      found = get_or k.sequence.letters at (record { item = record { name = x; kind = []; payload = [] }; index = 0; touched = 0; replayed = false; why = why })

      found-at : slice_get k.sequence.letters at ≡ Some found
      found-at = slice_get-get_or k.sequence.letters at _ (letter-within k k-here)

      pub letter-there : Rising ks → letter_of whole x (queue_of ks) ≡ Some found
      letter-there h = letter-is found h (λ m e. (let same : m ≡ k = read-same m e in ap (λ k. slice_get k.sequence.letters at) same ∙ found-at))
        where
          read-same : (m : Kept) → slice_get ks i ≡ Some m → m ≡ k
          read-same m e = let both : Some m ≡ Some k = sym e ∙ k-here in cc

      made-is : y ≡ with_letters k (set k.sequence.letters at (touched_letter found why now))
      made-is = made found found-at

      touch-at : touch_letter x why now k.sequence.letters ≡ set k.sequence.letters at (touched_letter found why now)
      touch-at =
          let first = letter-first k k-here in
          touch-here x why now k.sequence.letters found (ap (slice_get k.sequence.letters) first ∙ found-at)
          ∙ ap (λ n. set k.sequence.letters n (touched_letter found why now)) first

      some-left : 0 < length (touch_letter x why now k.sequence.letters)
      some-left =
          let same : length (touch_letter x why now k.sequence.letters) ≡ length k.sequence.letters = ap length touch-at ∙ length-set k.sequence.letters at (touched_letter found why now) in
          let within : at < length k.sequence.letters = letter-within k k-here in omega arith

      pub requeued : Rising ks → queue_of (set ks i y) ≡ requeue whole x why now (queue_of ks)
      requeued h =
          ap (λ y. queue_of (set ks i y)) (made-is ∙ ap (with_letters k) (sym touch-at))
          ∙ ap queue_of (set-some ks i (with_letters k (touch_letter x why now k.sequence.letters)) (touch_letter x why now k.sequence.letters) some-left)
          ∙ sym (change-here (touch_letter x why now) ks i k h k-here)
          ∙ ap (λ n. change_letters n (touch_letter x why now) (queue_of ks)) (ap name_of k-is ∙ there.named)

      pub stored-touched : (prepared : List Kept) (places : ℕ) → IsStored ks prepared places → IsStored (set ks i y) prepared places
      stored-touched prepared places h =
          let long : length y.sequence.letters ≡ length k.sequence.letters = ap (λ k. length k.sequence.letters) made-is ∙ length-set k.sequence.letters at (touched_letter found why now) in
          stored-set ks prepared places i k y h k-here (ap name_of made-is)
          (ap (λ n. nat_lt 0 n && nat_le n max_letters) long ∙ all-at is_stocked ks i k h.filled k-here)
