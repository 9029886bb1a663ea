-- The definitions of readers and changes, at the place where a search finds a sequence.
use Rattle.std.proofs.Common.{◌≡◌, ◌<◌, ◌≤◌, ◌+◌, ◌==◌, ℕ, IsTrue, zero, suc, Bool, true, false, cond, List, [], ◌∷◌, length, map, set, get_or, Option, Some, None, Result, Ok, Err, ◌&&◌, refl, sym, ap, ◌∙◌, subst, arith}
use Rattle.std.specs.Prelude.{find, insert, remove, slice_get, option_map, if◌then◌else◌}
use Rattle.std.specs.List.{list_all}
use Rattle.std.specs.List.Sorted.{IsBinarySearchResult, IsSearchInRange}
use Rattle.std.proofs.lemmas.Bool.Decides.{nat_tests}
use Rattle.std.proofs.lemmas.List.{length-set}
use Rattle.std.proofs.lemmas.List.Edits.{length-insert, length-remove}
use Rattle.std.proofs.lemmas.List.Folds.{list_all-map}
use Rattle.std.proofs.lemmas.Option.{slice_get_within, slice_get-get_or, slice_get_past, get_or_from_slice_get}
use Rattle.std.specs.Ordering.{match_ordering}
use Rattle.ax_values.specs.Grammar.{Name, ItemName}
use Rattle.ax_values.specs.Words.{same_name, name_cmp, place_where, rises}
use Rattle.ax_letters.specs.Letters.{IsQueue, is_filled, sequence_below, max_sequences, sequence_named, new_sequence, with_letter, enqueue_under, change_letters, keep_sequence, hold, is_letter_of, without_letter, touch_letter, touched_letter}
use Rattle.ax_letters.specs.Room.{Kept, HasName, LacksName, IsPlaceOf, IsStored, AreBlank, blank, is_stocked, kept_below, kept_without, queue_of, set_or_remove, spares, taken_from, QueueView}
use Rattle.ax_letters.specs.declared.letter.Letter.{Letter}
use Rattle.ax_letters.specs.declared.letter.Taken.{Taken}
use Rattle.ax_rules.specs.declared.why.Why.{Why}
use Rattle.ax_laws.proofs.Lists.{all-at}
use Rattle.ax_laws.proofs.Tests.{both, and-true}
use Rattle.ax_letters.proofs.Named as named

abbrev pub name_of : Kept → Name
name_of k = k.sequence.name

abbrev pub Rising : List Kept → Type 0
Rising ks = named.Rises name_of ks

abbrev pub kept_under : Name → List Kept → Option Kept
kept_under a ks = named.under name_of a ks

pub sequence_named-kept : (a : Name) (ks : List Kept) → sequence_named a (queue_of ks) ≡ option_map (λ k. k.sequence) (kept_under a ks)
sequence_named-kept a [] = refl
sequence_named-kept a (k ∷ ks) = at (same_name k.sequence.name a) (sequence_named-kept a ks)
  where
    at : (b : Bool) → sequence_named a (queue_of ks) ≡ option_map (λ k. k.sequence) (kept_under a ks)
        → cond b (Some k.sequence) (sequence_named a (queue_of ks)) ≡ option_map (λ k. k.sequence) (cond b (Some k) (kept_under a ks))
    at true h = refl
    at false h = h

pub kept-found : (a : Name) (ks : List Kept) (i : ℕ) (f : HasName a ks i) → Rising ks → kept_under a ks ≡ Some f.kept
kept-found a ks i f h = subst (λ a. kept_under a ks ≡ Some f.kept) f.named (named.find-here name_of ks i f.kept h f.here)

pub sequence-found : (a : Name) (ks : List Kept) (i : ℕ) (f : HasName a ks i) → Rising ks → sequence_named a (queue_of ks) ≡ Some f.kept.sequence
sequence-found a ks i f h = sequence_named-kept a ks ∙ ap (option_map (λ k. k.sequence)) (kept-found a ks i f h)

pub kept-none : (a : Name) (ks : List Kept) (i : ℕ) → LacksName a ks i → kept_under a ks ≡ None
kept-none a ks i f = named.find-none name_of a ks i f.within f.parts

pub sequence-none : (a : Name) (ks : List Kept) (i : ℕ) → LacksName a ks i → sequence_named a (queue_of ks) ≡ None
sequence-none a ks i f = sequence_named-kept a ks ∙ ap (option_map (λ k. k.sequence)) (kept-none a ks i f)

-- what a binary search gives is the place of the name, or where it would stand
pub place-made : (a : Name) (ks : List Kept) (r : Result ℕ ℕ) → Rising ks → IsSearchInRange r (length ks) → IsBinarySearchResult (λ k. name_cmp k.sequence.name a) ks r → IsPlaceOf a ks r
place-made a ks (Ok i) h bound place =
    let k : Kept = get_or ks i (record { sequence = blank a; room = 0 }) in
    record { kept = k; here = slice_get-get_or ks i (record { sequence = blank a; room = 0 }) bound; named = named.equal-is k.sequence.name a (place (record { sequence = blank a; room = 0 })) }
place-made a ks (Err i) h bound place = record { within = bound; parts = place (named.nondecreasing name_of (record { sequence = blank a; room = 0 }) ks h) }

pub length-queue : (ks : List Kept) → length (queue_of ks) ≡ length ks
length-queue [] = refl
length-queue (k ∷ ks) = ap suc (length-queue ks)

-- what every queue keeps, of the sequences alone
rises-sequences : (ks : List Kept) → rises sequence_below (queue_of ks) ≡ rises kept_below ks
rises-sequences [] = refl
rises-sequences (k ∷ []) = refl
rises-sequences (k ∷ m ∷ ks) = ap (λ b. kept_below k m && b) (rises-sequences (m ∷ ks))

pub queue-kept : (ks : List Kept) (prepared : List Kept) (places : ℕ) → IsStored ks prepared places → IsQueue (queue_of ks)
queue-kept ks prepared places h = record {
  rising = rises-sequences ks ∙ h.order;
  few = subst (λ n. n ≤ max_sequences) (sym (length-queue ks)) h.few;
  filled = list_all-map is_filled (λ (k : Kept). k.sequence) ks ∙ h.filled;
}

-- what is read at the place is what stands there
pub read-here : (a : Name) (ks : List Kept) (i : ℕ) (f : HasName a ks i) (k : Kept) → k ≡ get_or ks i k → k ≡ f.kept
read-here a ks i f k e = e ∙ get_or_from_slice_get ks i f.kept k f.here

pub name-at : (ks : List Kept) (i : ℕ) → slice_get (map (λ s. s.name) (queue_of ks)) i ≡ option_map (λ k. k.sequence.name) (slice_get ks i)
name-at [] i = refl
name-at (k ∷ ks) zero = refl
name-at (k ∷ ks) (suc i) = name-at ks i

-- ---- what is kept where a sequence changes, comes or goes

all-set : {A : Type 0} (test : A → Bool) (xs : List A) (i : ℕ) (y : A) → list_all test xs ≡ true → test y ≡ true → list_all test (set xs i y) ≡ true
all-set test [] i y h p = refl
all-set test (x ∷ xs) zero y h p = and-true (test y) (list_all test xs) p (both (test x) (list_all test xs) h).1
all-set test (x ∷ xs) (suc i) y h p = let k = both (test x) (list_all test xs) h in and-true (test x) (list_all test (set xs i y)) k.0 (all-set test xs i y k.1 p)

all-insert : {A : Type 0} (test : A → Bool) (xs : List A) (i : ℕ) (y : A) → list_all test xs ≡ true → test y ≡ true → list_all test (insert xs i y) ≡ true
all-insert test xs zero y h p = and-true (test y) (list_all test xs) p h
all-insert test [] (suc i) y h p = and-true (test y) true p refl
all-insert test (x ∷ xs) (suc i) y h p = let k = both (test x) (list_all test xs) h in and-true (test x) (list_all test (insert xs i y)) k.0 (all-insert test xs i y k.1 p)

all-remove : {A : Type 0} (test : A → Bool) (xs : List A) (i : ℕ) → list_all test xs ≡ true → list_all test (remove xs i) ≡ true
all-remove test [] zero h = refl
all-remove test [] (suc i) h = refl
all-remove test (x ∷ xs) zero h = (both (test x) (list_all test xs) h).1
all-remove test (x ∷ xs) (suc i) h = let k = both (test x) (list_all test xs) h in and-true (test x) (list_all test (remove xs i)) k.0 (all-remove test xs i k.1)

pub stored-set : (ks prepared : List Kept) (places i : ℕ) (x y : Kept) → IsStored ks prepared places → slice_get ks i ≡ Some x → y.sequence.name ≡ x.sequence.name → is_stocked y ≡ true → IsStored (set ks i y) prepared places
stored-set ks prepared places i x y h e same filled =
    let long : length (set ks i y) ≡ length ks = length-set ks i y in
    let few : length ks ≤ max_sequences = h.few in
    let placed : length ks + length prepared ≤ places = h.placed in
    record {
      order = named.rises-set name_of ks i x y e same h.order;
      few = subst (λ n. n ≤ max_sequences) (sym long) few;
      filled = all-set is_stocked ks i y h.filled filled;
      rising = h.rising;
      blanks = h.blanks;
      placed = subst (λ n. n + length prepared ≤ places) (sym long) placed;
    }

pub stored-insert : (ks old prepared : List Kept) (before places i : ℕ) (y : Kept) → IsStored ks old before → LacksName y.sequence.name ks i → is_stocked y ≡ true → length ks < max_sequences
    → IsTrue (rises kept_below prepared) → AreBlank prepared → length ks + length prepared < places → IsStored (insert ks i y) prepared places
stored-insert ks old prepared before places i y h f filled few rising blanks placed =
    let long : length (insert ks i y) ≡ length ks + 1 = length-insert ks i y f.within in
    record {
      order = named.rises-insert name_of ks i y f.within f.parts h.order;
      few = subst (λ n. n ≤ max_sequences) (sym long) (omega arith);
      filled = all-insert is_stocked ks i y h.filled filled;
      rising = rising;
      blanks = blanks;
      placed = subst (λ n. n + length prepared ≤ places) (sym long) (omega arith);
    }

pub stored-remove : (ks prepared : List Kept) (places i : ℕ) (x : Kept) → IsStored ks prepared places → slice_get ks i ≡ Some x → IsStored (remove ks i) prepared places
stored-remove ks prepared places i x h e =
    let within : i < length ks = slice_get_within ks i x e in
    let long : length (remove ks i) + 1 ≡ length ks = length-remove ks i within in
    let few : length ks ≤ max_sequences = h.few in
    let placed : length ks + length prepared ≤ places = h.placed in
    record {
      order = named.rises-without name_of ks i x e h.order;
      few = omega arith;
      filled = all-remove is_stocked ks i h.filled;
      rising = h.rising;
      blanks = h.blanks;
      placed = omega arith;
    }

-- ---- changes of one sequence

abbrev pub with_taken : Kept → Option Taken → Kept
with_taken k taken = record k { sequence = record k.sequence { taken = taken } }

abbrev pub with_letters : Kept → List Letter → Kept
with_letters k ls = record k { sequence = record k.sequence { letters = ls } }

-- the first of those before the place has another name
other : (k : Kept) (ks : List Kept) (i : ℕ) (x : Kept) → Rising (k ∷ ks) → slice_get ks i ≡ Some x → same_name k.sequence.name x.sequence.name ≡ false
other k ks i x h e = named.first-differs name_of k x ks i h e

pub hold-here : (taken : Option Taken) (ks : List Kept) (i : ℕ) (x : Kept) → Rising ks → slice_get ks i ≡ Some x → hold x.sequence.name taken (queue_of ks) ≡ queue_of (set ks i (with_taken x taken))
hold-here taken [] i x h e = absurd (cc)
hold-here taken (k ∷ ks) zero x h e =
    let same : k ≡ x = cc in
    subst (λ z. hold x.sequence.name taken (z.sequence ∷ queue_of ks) ≡ record x.sequence { taken = taken } ∷ queue_of ks) (sym same)
    (ap (λ b. if b then record x.sequence { taken = taken } ∷ queue_of ks else x.sequence ∷ hold x.sequence.name taken (queue_of ks)) (named.name-refl x.sequence.name))
hold-here taken (k ∷ ks) (suc i) x h e =
    ap (λ b. if b then record k.sequence { taken = taken } ∷ queue_of ks else k.sequence ∷ hold x.sequence.name taken (queue_of ks)) (other k ks i x h e)
    ∙ ap (λ q. k.sequence ∷ q) (hold-here taken ks i x (named.rest name_of k ks h) e)

keep-here : (x : Kept) (ks : List Kept) (ls : List Letter) → keep_sequence x.sequence ls (queue_of ks) ≡ queue_of (set_or_remove (x ∷ ks) 0 (with_letters x ls) ls)
keep-here x ks [] = refl
keep-here x ks (l ∷ ls) = refl

keep-later : (k y : Kept) (ks : List Kept) (i : ℕ) (ls : List Letter) → k.sequence ∷ queue_of (set_or_remove ks i y ls) ≡ queue_of (set_or_remove (k ∷ ks) (suc i) y ls)
keep-later k y ks i [] = refl
keep-later k y ks i (l ∷ ls) = refl

pub change-here : (f : List Letter → List Letter) (ks : List Kept) (i : ℕ) (x : Kept) → Rising ks → slice_get ks i ≡ Some x
    → change_letters x.sequence.name f (queue_of ks) ≡ queue_of (set_or_remove ks i (with_letters x (f x.sequence.letters)) (f x.sequence.letters))
change-here f [] i x h e = absurd (cc)
change-here f (k ∷ ks) zero x h e =
    let same : k ≡ x = cc in
    subst (λ z. change_letters x.sequence.name f (z.sequence ∷ queue_of ks) ≡ queue_of (set_or_remove (z ∷ ks) 0 (with_letters x (f x.sequence.letters)) (f x.sequence.letters))) (sym same)
    (ap (λ b. if b then keep_sequence x.sequence (f x.sequence.letters) (queue_of ks) else x.sequence ∷ change_letters x.sequence.name f (queue_of ks)) (named.name-refl x.sequence.name)
    ∙ keep-here x ks (f x.sequence.letters))
change-here f (k ∷ ks) (suc i) x h e =
    ap (λ b. if b then keep_sequence k.sequence (f k.sequence.letters) (queue_of ks) else k.sequence ∷ change_letters x.sequence.name f (queue_of ks)) (other k ks i x h e)
    ∙ ap (λ q. k.sequence ∷ q) (change-here f ks i x (named.rest name_of k ks h) e)
    ∙ keep-later k (with_letters x (f x.sequence.letters)) ks i (f x.sequence.letters)

module _ (l : Letter) where
  pub enqueue-here : (ks : List Kept) (i : ℕ) (x y : Kept) → Rising ks → slice_get ks i ≡ Some x → y.sequence ≡ with_letter x.sequence l → enqueue_under x.sequence.name l (queue_of ks) ≡ queue_of (set ks i y)
  enqueue-here [] i x y h e m = absurd (cc)
  enqueue-here (k ∷ ks) zero x y h e m =
      let same : k ≡ x = cc in
      subst (λ z. enqueue_under x.sequence.name l (z.sequence ∷ queue_of ks) ≡ y.sequence ∷ queue_of ks) (sym same)
      (ap (λ o. match_ordering o (new_sequence x.sequence.name l ∷ x.sequence ∷ queue_of ks) (with_letter x.sequence l ∷ queue_of ks) (x.sequence ∷ enqueue_under x.sequence.name l (queue_of ks))) (named.is-equal x.sequence.name)
      ∙ ap (λ s. s ∷ queue_of ks) (sym m))
  enqueue-here (k ∷ ks) (suc i) x y h e m =
      ap (λ o. match_ordering o (new_sequence x.sequence.name l ∷ k.sequence ∷ queue_of ks) (with_letter k.sequence l ∷ queue_of ks) (k.sequence ∷ enqueue_under x.sequence.name l (queue_of ks)))
      (named.turned k.sequence.name x.sequence.name (named.below-first name_of k x ks i h e))
      ∙ ap (λ q. k.sequence ∷ q) (enqueue-here ks i x y (named.rest name_of k ks h) e m)

  pub enqueue-new : (a : Name) (ks : List Kept) (i : ℕ) (y : Kept) → LacksName a ks i → y.sequence ≡ new_sequence a l → enqueue_under a l (queue_of ks) ≡ queue_of (insert ks i y)
  enqueue-new a [] zero y f m = ap (λ s. s ∷ []) (sym m)
  enqueue-new a [] (suc i) y f m = let within : suc i ≤ 0 = f.within in absurd (omega arith)
  enqueue-new a (k ∷ ks) zero y f m =
      ap (λ o. match_ordering o (new_sequence a l ∷ k.sequence ∷ queue_of ks) (with_letter k.sequence l ∷ queue_of ks) (k.sequence ∷ enqueue_under a l (queue_of ks)))
      (named.turned-greater k.sequence.name a (named.parts-greater name_of a k ks f.parts))
      ∙ ap (λ s. s ∷ k.sequence ∷ queue_of ks) (sym m)
  enqueue-new a (k ∷ ks) (suc i) y f m =
      let within : suc i ≤ suc (length ks) = f.within in
      ap (λ o. match_ordering o (new_sequence a l ∷ k.sequence ∷ queue_of ks) (with_letter k.sequence l ∷ queue_of ks) (k.sequence ∷ enqueue_under a l (queue_of ks)))
      (named.turned k.sequence.name a (named.parts-lower name_of a k ks i f.parts))
      ∙ ap (λ q. k.sequence ∷ q) (enqueue-new a ks i y (record { within = omega arith; parts = named.parts-rest name_of a k ks i f.parts }) m)

-- ---- one letter among those of a sequence

module _ (x : ItemName) where
  pub without-here : (ls : List Letter) → place_where (is_letter_of x) ls < length ls → without_letter x ls ≡ remove ls (place_where (is_letter_of x) ls)
  without-here [] lt = absurd (omega arith)
  without-here (l ∷ ls) lt = at (is_letter_of x l) lt (without-here ls)
    where
      at : (b : Bool) → (if b then 0 else suc (place_where (is_letter_of x) ls)) < suc (length ls) → (place_where (is_letter_of x) ls < length ls → without_letter x ls ≡ remove ls (place_where (is_letter_of x) ls))
          → (if b then ls else l ∷ without_letter x ls) ≡ remove (l ∷ ls) (if b then 0 else suc (place_where (is_letter_of x) ls))
      at true lt more = refl
      at false lt more = ap (λ ms. l ∷ ms) (more (omega arith))

  pub touch-here : (why : Why) (now : ℕ) (ls : List Letter) (m : Letter) → slice_get ls (place_where (is_letter_of x) ls) ≡ Some m → touch_letter x why now ls ≡ set ls (place_where (is_letter_of x) ls) (touched_letter m why now)
  touch-here why now [] m e = absurd (cc)
  touch-here why now (l ∷ ls) m e = at (is_letter_of x l) e (touch-here why now ls m)
    where
      at : (b : Bool) → slice_get (l ∷ ls) (if b then 0 else suc (place_where (is_letter_of x) ls)) ≡ Some m
          → (slice_get ls (place_where (is_letter_of x) ls) ≡ Some m → touch_letter x why now ls ≡ set ls (place_where (is_letter_of x) ls) (touched_letter m why now))
          → (if b then touched_letter l why now ∷ ls else l ∷ touch_letter x why now ls) ≡ set (l ∷ ls) (if b then 0 else suc (place_where (is_letter_of x) ls)) (touched_letter m why now)
      at true e more = let same : l ≡ m = cc in ap (λ m. touched_letter m why now ∷ ls) same
      at false e more = ap (λ ms. l ∷ ms) (more e)

  pub find-place : (ls : List Letter) → find (is_letter_of x) ls ≡ slice_get ls (place_where (is_letter_of x) ls)
  find-place [] = refl
  find-place (l ∷ ls) = at (is_letter_of x l) (find-place ls)
    where
      at : (b : Bool) → find (is_letter_of x) ls ≡ slice_get ls (place_where (is_letter_of x) ls) → cond b (Some l) (find (is_letter_of x) ls) ≡ slice_get (l ∷ ls) (if b then 0 else suc (place_where (is_letter_of x) ls))
      at true h = refl
      at false h = h

-- ---- a letter is taken out of a sequence

pub read-at : {A : Type 0} (xs : List A) (i : ℕ) (x y : A) → slice_get xs i ≡ Some x → y ≡ get_or xs i y → y ≡ x
read-at xs i x y e h = h ∙ get_or_from_slice_get xs i x y e

read-set : {A : Type 0} (xs : List A) (i : ℕ) (x y : A) → i < length xs → x ≡ get_or (set xs i y) i x → x ≡ y
read-set [] i x y lt h = absurd (omega arith)
read-set (z ∷ zs) zero x y lt h = h
read-set (z ∷ zs) (suc i) x y lt h = read-set zs i x y (omega arith) h

remove-set : {A : Type 0} (xs : List A) (i : ℕ) (y : A) → remove (set xs i y) i ≡ remove xs i
remove-set [] i y = refl
remove-set (x ∷ xs) zero y = refl
remove-set (x ∷ xs) (suc i) y = ap (λ ys. x ∷ ys) (remove-set xs i y)

set-or : (ks : List Kept) (i : ℕ) (y : Kept) (ls : List Letter) → (length ls == 0) ≡ false → set ks i y ≡ set_or_remove ks i y ls
set-or ks i y [] h = absurd (cc)
set-or ks i y (l ∷ ls) h = refl

or-remove : (ks : List Kept) (i : ℕ) (y : Kept) (ls : List Letter) → (length ls == 0) ≡ true → remove ks i ≡ set_or_remove ks i y ls
or-remove ks i y [] h = refl
or-remove ks i y (l ∷ ls) h = let none : suc (length ls) ≡ 0 = grind (arith, nat_tests) in absurd (omega arith)

module _ (ks : List Kept) (i at : ℕ) (k first second made : Kept) (here : slice_get ks i ≡ Some k) (read : first ≡ get_or ks i first) (is : made ≡ kept_without at first)
    (again : second ≡ get_or (set ks i made) i second) where
  made-of : made ≡ kept_without at k
  made-of = is ∙ ap (kept_without at) (read-at ks i k first here read)

  left-is : second.sequence.letters ≡ remove k.sequence.letters at
  left-is = ap (λ k. k.sequence.letters) (read-set ks i second made (slice_get_within ks i k here) again ∙ made-of)

  pub letter-left : (length second.sequence.letters == 0) ≡ false → set ks i made ≡ taken_from ks i at k
  letter-left h = ap (set ks i) made-of ∙ set-or ks i (kept_without at k) (remove k.sequence.letters at) (ap (λ ls. length ls == 0) (sym left-is) ∙ h)

  pub last-letter : (length second.sequence.letters == 0) ≡ true → remove (set ks i made) i ≡ taken_from ks i at k
  last-letter h = remove-set ks i made ∙ or-remove ks i (kept_without at k) (remove k.sequence.letters at) (ap (λ ls. length ls == 0) (sym left-is) ∙ h)

-- ---- names at places

pub name-read : (ks : List Kept) (i : ℕ) (k : Kept) → i < length ks → k ≡ get_or ks i k → slice_get (map (λ s. s.name) (queue_of ks)) i ≡ Some k.sequence.name
name-read ks i k lt e = name-at ks i ∙ ap (option_map name_of) (slice_get-get_or ks i k lt ∙ ap Some (sym e))

pub name-past : (ks : List Kept) (i : ℕ) → length ks ≤ i → slice_get (map (λ s. s.name) (queue_of ks)) i ≡ None
name-past ks i le = name-at ks i ∙ ap (option_map name_of) (slice_get_past ks i le)

-- ---- a sequence whose place is known

pub queue-same : (ks : List Kept) (i : ℕ) (x y : Kept) → slice_get ks i ≡ Some x → y.sequence ≡ x.sequence → queue_of (set ks i y) ≡ queue_of ks
queue-same [] i x y e same = absurd (cc)
queue-same (k ∷ ks) zero x y e same = let is : k ≡ x = cc in ap (λ s. s ∷ queue_of ks) (same ∙ ap (λ k. k.sequence) (sym is))
queue-same (k ∷ ks) (suc i) x y e same = ap (λ q. k.sequence ∷ q) (queue-same ks i x y e same)

pub spares-same : (ks : List Kept) (i : ℕ) (x y : Kept) → slice_get ks i ≡ Some x → y.sequence.name ≡ x.sequence.name → y.room ≡ x.room → spares (set ks i y) ≡ spares ks
spares-same [] i x y e name room = absurd (cc)
spares-same (k ∷ ks) zero x y e name room =
    let is : k ≡ x = cc in
    ap (λ n. record { name = n; letters = y.room } ∷ spares ks) (name ∙ ap name_of (sym is)) ∙ ap (λ m. record { name = k.sequence.name; letters = m } ∷ spares ks) (room ∙ ap (λ k. k.room) (sym is))
spares-same (k ∷ ks) (suc i) x y e name room = ap (λ ss. record { name = k.sequence.name; letters = k.room } ∷ ss) (spares-same ks i x y e name room)

-- a sequence of other letters or another take, which has a letter and not too many, keeps the order
pub stored-changed : (a : Name) (ks prepared : List Kept) (places i : ℕ) (f : HasName a ks i) (k y : Kept) → IsStored ks prepared places → k ≡ get_or ks i k → y.sequence.name ≡ k.sequence.name → is_stocked y ≡ true
    → IsStored (set ks i y) prepared places
stored-changed a ks prepared places i f k y h read name filled =
    stored-set ks prepared places i f.kept y h f.here (name ∙ ap name_of (read-here a ks i f k read)) filled

pub stocked-here : (a : Name) (ks prepared : List Kept) (places i : ℕ) (f : HasName a ks i) (k : Kept) → IsStored ks prepared places → k ≡ get_or ks i k → is_stocked k ≡ true
stocked-here a ks prepared places i f k h read = ap is_stocked (read-here a ks i f k read) ∙ all-at is_stocked ks i f.kept h.filled f.here

-- what contracts see
abbrev pub viewed : Option Name → List Kept → List Kept → QueueView
viewed whole ks prepared = record { whole = whole; sequences = queue_of ks; room = record { there = spares ks; prepared = spares prepared } }

pub held : (a : Name) (whole : Option Name) (ks prepared : List Kept) (i : ℕ) (f : HasName a ks i) (k y : Kept) (taken : Option Taken) → Rising ks → k ≡ get_or ks i k → y ≡ with_taken k taken
    → viewed whole (set ks i y) prepared ≡ record (viewed whole ks prepared) { sequences = hold a taken (queue_of ks) }
held a whole ks prepared i f k y taken h read is =
    let made : y ≡ with_taken f.kept taken = is ∙ ap (λ k. with_taken k taken) (read-here a ks i f k read) in
    let queue : queue_of (set ks i y) ≡ hold a taken (queue_of ks) = ap (λ y. queue_of (set ks i y)) made ∙ sym (hold-here taken ks i f.kept h f.here) ∙ ap (λ a. hold a taken (queue_of ks)) f.named in
    let room : spares (set ks i y) ≡ spares ks = spares-same ks i f.kept y f.here (ap name_of made) (ap (λ k. k.room) made) in
    ap (λ q. record { whole = whole; sequences = q; room = record { there = spares (set ks i y); prepared = spares prepared } }) queue
    ∙ ap (λ ss. record { whole = whole; sequences = hold a taken (queue_of ks); room = record { there = ss; prepared = spares prepared } }) room
