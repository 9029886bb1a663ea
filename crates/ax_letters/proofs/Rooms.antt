-- For how many letters there is room, where a sequence changes, comes or goes.
use Rattle.std.proofs.Common.{◌≡◌, ◌<◌, ◌≤◌, ◌+◌, ◌-◌, ℕ, zero, suc, Bool, true, false, cond, List, [], ◌∷◌, ◌++◌, length, take, get_or, set, Option, Some, None, Result, Ok, Err, OnOk, OnErr, refl, sym, ap, ◌∙◌, subst, arith}
use Rattle.std.specs.Prelude.{filter, insert, remove, slice_get, if◌then◌else◌}
use Rattle.ax_values.specs.Grammar.{Name}
use Rattle.ax_values.specs.Words.{same_name}
use Rattle.ax_letters.specs.Letters.{sequence_of}
use Rattle.ax_letters.specs.Room.{Kept, AreBlank, blank, HasName, LacksName, IsTakenOut, Room, HasRoom, TakesRoom, MakesRoom, KeepsRoom, spare_or, spare_of, spares, room_of, room_under, count_of, sequences_of}
use Rattle.ax_letters.specs.declared.letter.Letter.{Letter}
use Rattle.ax_letters.proofs.Changed.{name_of, Rising, kept_under, kept-none}
use Rattle.ax_letters.proofs.Named as named

abbrev pub room_or : Option Kept → ℕ → ℕ
room_or None n = n
room_or (Some k) n = k.room

pub spare-kept : (a : Name) (ks : List Kept) (n : ℕ) → spare_or (spare_of a (spares ks)) n ≡ room_or (kept_under a ks) n
spare-kept a [] n = refl
spare-kept a (k ∷ ks) n = at (same_name k.sequence.name a) (spare-kept a ks n)
  where
    at : (b : Bool) → spare_or (spare_of a (spares ks)) n ≡ room_or (kept_under a ks) n
        → spare_or (cond b (Some (record { name = k.sequence.name; letters = k.room })) (spare_of a (spares ks))) n ≡ room_or (cond b (Some k) (kept_under a ks)) n
    at true h = refl
    at false h = h

-- the room of a queue that stores these
abbrev pub room_in : List Kept → List Kept → Room
room_in ks prepared = record { there = spares ks; prepared = spares prepared }

pub count-one : (a n : Name) → count_of a (n ∷ []) ≡ (if same_name n a then 1 else 0)
count-one a n = at (same_name n a)
  where
    at : (b : Bool) → length (cond b (n ∷ []) []) ≡ (if b then 1 else 0)
    at true = refl
    at false = refl

module _ (a : Name) where
  room-set : (ks : List Kept) (i : ℕ) (x y : Kept) (n : ℕ) → Rising ks → slice_get ks i ≡ Some x → y.sequence.name ≡ x.sequence.name
      → spare_or (spare_of a (spares (set ks i y))) n ≡ (if same_name x.sequence.name a then y.room else spare_or (spare_of a (spares ks)) n)
  room-set ks i x y n h e k =
      spare-kept a (set ks i y) n ∙ ap (λ o. room_or o n) (named.find-set name_of a ks i x y e k h) ∙ at (same_name x.sequence.name a)
    where
      at : (b : Bool) → room_or (if b then Some y else kept_under a ks) n ≡ (if b then y.room else spare_or (spare_of a (spares ks)) n)
      at true = refl
      at false = sym (spare-kept a ks n)

  room-insert : (ks : List Kept) (i : ℕ) (y : Kept) (n : ℕ) → LacksName y.sequence.name ks i
      → spare_or (spare_of a (spares (insert ks i y))) n ≡ (if same_name y.sequence.name a then y.room else spare_or (spare_of a (spares ks)) n)
  room-insert ks i y n f =
      spare-kept a (insert ks i y) n ∙ ap (λ o. room_or o n) (named.find-insert name_of a ks i y f.within f.parts) ∙ at (same_name y.sequence.name a)
    where
      at : (b : Bool) → room_or (if b then Some y else kept_under a ks) n ≡ (if b then y.room else spare_or (spare_of a (spares ks)) n)
      at true = refl
      at false = sym (spare-kept a ks n)

  room-remove : (ks : List Kept) (i : ℕ) (x : Kept) (n : ℕ) → Rising ks → slice_get ks i ≡ Some x
      → spare_or (spare_of a (spares (remove ks i))) n ≡ (if same_name x.sequence.name a then n else spare_or (spare_of a (spares ks)) n)
  room-remove ks i x n h e =
      spare-kept a (remove ks i) n ∙ ap (λ o. room_or o n) (named.find-remove name_of a ks i x e h) ∙ at (same_name x.sequence.name a)
    where
      at : (b : Bool) → room_or (if b then None else kept_under a ks) n ≡ (if b then n else spare_or (spare_of a (spares ks)) n)
      at true = refl
      at false = sym (spare-kept a ks n)

  pub room-none : (ks : List Kept) (i : ℕ) (n : ℕ) → LacksName a ks i → spare_or (spare_of a (spares ks)) n ≡ n
  room-none ks i n f = spare-kept a ks n ∙ ap (λ o. room_or o n) (kept-none a ks i f)

-- the room of a sequence that is there
pub room-here : (ks : List Kept) (i : ℕ) (x : Kept) (n : ℕ) → Rising ks → slice_get ks i ≡ Some x → spare_or (spare_of x.sequence.name (spares ks)) n ≡ x.room
room-here ks i x n h e = spare-kept x.sequence.name ks n ∙ ap (λ o. room_or o n) (named.find-here name_of ks i x h e)

-- ---- room for one letter more

module _ (n : Name) where
  -- of a sequence in a list of them
  more-by : (a : Name) (ks : List Kept) (i : ℕ) (x y : Kept) (m : ℕ) → Rising ks → slice_get ks i ≡ Some x → x.sequence.name ≡ n → y.sequence.name ≡ x.sequence.name → y.room ≡ x.room + 1
      → spare_or (spare_of a (spares ks)) m + count_of a (n ∷ []) ≤ spare_or (spare_of a (spares (set ks i y))) m
  more-by a ks i x y m h e is same more =
      rw (room-set a ks i x y m h e same, count-one a n, sym is) (at (same_name x.sequence.name a) refl)
    where
      at : (b : Bool) → same_name x.sequence.name a ≡ b → spare_or (spare_of a (spares ks)) m + (if b then 1 else 0) ≤ (if b then y.room else spare_or (spare_of a (spares ks)) m)
      at true p =
          let here : spare_or (spare_of a (spares ks)) m ≡ x.room = ap (λ a. spare_or (spare_of a (spares ks)) m) (sym (named.name-is x.sequence.name a p)) ∙ room-here ks i x m h e in
          omega arith
      at false p = omega arith

  pub makes-there : (ks prepared : List Kept) (i : ℕ) (x y : Kept) → Rising ks → slice_get ks i ≡ Some x → x.sequence.name ≡ n → y.sequence.name ≡ x.sequence.name → y.room ≡ x.room + 1
      → MakesRoom (room_in ks prepared) (room_in (set ks i y) prepared) n
  makes-there ks prepared i x y h e is same more a = more-by a ks i x y (room_under a prepared) h e is same more

  pub makes-under : (ks : List Kept) (i : ℕ) (x y : Kept) → Rising ks → slice_get ks i ≡ Some x → x.sequence.name ≡ n → y.sequence.name ≡ x.sequence.name → y.room ≡ x.room + 1
      → (a : Name) → room_under a ks + count_of a (n ∷ []) ≤ room_under a (set ks i y)
  makes-under ks i x y h e is same more a = more-by a ks i x y 0 h e is same more

  pub makes-new : (ks : List Kept) (i : ℕ) (y : Kept) → LacksName n ks i → y.sequence.name ≡ n → y.room ≡ 1 → (a : Name) → room_under a ks + count_of a (n ∷ []) ≤ room_under a (insert ks i y)
  makes-new ks i y f is one a =
      let g : LacksName y.sequence.name ks i = subst (λ n. LacksName n ks i) (sym is) f in
      rw (room-insert a ks i y 0 g, count-one a n, sym is) (at (same_name y.sequence.name a) refl g)
    where
      at : (b : Bool) → same_name y.sequence.name a ≡ b → LacksName y.sequence.name ks i → room_under a ks + (if b then 1 else 0) ≤ (if b then y.room else room_under a ks)
      at true p g =
          let none : room_under a ks ≡ 0 = room-none a ks i 0 (subst (λ n. LacksName n ks i) (named.name-is y.sequence.name a p) g) in omega arith
      at false p g = omega arith

  -- where the sequence is not there, room among the others is room for it
  pub makes-prepared : (ks old new : List Kept) (i : ℕ) → LacksName n ks i → ((a : Name) → room_under a old + count_of a (n ∷ []) ≤ room_under a new) → MakesRoom (room_in ks old) (room_in ks new) n
  makes-prepared ks old new i f more a = rw (spare-kept a ks (room_under a old), spare-kept a ks (room_under a new)) (at (kept_under a ks) refl)
    where
      at : (o : Option Kept) → kept_under a ks ≡ o → room_or o (room_under a old) + count_of a (n ∷ []) ≤ room_or o (room_under a new)
      at None e = more a
      at (Some k) e = rw (count-one a n) (by (same_name n a) refl)
        where
          by : (b : Bool) → same_name n a ≡ b → k.room + (if b then 1 else 0) ≤ k.room
          by true p =
              let none : kept_under a ks ≡ None = ap (λ a. kept_under a ks) (sym (named.name-is n a p)) ∙ kept-none n ks i f in
              absurd (cc)
          by false p = omega arith

-- ---- room that stays

pub at-least : {T E : Type 0} (r : Result T E) (n m : ℕ) → OnOk r (m ≡ n + 1) → OnErr r (m ≡ n) → n ≤ m
at-least (Ok x) n m p q = omega (arith, p)
at-least (Err x) n m p q = omega (arith, q)

pub on-ok-then : {T E P Q : Type 0} (r : Result T E) → OnOk r P → (P → Q) → OnOk r Q
on-ok-then (Ok x) p f = f p
on-ok-then (Err x) p f = tt

pub keeps-by : (a : Name) (ks : List Kept) (i : ℕ) (x y : Kept) (m : ℕ) → Rising ks → slice_get ks i ≡ Some x → y.sequence.name ≡ x.sequence.name → x.room ≤ y.room
    → spare_or (spare_of a (spares ks)) m ≤ spare_or (spare_of a (spares (set ks i y))) m
keeps-by a ks i x y m h e same le = rw (room-set a ks i x y m h e same) (at (same_name x.sequence.name a) refl)
  where
    at : (b : Bool) → same_name x.sequence.name a ≡ b → spare_or (spare_of a (spares ks)) m ≤ (if b then y.room else spare_or (spare_of a (spares ks)) m)
    at true p =
        let here : spare_or (spare_of a (spares ks)) m ≡ x.room = ap (λ a. spare_or (spare_of a (spares ks)) m) (sym (named.name-is x.sequence.name a p)) ∙ room-here ks i x m h e in
        omega arith
    at false p = omega arith

pub keeps-prepared : (ks old new : List Kept) → ((a : Name) → room_under a old ≤ room_under a new) → KeepsRoom (room_in ks old) (room_in ks new)
keeps-prepared ks old new more a = rw (spare-kept a ks (room_under a old), spare-kept a ks (room_under a new)) (at (kept_under a ks))
  where
    at : (o : Option Kept) → room_or o (room_under a old) ≤ room_or o (room_under a new)
    at None = more a
    at (Some k) = omega arith

-- ---- room that is taken

pub takes-there : (ks prepared : List Kept) (i : ℕ) (x y : Kept) → Rising ks → slice_get ks i ≡ Some x → y.sequence.name ≡ x.sequence.name → y.room ≡ x.room - 1
    → TakesRoom (room_in ks prepared) (room_in (set ks i y) prepared) (x.sequence.name ∷ [])
takes-there ks prepared i x y h e same less a =
    rw (room-set a ks i x y (room_under a prepared) h e same, count-one a x.sequence.name) (at (same_name x.sequence.name a) refl)
  where
    at : (b : Bool) → same_name x.sequence.name a ≡ b → room_of a (room_in ks prepared) ≤ (if b then y.room else room_of a (room_in ks prepared)) + (if b then 1 else 0)
    at true p =
        let here : room_of a (room_in ks prepared) ≡ x.room = ap (λ b. spare_or (spare_of b (spares ks)) (room_under a prepared)) (sym (named.name-is x.sequence.name a p)) ∙ room-here ks i x (room_under a prepared) h e in
        omega arith
    at false p = omega arith

module _ (n : Name) (ks old new : List Kept) (i room : ℕ) (f : LacksName n ks i) (t : IsTakenOut n old new room) where
  pub takes-new : (y : Kept) → y.sequence.name ≡ n → y.room ≡ room - 1 → TakesRoom (room_in ks old) (room_in (insert ks i y) new) (n ∷ [])
  takes-new y is less a =
      let g : LacksName y.sequence.name ks i = subst (λ n. LacksName n ks i) (sym is) f in
      rw (room-insert a ks i y (room_under a new) g, count-one a n, is) (at (same_name n a) refl)
    where
      at : (b : Bool) → same_name n a ≡ b → room_of a (room_in ks old) ≤ (if b then y.room else room_of a (room_in ks new)) + (if b then 1 else 0)
      at true p =
          let is-name : n ≡ a = named.name-is n a p in
          let none : room_of a (room_in ks old) ≡ room_under a old = room-none a ks i (room_under a old) (subst (λ n. LacksName n ks i) is-name f) in
          let was : room ≡ room_under a old = t.same ∙ ap (λ n. room_under n old) is-name in
          omega arith
      at false p =
          let same : room_under a new ≡ room_under a old = t.others a ∙ ap (λ b. if b then 0 else room_under a old) p in
          let kept : room_of a (room_in ks new) ≡ room_of a (room_in ks old) = ap (λ m. spare_or (spare_of a (spares ks)) m) same in
          omega arith

-- ---- a prepared sequence is taken out

blanks-remove : (ks : List Kept) (i : ℕ) → AreBlank ks → AreBlank (remove ks i)
blanks-remove [] zero h = tt
blanks-remove [] (suc i) h = tt
blanks-remove (k ∷ ks) zero h = h.1
blanks-remove (k ∷ ks) (suc i) h = (h.0, blanks-remove ks i h.1)

pub blank-at : (ks : List Kept) (i : ℕ) (k : Kept) → AreBlank ks → slice_get ks i ≡ Some k → k.sequence ≡ blank k.sequence.name
blank-at [] i k h e = absurd (cc)
blank-at (x ∷ ks) zero k h e = let same : x ≡ k = cc in subst (λ k. k.sequence ≡ blank k.sequence.name) same h.0
blank-at (x ∷ ks) (suc i) k h e = blank-at ks i k h.1 e

pub taken-out : (n : Name) (ks : List Kept) (i : ℕ) (f : HasName n ks i) → Rising ks → AreBlank ks → IsTakenOut n ks (remove ks i) f.kept.room
taken-out n ks i f h blanks = record {
  rising = named.rises-without name_of ks i f.kept f.here h;
  blanks = blanks-remove ks i blanks;
  same = sym (ap (λ n. room_under n ks) (sym f.named) ∙ room-here ks i f.kept 0 h f.here);
  others = λ b. room-remove b ks i f.kept 0 h f.here ∙ ap (λ n. if same_name n b then 0 else room_under b ks) f.named;
}

-- one letter of a sequence is one
pub count-own : (n : Name) → count_of n (n ∷ []) ≡ 1
count-own n = count-one n n ∙ ap (λ b. if b then 1 else 0) (named.name-refl n)

-- ---- many letters

count-two : (a n m : Name) (names : List Name) → count_of a (n ∷ m ∷ names) ≡ count_of a (n ∷ []) + count_of a (m ∷ names)
count-two a n m names = at (same_name n a)
  where
    at : (b : Bool) → length (cond b (n ∷ filter (λ b. same_name b a) (m ∷ names)) (filter (λ b. same_name b a) (m ∷ names))) ≡ length (cond b (n ∷ []) []) + count_of a (m ∷ names)
    at true = omega arith
    at false = omega arith

pub count-first : (a n : Name) (names : List Name) → count_of a (n ∷ names) ≡ count_of a (n ∷ []) + count_of a names
count-first a n [] = omega arith
count-first a n (m ∷ names) = count-two a n m names

-- what is left of the room after a letter is room for the others
pub room-left : (old new : Room) (n : Name) (names : List Name) → HasRoom old (n ∷ names) → TakesRoom old new (n ∷ []) → HasRoom new names
room-left old new n names has takes a = let h = has a in let t = takes a in let c = count-first a n names in omega (arith, h, t, c)

count-more : (a : Name) (xs : List Name) (n : Name) → count_of a (xs ++ n ∷ []) ≡ count_of a xs + count_of a (n ∷ [])
count-more a [] n = omega arith
count-more a (x ∷ xs) n = omega (arith, count-first a x (xs ++ n ∷ []), count-first a x xs, count-more a xs n)

sequences-more : (whole : Option Name) (ls : List Letter) (i : ℕ) (l : Letter) → i < length ls → l ≡ get_or ls i l → sequences_of whole (take (i + 1) ls) ≡ sequences_of whole (take i ls) ++ sequence_of whole l ∷ []
sequences-more whole [] i l lt e = absurd (omega arith)
sequences-more whole (x ∷ xs) zero l lt e = ap (λ l. sequence_of whole l ∷ []) (sym e)
sequences-more whole (x ∷ xs) (suc i) l lt e =
    let s : suc i + 1 ≡ suc (i + 1) = omega arith in
    ap (λ n. sequences_of whole (take n (x ∷ xs))) s ∙ ap (λ ns. sequence_of whole x ∷ ns) (sequences-more whole xs i l (omega arith) e)

-- one letter more has room
pub room-more : (whole : Option Name) (old before after : Room) (ls : List Letter) (i : ℕ) (l : Letter) → i < length ls → l ≡ get_or ls i l
    → ((a : Name) → room_of a old + count_of a (sequences_of whole (take i ls)) ≤ room_of a before) → MakesRoom before after (sequence_of whole l)
    → (a : Name) → room_of a old + count_of a (sequences_of whole (take (i + 1) ls)) ≤ room_of a after
room-more whole old before after ls i l lt e so-far more a =
    let c : count_of a (sequences_of whole (take (i + 1) ls)) ≡ count_of a (sequences_of whole (take i ls)) + count_of a (sequence_of whole l ∷ []) =
    ap (count_of a) (sequences-more whole ls i l lt e) ∙ count-more a (sequences_of whole (take i ls)) (sequence_of whole l) in
    let p = so-far a in let q = more a in omega (arith, p, q, c)
