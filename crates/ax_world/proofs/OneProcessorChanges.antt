-- What is kept of processors, where one of them changes.
use Rattle.std.proofs.Common.{◌≡◌, ℕ, zero, suc, ◌+◌, ◌<◌, ◌≤◌, ◌==◌, Bool, true, false, List, [], ◌∷◌, map, length, Some, slice_get, slice_set, get_or, refl, sym, ap, ◌∙◌, subst, arith}
use Rattle.std.proofs.lemmas.Bool.Decides.{nat_tests}
use Rattle.std.proofs.lemmas.List.{length-map}
use Rattle.ax_state.specs.Every.{option_or, one}
use Rattle.ax_world.specs.WorldTables.{ProcessorRoom, ProcessorTables, ProcessorTablesView, no_room, no_tables, room_in}
use Rattle.ax_world.specs.EditsApplied.{changed_at}

pub map_set : {A B : Type 0} (f : A → B) (xs : List A) (p : ℕ) (y : A) → map f (slice_set xs p y) ≡ slice_set (map f xs) p (f y)
map_set f [] p y = refl
map_set f (x ∷ xs) zero y = refl
map_set f (x ∷ xs) (suc p) y = ap (λ ys. f x ∷ ys) (map_set f xs p y)

-- what stands at a place, as f sees it
pub got_map : {A B : Type 0} (f : A → B) (xs : List A) (p : ℕ) (x : A) → p < length xs → x ≡ get_or xs p x → slice_get (map f xs) p ≡ Some (f x)
got_map f [] p x h e = absurd (omega arith)
got_map f (y ∷ ys) zero x h e = ap (λ z. Some (f z)) (sym e)
got_map f (y ∷ ys) (suc p) x h e = got_map f ys p x (omega arith) e

pub at_map : {A B : Type 0} (f : A → B) (d : B) (xs : List A) (p : ℕ) (x : A) → p < length xs → x ≡ get_or xs p x → option_or d (slice_get (map f xs) p) ≡ f x
at_map f d [] p x h e = absurd (omega arith)
at_map f d (y ∷ ys) zero x h e = ap f (sym e)
at_map f d (y ∷ ys) (suc p) x h e = at_map f d ys p x (omega arith) e

-- what is put there is what was there
pub set_same : {A : Type 0} (d : A) (xs : List A) (p : ℕ) → slice_set xs p (option_or d (slice_get xs p)) ≡ xs
set_same d [] p = refl
set_same d (x ∷ xs) zero = refl
set_same d (x ∷ xs) (suc p) = ap (λ ys. x ∷ ys) (set_same d xs p)

-- one element is replaced by what g makes of it, as f sees them
pub placed : {A B : Type 0} (f : A → B) (d : B) (g : B → B) (xs : List A) (p : ℕ) (x y : A) → p < length xs → x ≡ get_or xs p x → f y ≡ g (f x)
    → map f (slice_set xs p y) ≡ slice_set (map f xs) p (g (option_or d (slice_get (map f xs) p)))
placed f d g xs p x y h e k = map_set f xs p y ∙ ap (slice_set (map f xs) p) (k ∙ ap g (sym (at_map f d xs p x h e)))

-- what f does not tell apart from what was there
pub unseen : {A B : Type 0} (f : A → B) (d : B) (xs : List A) (p : ℕ) (x y : A) → p < length xs → x ≡ get_or xs p x → f y ≡ f x → map f (slice_set xs p y) ≡ map f xs
unseen f d xs p x y h e k = map_set f xs p y ∙ ap (slice_set (map f xs) p) (k ∙ sym (at_map f d xs p x h e)) ∙ set_same d (map f xs) p

-- the tables of the processors, where those of one change
pub tables-placed : (g : ProcessorTables → ProcessorTables) (xs : List ProcessorTablesView) (p : ℕ) (x y : ProcessorTablesView) → p < length xs → x ≡ get_or xs p x → y.place ≡ g x.place
    → map (λ x. x.place) (slice_set xs p y) ≡ changed_at p g (map (λ x. x.place) xs)
tables-placed g xs p x y h e k = placed (λ x. x.place) no_tables g xs p x y h e k

-- ---- of one part of the room

next_equal : (p q : ℕ) (b : Bool) → (p == q) ≡ b → (suc p == suc q) ≡ b
next_equal p q true h = grind (arith, nat_tests, h)
next_equal p q false h = grind (arith, nat_tests, h)

module _ (part : ProcessorRoom → ℕ) where
  rooms_less : (rooms : List ProcessorRoom) (p : ℕ) (n : ProcessorRoom) → part (room_in rooms p) ≤ part n + 1 → (q : ℕ) → part (room_in rooms q) ≤ part (room_in (slice_set rooms p n) q) + one (p == q)
  rooms_less [] p n h q = omega arith
  rooms_less (r ∷ rs) zero n h zero = omega arith
  rooms_less (r ∷ rs) zero n h (suc q) = omega arith
  rooms_less (r ∷ rs) (suc p) n h zero = omega arith
  rooms_less (r ∷ rs) (suc p) n h (suc q) = subst (λ b. part (room_in rs q) ≤ part (room_in (slice_set rs p n) q) + one b) (sym (next_equal p q (p == q) refl)) (rooms_less rs p n h q)

  rooms_more : (rooms : List ProcessorRoom) (p : ℕ) (n : ProcessorRoom) → part (room_in rooms p) ≤ part n → (q : ℕ) → part (room_in rooms q) ≤ part (room_in (slice_set rooms p n) q)
  rooms_more [] p n h q = omega arith
  rooms_more (r ∷ rs) zero n h zero = h
  rooms_more (r ∷ rs) zero n h (suc q) = omega arith
  rooms_more (r ∷ rs) (suc p) n h zero = omega arith
  rooms_more (r ∷ rs) (suc p) n h (suc q) = rooms_more rs p n h q

  room-was : (xs : List ProcessorTablesView) (p : ℕ) (x : ProcessorTablesView) → p < length xs → x ≡ get_or xs p x → part (room_in (map (λ x. x.room) xs) p) ≡ part x.room
  room-was xs p x h e = ap part (at_map (λ x. x.room) no_room xs p x h e)

  -- where one entry more is put
  pub rooms-used : (xs : List ProcessorTablesView) (p : ℕ) (x y : ProcessorTablesView) → p < length xs → x ≡ get_or xs p x → part x.room ≤ part y.room + 1
      → (q : ℕ) → part (room_in (map (λ x. x.room) xs) q) ≤ part (room_in (map (λ x. x.room) (slice_set xs p y)) q) + one (p == q)
  rooms-used xs p x y h e k q =
      subst (λ rooms. part (room_in (map (λ x. x.room) xs) q) ≤ part (room_in rooms q) + one (p == q)) (sym (map_set (λ x. x.room) xs p y))
      (rooms_less (map (λ x. x.room) xs) p y.room (subst (λ n. n ≤ part y.room + 1) (sym (room-was xs p x h e)) k) q)

  -- where none is put
  pub rooms-kept : (xs : List ProcessorTablesView) (p : ℕ) (x y : ProcessorTablesView) → p < length xs → x ≡ get_or xs p x → part x.room ≤ part y.room
      → (q : ℕ) → part (room_in (map (λ x. x.room) xs) q) ≤ part (room_in (map (λ x. x.room) (slice_set xs p y)) q)
  rooms-kept xs p x y h e k q =
      subst (λ rooms. part (room_in (map (λ x. x.room) xs) q) ≤ part (room_in rooms q)) (sym (map_set (λ x. x.room) xs p y))
      (rooms_more (map (λ x. x.room) xs) p y.room (subst (λ n. n ≤ part y.room) (sym (room-was xs p x h e)) k) q)

  below-set : (rooms : List ProcessorRoom) (p : ℕ) (n : ProcessorRoom) (q : ℕ) → q < p → room_in (slice_set rooms p n) q ≡ room_in rooms q
  below-set [] p n q h = refl
  below-set (r ∷ rs) zero n q h = absurd (omega arith)
  below-set (r ∷ rs) (suc p) n zero h = refl
  below-set (r ∷ rs) (suc p) n (suc q) h = below-set rs p n q (omega arith)

  at-set : (rooms : List ProcessorRoom) (p : ℕ) (n : ProcessorRoom) → p < length rooms → room_in (slice_set rooms p n) p ≡ n
  at-set [] p n h = absurd (omega arith)
  at-set (r ∷ rs) zero n h = refl
  at-set (r ∷ rs) (suc p) n h = at-set rs p n (omega arith)

  -- with room in the tables of one processor more
  pub rooms-next : (need : ℕ → ℕ) (xs : List ProcessorTablesView) (p : ℕ) (y : ProcessorTablesView) → p < length xs → need p ≤ part y.room → ((q : ℕ) → q < p → need q ≤ part (room_in (map (λ x. x.room) xs) q))
      → (q : ℕ) → q < p + 1 → need q ≤ part (room_in (map (λ x. x.room) (slice_set xs p y)) q)
  rooms-next need xs p y h enough so_far q lt =
      subst (λ rooms. need q ≤ part (room_in rooms q)) (sym (map_set (λ x. x.room) xs p y)) (at (p == q) refl)
    where
      here : p < length (map (λ x. x.room) xs)
      here = let l : length (map (λ x. x.room) xs) ≡ length xs = length-map xs (λ x. x.room) in omega arith

      at : (b : Bool) → (p == q) ≡ b → need q ≤ part (room_in (slice_set (map (λ x. x.room) xs) p y.room) q)
      at true e =
          let same : p ≡ q = grind (arith, nat_tests, e) in
          subst (λ q. need q ≤ part (room_in (slice_set (map (λ x. x.room) xs) p y.room) q)) same (subst (λ n. need p ≤ part n) (sym (at-set (map (λ x. x.room) xs) p y.room here)) enough)
      at false e =
          let less : q < p = grind (arith, nat_tests, e, lt) in
          subst (λ n. need q ≤ part n) (sym (below-set (map (λ x. x.room) xs) p y.room q less)) (so_far q less)
