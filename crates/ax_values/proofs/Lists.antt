-- Lists of words, each read.
use Rattle.std.proofs.Common.{◌≡◌, ℕ, zero, suc, ◌+◌, ◌<◌, Bool, true, false, ◌&&◌, length, take, get_or, arith, List, [], ◌∷◌, ◌++◌, map, Option, Some, None, option_map, refl, sym, ap, ◌∙◌, append_assoc}
use Rattle.std.specs.List.{list_all, IsAllAdjacentAnswer}
use Rattle.ax_values.specs.Grammar.{each_in, ◌>>=◌}
use Rattle.ax_values.specs.Words.{rises}
use Rattle.ax_laws.proofs.Tests.{and-true}
use Rattle.ax_values.proofs.Options.{then-some, map-some}

more : {A : Type 0} → A → List A → List A
more x xs = x ∷ xs

with_rest : {X A : Type 0} → (X → Option A) → List X → A → Option (List A)
with_rest read ws x = option_map (more x) (each_in read ws)

-- the values so far, in front of those to come
abbrev pub behind : {A : Type 0} → List A → Option (List A) → Option (List A)
behind xs later = option_map (λ ys. xs ++ ys) later

behind-more : {A : Type 0} (later : Option (List A)) (xs : List A) (x : A) → behind xs (option_map (more x) later) ≡ behind (xs ++ x ∷ []) later
unfolding more
behind-more None xs x = refl
behind-more (Some ys) xs x = ap Some (sym (append_assoc xs (x ∷ []) ys))

-- a word that is read goes to the values so far
pub behind-read : {X A : Type 0} (read : X → Option A) (xs : List A) (x : A) (w : X) (ws : List X) → read w ≡ Some x →
    behind xs (each_in read (w ∷ ws)) ≡ behind (xs ++ x ∷ []) (each_in read ws)
unfolding with_rest more
behind-read read xs x w ws h = ap (λ o. behind xs (o >>= with_rest read ws)) h ∙ behind-more (each_in read ws) xs x

-- a word that is not read leaves no values
pub behind-unread : {X A : Type 0} (read : X → Option A) (xs : List A) (w : X) (ws : List X) → read w ≡ None → behind xs (each_in read (w ∷ ws)) ≡ None
unfolding with_rest more
behind-unread read xs w ws h = ap (λ o. behind xs (o >>= with_rest read ws)) h

pub each_in-push : {X A : Type 0} (read : X → Option A) (ws : List X) (xs : List A) (w : X) (x : A) → each_in read ws ≡ Some xs → read w ≡ Some x →
    each_in read (ws ++ w ∷ []) ≡ Some (xs ++ x ∷ [])
unfolding with_rest more
each_in-push read [] xs w x h k =
    let none : xs ≡ [] = cc in
    ap (λ o. o >>= with_rest read []) k ∙ ap (λ xs. Some (xs ++ x ∷ [])) (sym none)
each_in-push read (v ∷ ws) xs w x h k =
    let p = then-some (read v) (with_rest read ws) xs h in
    let q = map-some (each_in read ws) (more p.from) xs p.gives in
    ap (λ o. o >>= with_rest read (ws ++ w ∷ [])) p.held
    ∙ ap (option_map (more p.from)) (each_in-push read ws q.from w x q.held k)
    ∙ ap (λ xs. Some (xs ++ x ∷ [])) q.gives

-- what is read, each word of it, is written as those words
pub map-each_in : {X A : Type 0} (read : X → Option A) (write : A → X) (back : (w : X) (x : A) → read w ≡ Some x → write x ≡ w) (ws : List X) (xs : List A) →
    each_in read ws ≡ Some xs → map write xs ≡ ws
unfolding with_rest more
map-each_in read write back [] xs h =
    let none : xs ≡ [] = cc in
    ap (map write) none
map-each_in read write back (w ∷ ws) xs h =
    let p = then-some (read w) (with_rest read ws) xs h in
    let q = map-some (each_in read ws) (more p.from) xs p.gives in
    ap (map write) (sym q.gives)
    ∙ ap (λ t. write p.from ∷ t) (map-each_in read write back ws q.from q.held)
    ∙ ap (λ v. v ∷ ws) (back w p.from p.held)

-- a test that each word passes that is read
pub all-each_in : {X A : Type 0} (read : X → Option A) (test : X → Bool) (pass : (w : X) (x : A) → read w ≡ Some x → test w ≡ true) (ws : List X) (xs : List A) →
    each_in read ws ≡ Some xs → list_all test ws ≡ true
unfolding with_rest more
all-each_in read test pass [] xs h = refl
all-each_in read test pass (w ∷ ws) xs h =
    let p = then-some (read w) (with_rest read ws) xs h in
    let q = map-some (each_in read ws) (more p.from) xs p.gives in
    and-true (test w) (list_all test ws) (pass w p.from p.held) (all-each_in read test pass ws q.from q.held)

-- ---- the front of a list

pub take-front : {A : Type 0} (xs ys zs : List A) → take (length xs) ys ≡ xs → take (length xs) (ys ++ zs) ≡ xs
take-front [] ys zs h = refl
take-front (x ∷ xs) [] zs h = cc
take-front (x ∷ xs) (y ∷ ys) zs h =
    let first : y ≡ x = cc in
    let rest : take (length xs) ys ≡ xs = cc in
    ap (λ y. y ∷ take (length xs) (ys ++ zs)) first ∙ ap (λ t. x ∷ t) (take-front xs ys zs rest)

pub front-inner : {A : Type 0} (xs ys zs : List A) → take (length (xs ++ ys)) zs ≡ xs ++ ys → take (length xs) zs ≡ xs
front-inner [] ys zs h = refl
front-inner (x ∷ xs) ys [] h = cc
front-inner (x ∷ xs) ys (z ∷ zs) h =
    let first : z ≡ x = cc in
    let rest : take (length (xs ++ ys)) zs ≡ xs ++ ys = cc in
    ap (λ z. z ∷ take (length xs) zs) first ∙ ap (λ t. x ∷ t) (front-inner xs ys zs rest)

-- ---- neighbours

shift : {A : Type 0} (x : A) (xs : List A) (k : ℕ) (d : A) → get_or (x ∷ xs) (suc k + 1) d ≡ get_or xs (k + 1) d
shift x xs k d = let e : suc k + 1 ≡ suc (k + 1) = omega arith in ap (λ n. get_or (x ∷ xs) n d) e

with-false : (b : Bool) → false ≡ b && false
with-false true = refl
with-false false = refl

apart-below : {A : Type 0} (below : A → A → Bool) (xs : List A) (k : ℕ) → k + 1 < length xs → ((d : A) → false ≡ below (get_or xs k d) (get_or xs (k + 1) d)) → false ≡ rises below xs
apart-below below [] k l h = absurd (omega (arith, l))
apart-below below (x ∷ []) k l h = absurd (omega (arith, l))
apart-below below (x ∷ y ∷ xs) zero l h = ap (λ b. b && rises below (y ∷ xs)) (h x)
apart-below below (x ∷ y ∷ xs) (suc k) l h =
    let rest = apart-below below (y ∷ xs) k (omega (arith, l)) (λ d. h d ∙ ap (below (get_or (y ∷ xs) k d)) (shift x (y ∷ xs) k d)) in
    with-false (below x y) ∙ ap (λ b. below x y && b) rest

all-below : {A : Type 0} (below : A → A → Bool) (xs : List A) → ((k : ℕ) (d : A) → k + 1 < length xs → true ≡ below (get_or xs k d) (get_or xs (k + 1) d)) → true ≡ rises below xs
all-below below [] h = refl
all-below below (x ∷ []) h = refl
all-below below (x ∷ y ∷ xs) h =
    let rest = all-below below (y ∷ xs) (λ k d l. h (suc k) d (omega (arith, l)) ∙ ap (below (get_or (y ∷ xs) k d)) (shift x (y ∷ xs) k d)) in
    rest ∙ ap (λ b. b && rises below (y ∷ xs)) (h 0 x (omega arith))

pub sorted-rises : {A : Type 0} (below : A → A → Bool) (xs : List A) (r : Bool) → IsAllAdjacentAnswer (λ x y b. b ≡ below x y) xs r → r ≡ rises below xs
sorted-rises below xs true h = all-below below xs h
sorted-rises below xs false h = apart-below below xs h.0 h.1 h.2
