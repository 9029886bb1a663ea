-- Words behind a piece that has begun.
use Rattle.std.proofs.Common.{◌≡◌, ◌++◌, ◌+◌, ◌-◌, ◌≤◌, ◌<◌, ◌==◌, List, [], ◌∷◌, ℕ, suc, get_or, Bool, true, false, not, ◌&&◌, if◌then◌else◌, length, take, drop, slice_index, refl, ap, sym, ◌∙◌, append_assoc, drop-cons, arith}
use Rattle.std.proofs.lemmas.List.{append-nil, get_or-drop, length-drop}
use Rattle.std.proofs.Math.Seq.{take-suc}
use Rattle.ax_values.specs.Grammar.{Line, in_front, piece_step, words_from}

-- the pieces, with more bytes before the first
abbrev pub glued : Line → List Line → List Line
glued p [] = p ∷ []
glued p (w ∷ ws) = (p ++ w) ∷ ws

glued_step : (b : Bool) (c : ℕ) (ws : List Line) → glued [] (piece_step b c ws) ≡ piece_step b c ws
glued_step true c ws = refl
glued_step false c [] = refl
glued_step false c (w ∷ ws) = refl

-- nothing before them
pub glued_nothing : (inside : Bool) (cs : Line) → glued [] (words_from inside cs) ≡ words_from inside cs
glued_nothing inside [] = refl
glued_nothing inside (c ∷ cs) = glued_step ((c == 32) && not inside) c (words_from (if c == 34 then not inside else inside) cs)

more : (p : Line) (c : ℕ) (ws : List Line) → glued p (in_front c ws) ≡ glued (p ++ c ∷ []) ws
more p c [] = refl
more p c (w ∷ ws) = ap (λ t. t ∷ ws) (sym (append_assoc p (c ∷ []) w))

-- a byte that parts begins another word
parted : (W : List Line) (p : Line) (c : ℕ) (inside : Bool) (cs : Line) → ((c == 32) && not inside) ≡ true → (c == 34) ≡ false →
    W ++ glued p (words_from inside (c ∷ cs)) ≡ (W ++ p ∷ []) ++ glued [] (words_from inside cs)
parted W p c inside cs b q =
    ap (λ b. W ++ glued p (piece_step b c (words_from (if c == 34 then not inside else inside) cs))) b
    ∙ ap (λ q. W ++ glued p (piece_step true c (words_from (if q then not inside else inside) cs))) q
    ∙ ap (λ t. W ++ t ∷ words_from inside cs) (append-nil p)
    ∙ sym (append_assoc W (p ∷ []) (words_from inside cs))
    ∙ ap (λ ws. (W ++ p ∷ []) ++ ws) (sym (glued_nothing inside cs))

-- any other byte is one more of the word
grown : (W : List Line) (p : Line) (c : ℕ) (inside next : Bool) (cs : Line) → ((c == 32) && not inside) ≡ false → (if c == 34 then not inside else inside) ≡ next →
    W ++ glued p (words_from inside (c ∷ cs)) ≡ W ++ glued (p ++ c ∷ []) (words_from next cs)
grown W p c inside next cs b n =
    ap (λ b. W ++ glued p (piece_step b c (words_from (if c == 34 then not inside else inside) cs))) b
    ∙ ap (λ n. W ++ glued p (piece_step false c (words_from n cs))) n
    ∙ ap (λ ws. W ++ ws) (more p c (words_from next cs))

-- one step of the cut
one_more : (line : Line) (start i : ℕ) → start ≤ i → i < length line → take (suc i - start) (drop start line) ≡ take (i - start) (drop start line) ++ slice_index line i ∷ []
one_more line start i h k =
    let first : suc i - start ≡ suc (i - start) = omega (arith, h) in
    let place : start + (i - start) ≡ i = omega (arith, h) in
    ap (λ n. take n (drop start line)) first
    ∙ take-suc (drop start line) (i - start) 0 (omega (arith, h, k, length-drop start line))
    ∙ ap (λ x. take (i - start) (drop start line) ++ x ∷ []) (get_or-drop start line (i - start) 0 ∙ ap (λ n. get_or line n 0) place)

-- the words after a space at i, where a word has begun at start
part_step : (W : List Line) (line : Line) (start i : ℕ) (inside : Bool) → i < length line → slice_index line i ≡ 32 → inside ≡ false →
    (W ++ take (i - start) (drop start line) ∷ []) ++ glued [] (words_from inside (drop (suc i) line)) ≡ W ++ glued (take (i - start) (drop start line)) (words_from inside (drop i line))
part_step W line start i inside k e f =
    sym (ap (λ cs. W ++ glued (take (i - start) (drop start line)) (words_from inside cs)) (drop-cons line i 0 k)
    ∙ parted W (take (i - start) (drop start line)) (slice_index line i) inside (drop (suc i) line) (ap (λ c. (c == 32) && not inside) e ∙ ap (λ b. not b) f) (ap (λ c. c == 34) e))

-- the words after any other byte
grow_step : (W : List Line) (line : Line) (start i : ℕ) (inside after : Bool) → start ≤ i → i < length line → ((slice_index line i == 32) && not inside) ≡ false → (if slice_index line i == 34 then not inside else inside) ≡ after →
    W ++ glued (take (suc i - start) (drop start line)) (words_from after (drop (suc i) line)) ≡ W ++ glued (take (i - start) (drop start line)) (words_from inside (drop i line))
grow_step W line start i inside after h k b n =
    ap (λ p. W ++ glued p (words_from after (drop (suc i) line))) (one_more line start i h k)
    ∙ sym (ap (λ cs. W ++ glued (take (i - start) (drop start line)) (words_from inside cs)) (drop-cons line i 0 k)
    ∙ grown W (take (i - start) (drop start line)) (slice_index line i) inside after (drop (suc i) line) b n)

plus_one : (i : ℕ) → i + 1 ≡ suc i
plus_one i = omega arith

pub part_next : (W : List Line) (line : Line) (start i : ℕ) (inside : Bool) → i < length line → slice_index line i ≡ 32 → inside ≡ false →
    (W ++ take (i - start) (drop start line) ∷ []) ++ glued (take (i + 1 - (i + 1)) (drop (i + 1) line)) (words_from inside (drop (i + 1) line)) ≡ W ++ glued (take (i - start) (drop start line)) (words_from inside (drop i line))
part_next W line start i inside k e f =
    let none : i + 1 - (i + 1) ≡ 0 = omega arith in
    ap (λ n. (W ++ take (i - start) (drop start line) ∷ []) ++ glued (take n (drop (i + 1) line)) (words_from inside (drop (i + 1) line))) none
    ∙ ap (λ n. (W ++ take (i - start) (drop start line) ∷ []) ++ glued [] (words_from inside (drop n line))) (plus_one i)
    ∙ part_step W line start i inside k e f

pub grow_next : (W : List Line) (line : Line) (start i : ℕ) (inside after : Bool) → start ≤ i → i < length line → ((slice_index line i == 32) && not inside) ≡ false → (if slice_index line i == 34 then not inside else inside) ≡ after →
    W ++ glued (take (i + 1 - start) (drop start line)) (words_from after (drop (i + 1) line)) ≡ W ++ glued (take (i - start) (drop start line)) (words_from inside (drop i line))
grow_next W line start i inside after h k b n =
    ap (λ m. W ++ glued (take (m - start) (drop start line)) (words_from after (drop m line))) (plus_one i) ∙ grow_step W line start i inside after h k b n
