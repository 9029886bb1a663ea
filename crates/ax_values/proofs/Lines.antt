-- The words of a line: what is put together by spaces is parted there again.
use Rattle.std.proofs.Common.{◌≡◌, ℕ, ◌==◌, Bool, true, false, not, ◌&&◌, List, [], ◌∷◌, ◌++◌, if◌then◌else◌, refl, sym, ap, ◌∙◌, arith}
use Rattle.std.specs.List.{list_all}
use Rattle.std.proofs.lemmas.Bool.Decides.{nat_tests}
use Rattle.std.proofs.lemmas.List.{append-nil}
use Rattle.ax_values.specs.Grammar.{Line, in_front, piece_step, words_from, line_words}
use Rattle.ax_values.specs.Words.{spaced, words}
use Rattle.ax_laws.proofs.Tests.{both, not-true}
use Rattle.ax_values.proofs.Cuts.{lacks}

-- whether no space of a word parts it, begun within quotes or outside, and it ends outside
abbrev pub stays : Bool → Line → Bool
stays inside [] = not inside
stays inside (c ∷ cs) = not ((c == 32) && not inside) && stays (if c == 34 then not inside else inside) cs

-- ---- together, and parted

words_from-one : (w : Line) (inside : Bool) → stays inside w ≡ true → words_from inside w ≡ w ∷ []
words_from-one [] inside h = refl
words_from-one (c ∷ w) inside h =
    let next = if c == 34 then not inside else inside in
    let p = both (not ((c == 32) && not inside)) (stays next w) h in
    ap (λ b. piece_step b c (words_from next w)) (not-true ((c == 32) && not inside) p.0) ∙ ap (in_front c) (words_from-one w next p.1)

words_from-space : (w : Line) (inside : Bool) (rest : Line) → stays inside w ≡ true → words_from inside (w ++ 32 ∷ rest) ≡ w ∷ words_from false rest
words_from-space [] true rest h = cc
words_from-space [] false rest h = refl
words_from-space (c ∷ w) inside rest h =
    let next = if c == 34 then not inside else inside in
    let p = both (not ((c == 32) && not inside)) (stays next w) h in
    ap (λ b. piece_step b c (words_from next (w ++ 32 ∷ rest))) (not-true ((c == 32) && not inside) p.0) ∙ ap (in_front c) (words_from-space w next rest p.1)

pub line_words-words : (ws : List Line) (w : Line) → list_all (stays false) (w ∷ ws) ≡ true → line_words (words (w ∷ ws)) ≡ w ∷ ws
line_words-words [] w h = ap (words_from false) (append-nil w) ∙ words_from-one w false (both (stays false w) true h).0
line_words-words (v ∷ ws) w h =
    let p = both (stays false w) (list_all (stays false) (v ∷ ws)) h in
    words_from-space w false (words (v ∷ ws)) p.0 ∙ ap (λ t. w ∷ t) (line_words-words ws v p.1)

-- ---- parted, and together

spaced-step : (b : Bool) (c : ℕ) (ws : List Line) → spaced (piece_step b c ws) ≡ 32 ∷ words (piece_step b c ws)
spaced-step true c ws = refl
spaced-step false c [] = refl
spaced-step false c (w ∷ ws) = refl

spaced-words_from : (inside : Bool) (cs : Line) → spaced (words_from inside cs) ≡ 32 ∷ words (words_from inside cs)
spaced-words_from inside [] = refl
spaced-words_from inside (c ∷ cs) = spaced-step ((c == 32) && not inside) c (words_from (if c == 34 then not inside else inside) cs)

words-front : (c : ℕ) (ws : List Line) → words (in_front c ws) ≡ c ∷ words ws
words-front c [] = refl
words-front c (w ∷ ws) = refl

words-step : (b inside : Bool) (c : ℕ) (ws : List Line) → ((c == 32) && not inside) ≡ b → spaced ws ≡ 32 ∷ words ws → words (piece_step b c ws) ≡ c ∷ words ws
words-step true inside c ws e h =
    let p = both (c == 32) (not inside) e in
    let space : 32 ≡ c = grind (arith, nat_tests, p.0) in
    h ∙ ap (λ c. c ∷ words ws) space
words-step false inside c ws e h = words-front c ws

words-words_from : (cs : Line) (inside : Bool) → words (words_from inside cs) ≡ cs
words-words_from [] inside = refl
words-words_from (c ∷ cs) inside =
    let next = if c == 34 then not inside else inside in
    words-step ((c == 32) && not inside) inside c (words_from next cs) refl (spaced-words_from next cs) ∙ ap (λ t. c ∷ t) (words-words_from cs next)

pub words-line_words : (line : Line) → words (line_words line) ≡ line
words-line_words line = words-words_from line false

-- ---- words with and without quotes

pub stays-outside : (x y : Line) → lacks 32 x ≡ true → lacks 34 x ≡ true → stays false (x ++ y) ≡ stays false y
stays-outside [] y s q = refl
stays-outside (c ∷ x) y s q =
    let t = both (not (c == 32)) (lacks 32 x) s in
    let r = both (not (c == 34)) (lacks 34 x) q in
    ap (λ b. not (b && true) && stays (if c == 34 then true else false) (x ++ y)) (not-true (c == 32) t.0)
    ∙ ap (λ b. stays (if b then true else false) (x ++ y)) (not-true (c == 34) r.0)
    ∙ stays-outside x y t.1 r.1

within : (b : Bool) → not (b && false) ≡ true
within true = refl
within false = refl

pub stays-inside : (x y : Line) → lacks 34 x ≡ true → stays true (x ++ y) ≡ stays true y
stays-inside [] y q = refl
stays-inside (c ∷ x) y q =
    let r = both (not (c == 34)) (lacks 34 x) q in
    ap (λ b. b && stays (if c == 34 then false else true) (x ++ y)) (within (c == 32))
    ∙ ap (λ b. stays (if b then false else true) (x ++ y)) (not-true (c == 34) r.0)
    ∙ stays-inside x y r.1

pub stays-plain : (w : Line) → lacks 32 w ≡ true → lacks 34 w ≡ true → stays false w ≡ true
stays-plain w s q = ap (stays false) (sym (append-nil w)) ∙ stays-outside w [] s q
