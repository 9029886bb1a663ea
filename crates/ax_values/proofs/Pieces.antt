-- Words with commas between them: what is read is written so, and what is written is read again.
use Rattle.std.proofs.Common.{◌≡◌, ℕ, ◌==◌, Bool, true, false, not, List, [], ◌∷◌, ◌++◌, Option, Some, None, refl, sym, ap, ◌∙◌, arith}
use Rattle.std.specs.List.{list_all}
use Rattle.std.proofs.lemmas.Bool.Decides.{nat_tests}
use Rattle.std.proofs.lemmas.List.{append-nil}
use Rattle.ax_values.specs.Grammar.{Line, Cut, each_in, in_front, piece_step, pieces, cut_step, cut_at}
use Rattle.ax_values.specs.Seen.{comma_led, commas}
use Rattle.ax_laws.proofs.Tests.{both, not-true}
use Rattle.ax_values.proofs.Cuts.{lacks, same_byte, from_cut}
use Rattle.ax_values.proofs.Lists.{behind, behind-read, behind-unread}

pieces-one : (w : Line) (sep : ℕ) → lacks sep w ≡ true → pieces sep w ≡ w ∷ []
pieces-one [] sep h = refl
pieces-one (c ∷ w) sep h =
    let p = both (not (c == sep)) (lacks sep w) h in
    ap (λ b. piece_step b c (pieces sep w)) (not-true (c == sep) p.0) ∙ ap (in_front c) (pieces-one w sep p.1)

pieces-append : (w : Line) (sep : ℕ) (rest : Line) → lacks sep w ≡ true → pieces sep (w ++ sep ∷ rest) ≡ w ∷ pieces sep rest
pieces-append [] sep rest h = ap (λ b. piece_step b sep (pieces sep rest)) (same_byte sep)
pieces-append (c ∷ w) sep rest h =
    let p = both (not (c == sep)) (lacks sep w) h in
    ap (λ b. piece_step b c (pieces sep (w ++ sep ∷ rest))) (not-true (c == sep) p.0) ∙ ap (in_front c) (pieces-append w sep rest p.1)

pieces-cut : (sep : ℕ) (w : Line) (t : Cut) → cut_at sep w ≡ Some t → pieces sep w ≡ t.before ∷ pieces sep t.after
pieces-cut sep w t h =
    let c = from_cut sep w t h in
    ap (pieces sep) (sym c.whole) ∙ pieces-append t.before sep t.after c.lacking

uncut-step : (b : Bool) (c : ℕ) (cs : Line) (later : Option Cut) → cut_step b c cs later ≡ None → (b ≡ false) × (later ≡ None)
uncut-step true c cs later h = cc
uncut-step false c cs None h = (refl, refl)
uncut-step false c cs (Some t) h = cc

pieces-uncut : (sep : ℕ) (w : Line) → cut_at sep w ≡ None → pieces sep w ≡ w ∷ []
pieces-uncut sep [] h = refl
pieces-uncut sep (c ∷ cs) h =
    let p = uncut-step (c == sep) c cs (cut_at sep cs) h in
    ap (λ b. piece_step b c (pieces sep cs)) p.0 ∙ ap (in_front c) (pieces-uncut sep cs p.1)

pub pieces-commas : (ws : List Line) (w : Line) → list_all (lacks 44) (w ∷ ws) ≡ true → pieces 44 (commas (w ∷ ws)) ≡ w ∷ ws
pieces-commas [] w h = ap (pieces 44) (append-nil w) ∙ pieces-one w 44 (both (lacks 44 w) true h).0
pieces-commas (v ∷ ws) w h =
    let p = both (lacks 44 w) (list_all (lacks 44) (v ∷ ws)) h in
    pieces-append w 44 (commas (v ∷ ws)) p.0 ∙ ap (λ t. w ∷ t) (pieces-commas ws v p.1)

led-step : (b : Bool) (c : ℕ) (ws : List Line) → comma_led (piece_step b c ws) ≡ 44 ∷ commas (piece_step b c ws)
led-step true c ws = refl
led-step false c [] = refl
led-step false c (w ∷ ws) = refl

led-pieces : (cs : Line) → comma_led (pieces 44 cs) ≡ 44 ∷ commas (pieces 44 cs)
led-pieces [] = refl
led-pieces (c ∷ cs) = led-step (c == 44) c (pieces 44 cs)

commas-front : (c : ℕ) (ws : List Line) → commas (in_front c ws) ≡ c ∷ commas ws
commas-front c [] = refl
commas-front c (w ∷ ws) = refl

commas-step : (b : Bool) (c : ℕ) (ws : List Line) → (c == 44) ≡ b → comma_led ws ≡ 44 ∷ commas ws → commas (piece_step b c ws) ≡ c ∷ commas ws
commas-step true c ws e h =
    let comma : 44 ≡ c = grind (arith, nat_tests) in
    h ∙ ap (λ c. c ∷ commas ws) comma
commas-step false c ws e h = commas-front c ws

pub commas-pieces : (cs : Line) → commas (pieces 44 cs) ≡ cs
commas-pieces [] = refl
commas-pieces (c ∷ cs) = commas-step (c == 44) c (pieces 44 cs) refl (led-pieces cs) ∙ ap (λ t. c ∷ t) (commas-pieces cs)

filled-step : (b : Bool) (c : ℕ) (ws : List Line) → piece_step b c ws ≡ [] → ⊥
filled-step true c ws h = cc
filled-step false c [] h = cc
filled-step false c (w ∷ ws) h = cc

-- there is one piece at least
pub pieces-filled : (cs : Line) → pieces 44 cs ≡ [] → ⊥
pieces-filled [] h = cc
pieces-filled (c ∷ cs) h = filled-step (c == 44) c (pieces 44 cs) h

-- of a loop that reads one piece after another: the values so far, in front of those of the rest, are those of the text
abbrev pub IsReadTo : {A : Type 0} → (Line → Option A) → List A → Line → Line → Type 0
IsReadTo read xs rest text = behind xs (each_in read (pieces 44 rest)) ≡ each_in read (pieces 44 text)

module _ {A : Type 0} (read : Line → Option A) where
  pub piece-read : (xs : List A) (x : A) (rest text : Line) (t : Cut) → IsReadTo read xs rest text → cut_at 44 rest ≡ Some t → read t.before ≡ Some x → IsReadTo read (xs ++ x ∷ []) t.after text
  piece-read xs x rest text t h e m =
      sym (behind-read read xs x t.before (pieces 44 t.after) m) ∙ ap (λ ws. behind xs (each_in read ws)) (sym (pieces-cut 44 rest t e)) ∙ h

  pub piece-unread : (xs : List A) (rest text : Line) (t : Cut) → IsReadTo read xs rest text → cut_at 44 rest ≡ Some t → read t.before ≡ None → None ≡ each_in read (pieces 44 text)
  piece-unread xs rest text t h e m =
      sym (behind-unread read xs t.before (pieces 44 t.after) m) ∙ ap (λ ws. behind xs (each_in read ws)) (sym (pieces-cut 44 rest t e)) ∙ h

  pub last-read : (xs : List A) (x : A) (rest text : Line) → IsReadTo read xs rest text → cut_at 44 rest ≡ None → read rest ≡ Some x → Some (xs ++ x ∷ []) ≡ each_in read (pieces 44 text)
  last-read xs x rest text h e m =
      ap Some (sym (append-nil (xs ++ x ∷ [])))
      ∙ sym (behind-read read xs x rest [] m) ∙ ap (λ ws. behind xs (each_in read ws)) (sym (pieces-uncut 44 rest e)) ∙ h

  pub last-unread : (xs : List A) (rest text : Line) → IsReadTo read xs rest text → cut_at 44 rest ≡ None → read rest ≡ None → None ≡ each_in read (pieces 44 text)
  last-unread xs rest text h e m =
      sym (behind-unread read xs rest [] m) ∙ ap (λ ws. behind xs (each_in read ws)) (sym (pieces-uncut 44 rest e)) ∙ h
