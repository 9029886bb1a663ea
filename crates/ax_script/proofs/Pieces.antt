-- The lines of a script, one after the other, as a loop takes them.
use Rattle.std.proofs.Common.{◌≡◌, ℕ, suc, ◌+◌, ◌<◌, ◌==◌, Bool, true, false, List, [], ◌∷◌, length, Option, Some, None, Result, Ok, Err, refl, sym, ap, ◌∙◌, length-append, zero-add, arith}
use Rattle.ax_values.specs.Grammar.{Line, Cut, in_front, piece_step, pieces, cut_step, cut_at}
use Rattle.ax_values.proofs.Cuts.{from_cut}
use Rattle.ax_journal.specs.Form.{is_built}
use Rattle.ax_script.specs.Lines.{rest_of, ended_of, ended_lines, last_bytes}
use Rattle.ax_script.specs.Judging.{Reading}
use Rattle.ax_script.specs.Plans.{Plan}
use Rattle.ax_script.specs.Reading.{Wrong, line_read, read_on, lines_read, unless_cut}
use Rattle.ax_script.specs.Read.{IsFault}
use Rattle.ax_script.specs.declared.kind.ScriptKind.{ScriptKind}
use Rattle.ax_script.specs.declared.kind.ScriptFault.{ScriptFault}

-- the script, of which the lines from the number n on and the bytes behind them are left
abbrev pub script_from : ℕ → Reading → Line → Result Plan Wrong
script_from n r text = unless_cut (length (ended_lines text) + n) (last_bytes text) (lines_read is_built n r (ended_lines text))

-- ---- the first line of what is left

-- the pieces, by where the first one ends
abbrev cut_pieces : Line → Option Cut → List Line
cut_pieces w None = w ∷ []
cut_pieces w (Some t) = t.before ∷ pieces 10 t.after

piece-at : (b : Bool) (c : ℕ) (cs : Line) (later : Option Cut) → pieces 10 cs ≡ cut_pieces cs later → piece_step b c (pieces 10 cs) ≡ cut_pieces (c ∷ cs) (cut_step b c cs later)
piece-at true c cs later h = refl
piece-at false c cs None h = ap (in_front c) h
piece-at false c cs (Some t) h = ap (in_front c) h

pieces-are : (w : Line) → pieces 10 w ≡ cut_pieces w (cut_at 10 w)
pieces-are [] = refl
pieces-are (c ∷ cs) = piece-at (c == 10) c cs (cut_at 10 cs) (pieces-are cs)

pieces-at : (w : Line) (found : Option Cut) → cut_at 10 w ≡ found → pieces 10 w ≡ cut_pieces w found
pieces-at w found h = pieces-are w ∙ ap (cut_pieces w) h

-- there is a piece
record Begins (ws : List Line) : Type 0 where
  first : Line
  rest : List Line
  is : ws ≡ first ∷ rest

begins-step : (b : Bool) (c : ℕ) (ws : List Line) → Begins (piece_step b c ws)
begins-step true c ws = record { first = []; rest = ws; is = refl }
begins-step false c [] = record { first = c ∷ []; rest = []; is = refl }
begins-step false c (w ∷ ws) = record { first = c ∷ w; rest = ws; is = refl }

begins : (text : Line) → Begins (pieces 10 text)
begins [] = record { first = []; rest = []; is = refl }
begins (c ∷ cs) = begins-step _ c (pieces 10 cs)

ended-more : (l : Line) (ws : List Line) → Begins ws → ended_of (l ∷ ws) ≡ l ∷ ended_of ws
ended-more l ws b = ap (λ ws. ended_of (l ∷ ws)) b.is ∙ sym (ap (λ ws. l ∷ ended_of ws) b.is)

rest-more : (l : Line) (ws : List Line) → Begins ws → rest_of (l ∷ ws) ≡ rest_of ws
rest-more l ws b = ap (λ ws. rest_of (l ∷ ws)) b.is ∙ sym (ap rest_of b.is)

next-ended : (text : Line) (t : Cut) → cut_at 10 text ≡ Some t → ended_lines text ≡ t.before ∷ ended_lines t.after
next-ended text t h = ap ended_of (pieces-at text (Some t) h) ∙ ended-more t.before (pieces 10 t.after) (begins t.after)

next-rest : (text : Line) (t : Cut) → cut_at 10 text ≡ Some t → last_bytes text ≡ last_bytes t.after
next-rest text t h = ap rest_of (pieces-at text (Some t) h) ∙ rest-more t.before (pieces 10 t.after) (begins t.after)

-- what is left behind a line is shorter
pub shorter : (text : Line) (t : Cut) → cut_at 10 text ≡ Some t → length t.after < length text
shorter text t h = let c = from_cut 10 text t h in omega (arith, ap length c.whole, length-append t.before (10 ∷ t.after))

-- ---- the script from there on

from-next : (n : ℕ) (r : Reading) (text : Line) (t : Cut) → cut_at 10 text ≡ Some t →
    script_from n r text ≡ unless_cut (suc (length (ended_lines t.after)) + n) (last_bytes t.after) (read_on n (line_read is_built r t.before) (λ next. lines_read is_built (n + 1) next (ended_lines t.after)))
from-next n r text t h =
    ap (λ ls. unless_cut (length ls + n) (last_bytes text) (lines_read is_built n r ls)) (next-ended text t h)
    ∙ ap (λ l. unless_cut (suc (length (ended_lines t.after)) + n) l (lines_read is_built n r (t.before ∷ ended_lines t.after))) (next-rest text t h)

read-ok : (n : ℕ) (m : Result Reading ScriptKind) (next : Reading) (later : Reading → Result Reading Wrong) → read_on n m Ok ≡ Ok next → read_on n m later ≡ later next
read-ok n (Ok r) next later h = let same : r ≡ next = cc in ap later same
read-ok n (Err kind) next later h = absurd (cc)

read-err : (n : ℕ) (m : Result Reading ScriptKind) (w : Wrong) (later : Reading → Result Reading Wrong) → read_on n m Ok ≡ Err w → read_on n m later ≡ Err w
read-err n (Ok r) w later h = absurd (cc)
read-err n (Err kind) w later h = h

-- a good line
pub goes-on : (n : ℕ) (r next : Reading) (text : Line) (t : Cut) (whole : Result Plan Wrong) → cut_at 10 text ≡ Some t → read_on n (line_read is_built r t.before) Ok ≡ Ok next →
    script_from n r text ≡ whole → script_from (n + 1) next t.after ≡ whole
goes-on n r next text t whole h k e =
    let count : length (ended_lines t.after) + (n + 1) ≡ suc (length (ended_lines t.after)) + n = omega arith in
    ap (λ c. unless_cut c (last_bytes t.after) (lines_read is_built (n + 1) next (ended_lines t.after))) count
    ∙ sym (ap (unless_cut (suc (length (ended_lines t.after)) + n) (last_bytes t.after)) (read-ok n (line_read is_built r t.before) next (λ next. lines_read is_built (n + 1) next (ended_lines t.after)) k))
    ∙ sym (from-next n r text t h) ∙ e

-- a faulty line
pub stops-at : (n : ℕ) (r : Reading) (text : Line) (t : Cut) (w : Wrong) (whole : Result Plan Wrong) → cut_at 10 text ≡ Some t → read_on n (line_read is_built r t.before) Ok ≡ Err w →
    script_from n r text ≡ whole → whole ≡ Err w
stops-at n r text t w whole h k e =
    sym e ∙ from-next n r text t h
    ∙ ap (unless_cut (suc (length (ended_lines t.after)) + n) (last_bytes t.after)) (read-err n (line_read is_built r t.before) w (λ next. lines_read is_built (n + 1) next (ended_lines t.after)) k)

-- no line is left
pub ends-at : (n : ℕ) (r : Reading) (text : Line) (whole : Result Plan Wrong) → cut_at 10 text ≡ None → script_from n r text ≡ whole → whole ≡ unless_cut n text (Ok r)
ends-at n r text whole h e =
    let one = pieces-at text None h in
    sym e ∙ (ap (λ ws. unless_cut (length (ended_of ws) + n) (rest_of ws) (lines_read is_built n r (ended_of ws))) one ∙ ap (λ n. unless_cut n text (Ok r)) (zero-add n))

-- the fault of a faulty line is that of the script
pub faulty : (n : ℕ) (r : Reading) (text : Line) (t : Cut) (fault : ScriptFault) (whole : Result Plan Wrong) → cut_at 10 text ≡ Some t → IsFault fault (read_on n (line_read is_built r t.before) Ok) →
    script_from n r text ≡ whole → IsFault fault whole
faulty n r text t (ScriptFault.Wrong line kind) whole h k e = stops-at n r text t (record { line = line; kind = kind }) whole h k e
faulty n r text t ScriptFault.Memory whole h k e = tt
