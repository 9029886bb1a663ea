-- What was seen: what is written is read again, and what is read is written so.
use Rattle.std.proofs.Common.{◌≡◌, ℕ, ◌-◌, ◌^◌, ◌<◌, ◌==◌, Bool, true, false, not, if◌then◌else◌, List, [], ◌∷◌, ◌++◌, map, Option, Some, codes, refl, sym, ap, subst, ◌∙◌, append_assoc, arith}
use Rattle.std.specs.Fmt.{decimal}
use Rattle.std.specs.Str.{bytes_eq}
use Rattle.std.proofs.lemmas.Slice.Eq.{bytes_eq-Decides}
use Rattle.ax_values.specs.Grammar.{Line, when, each_in, pieces, between, u32_in, ◌>>=◌, Mark}
use Rattle.ax_values.specs.Words.{rises, mark_below}
use Rattle.ax_values.specs.Readers.{mark_in}
use Rattle.ax_values.specs.Seen.{comma_led, commas, bracketed, mark_text, marks_text, parked_text, seen_words, comma_pieces, marks_in, parked_in, seen_in}
use Rattle.ax_values.specs.declared.seen.Seen.{Seen}
use Rattle.ax_laws.proofs.Tests.{both, and-true}
use Rattle.ax_values.proofs.Options.{when-true, when-some, then-some}
use Rattle.ax_values.proofs.Numbers.{number_to-decimal, from_number_to}
use Rattle.ax_values.proofs.Cuts.{lacks, between-append, from_between}
use Rattle.ax_values.proofs.Items.{lacks-decimal, from_mark}
use Rattle.ax_values.proofs.Lists.{map-each_in, all-each_in}
use Rattle.ax_values.proofs.Pieces.{pieces-commas, commas-pieces}

-- ---- marks

commas-comma_pieces : (cs : Line) → commas (comma_pieces cs) ≡ cs
commas-comma_pieces [] = refl
commas-comma_pieces (c ∷ cs) = commas-pieces (c ∷ cs)

lacks-append : (sep : ℕ) (x y : Line) → lacks sep x ≡ true → lacks sep y ≡ true → lacks sep (x ++ y) ≡ true
lacks-append sep [] y h k = k
lacks-append sep (c ∷ x) y h k =
    let p = both (not (c == sep)) (lacks sep x) h in
    and-true (not (c == sep)) (lacks sep (x ++ y)) p.0 (lacks-append sep x y p.1 k)

lacks-mark_in : (w : Line) (k : Mark) → mark_in w ≡ Some k → lacks 44 w ≡ true
lacks-mark_in w k h =
    let m = from_mark w k h in
    ap (lacks 44) (sym m.text)
    ∙ lacks-append 44 (decimal k.seq) (46 ∷ decimal k.part) (lacks-decimal 44 k.seq refl (omega (arith, m.seq))) (lacks-decimal 44 k.part refl (omega (arith, m.part)))

filled : (n v s : Line) → comma_pieces ((n ++ 46 ∷ v) ++ s) ≡ pieces 44 ((n ++ 46 ∷ v) ++ s)
filled [] v s = refl
filled (c ∷ n) v s = refl

comma_pieces-commas : (ks : List Mark) → each_in mark_in (map mark_text ks) ≡ Some ks → comma_pieces (commas (map mark_text ks)) ≡ map mark_text ks
comma_pieces-commas [] h = refl
comma_pieces-commas (k ∷ ks) h =
    filled (decimal k.seq) (decimal k.part) (comma_led (map mark_text ks))
    ∙ pieces-commas (map mark_text ks) (mark_text k) (all-each_in mark_in (lacks 44) lacks-mark_in (map mark_text (k ∷ ks)) (k ∷ ks) h)

rising : List Mark → Option (List Mark)
rising ks = when (rises mark_below ks) ks

each_mark : Line → Option (List Mark)
each_mark inner = each_in mark_in (comma_pieces inner) >>= rising

pub marks_in-marks_text : (ks : List Mark) → each_in mark_in (map mark_text ks) ≡ Some ks → rises mark_below ks ≡ true → marks_in (marks_text ks) ≡ Some ks
unfolding each_mark rising
marks_in-marks_text ks h r =
    ap (λ o. o >>= each_mark) (between-append 91 (commas (map mark_text ks)) 93)
    ∙ ap (λ ws. each_in mark_in ws >>= rising) (comma_pieces-commas ks h)
    ∙ ap (λ o. o >>= rising) h
    ∙ when-true (rises mark_below ks) ks r

mark-back : (w : Line) (k : Mark) → mark_in w ≡ Some k → mark_text k ≡ w
mark-back w k h = (from_mark w k h).text

pub from_pieces : (inner : Line) (ks : List Mark) → each_in mark_in (comma_pieces inner) ≡ Some ks → commas (map mark_text ks) ≡ inner
from_pieces inner ks h = ap commas (map-each_in mark_in mark_text mark-back (comma_pieces inner) ks h) ∙ commas-comma_pieces inner

pub from_marks : (w : Line) (ks : List Mark) → marks_in w ≡ Some ks → marks_text ks ≡ w
unfolding each_mark rising
from_marks w ks h =
    let p = then-some (between 91 93 w) each_mark ks h in
    let q = then-some (each_in mark_in (comma_pieces p.from)) rising ks p.gives in
    let r = when-some (rises mark_below q.from) q.from ks q.gives in
    ap marks_text (sym r.1)
    ∙ ap bracketed (from_pieces p.from q.from q.held)
    ∙ from_between 91 93 w p.from p.held

-- ---- seen

pub parked_in-parked_text : (b : Bool) → parked_in (parked_text b) ≡ Some b
parked_in-parked_text true = refl
parked_in-parked_text false = refl

from_parked_by : (p c : Bool) (w : Line) (b : Bool) → bytes_eq (codes "parked") w ≡ p → bytes_eq (codes "clear") w ≡ c → (if p then Some true else when c false) ≡ Some b → parked_text b ≡ w
from_parked_by true c w true e f h = (bytes_eq-Decides (codes "parked") w).0 e
from_parked_by true c w false e f h = cc
from_parked_by false true w true e f h = cc
from_parked_by false true w false e f h = (bytes_eq-Decides (codes "clear") w).0 f
from_parked_by false false w b e f h = cc

pub from_parked : (w : Line) (b : Bool) → parked_in w ≡ Some b → parked_text b ≡ w
from_parked w b h = from_parked_by (bytes_eq (codes "parked") w) (bytes_eq (codes "clear") w) w b refl refl h

seen_given : ℕ → Bool → List Mark → Option Seen
seen_given position parked marks = Some (record { position = position; parked = parked; marks = marks })

pub seen_in-seen_words : (s : Seen) → s.position < 2 ^ 32 → marks_in (marks_text s.marks) ≡ Some s.marks → seen_in (seen_words s) ≡ Some s
unfolding seen_given
seen_in-seen_words s p m =
    ap (λ o. o >>= (λ position. parked_in (parked_text s.parked) >>= (λ parked. marks_in (marks_text s.marks) >>= seen_given position parked)))
    (number_to-decimal (2 ^ 32 - 1) s.position (omega arith) (omega arith))
    ∙ ap (λ o. o >>= (λ parked. marks_in (marks_text s.marks) >>= seen_given s.position parked)) (parked_in-parked_text s.parked)
    ∙ ap (λ o. o >>= seen_given s.position s.parked) m

pub from_seen : (ws : List Line) (s : Seen) → seen_in ws ≡ Some s → seen_words s ≡ ws
unfolding seen_given
from_seen [] s h = cc
from_seen (n ∷ []) s h = cc
from_seen (n ∷ p ∷ []) s h = cc
from_seen (n ∷ p ∷ ms ∷ v ∷ ws) s h = cc
from_seen (n ∷ p ∷ ms ∷ []) s h =
    let q = then-some (u32_in n) (λ position. parked_in p >>= (λ parked. marks_in ms >>= seen_given position parked)) s h in
    let r = then-some (parked_in p) (λ parked. marks_in ms >>= seen_given q.from parked) s q.gives in
    let t = then-some (marks_in ms) (seen_given q.from r.from) s r.gives in
    let is_seen : record { position = q.from; parked = r.from; marks = t.from } ≡ s = cc in
    let number : decimal q.from ≡ n = (from_number_to (2 ^ 32 - 1) n q.from (omega arith) q.held).text in
    let parked : parked_text r.from ≡ p = from_parked p r.from r.held in
    let marks : marks_text t.from ≡ ms = from_marks ms t.from t.held in
    subst (λ s. seen_words s ≡ n ∷ p ∷ ms ∷ []) is_seen
    (ap (λ n. n ∷ parked_text r.from ∷ marks_text t.from ∷ []) number ∙ ap (λ p. n ∷ p ∷ marks_text t.from ∷ []) parked ∙ ap (λ ms. n ∷ p ∷ ms ∷ []) marks)

-- ---- a loop

-- what is written, with one mark more
pub led-next : (out : Line) (k : Mark) (ks : List Mark) → ((out ++ 44 ∷ []) ++ mark_text k) ++ comma_led (map mark_text ks) ≡ out ++ comma_led (map mark_text (k ∷ ks))
led-next out k ks = simp append_assoc
