-- What is put together about a byte is cut there again.
use Rattle.std.proofs.Common.{◌≡◌, ℕ, suc, ◌-◌, ◌≤◌, ◌==◌, length, get_or, take, drop, Bool, true, false, not, ◌&&◌, [], ◌∷◌, ◌++◌, Option, Some, option_map, option_and_then, refl, sym, ap, subst, ◌∙◌, arith}
use Rattle.std.specs.List.{list_all}
use Rattle.std.proofs.lemmas.Bool.Decides.{nat_tests}
use Rattle.ax_values.specs.Grammar.{Line, Cut, when, cut_step, cut_at, before_last, between}
use Rattle.ax_laws.proofs.Tests.{both, and-true, not-true}
use Rattle.ax_values.proofs.Options.{when-some, then-some, map-some}

-- no byte is the one that parts
abbrev pub lacks : ℕ → Line → Bool
lacks sep w = list_all (λ c. not (c == sep)) w

pub same_byte : (c : ℕ) → (c == c) ≡ true
same_byte c = grind (arith, nat_tests)

apart : (test : ℕ → Bool) (c sep : ℕ) (b : Bool) → (c == sep) ≡ b → test c ≡ true → test sep ≡ false → not b ≡ true
apart test c sep false e t f = refl
apart test c sep true e t f = let k : c ≡ sep = grind (arith, nat_tests) in let l : test c ≡ test sep = ap test k in cc

-- where each byte passes a test that the one that parts does not
pub lacks-all : (test : ℕ → Bool) (sep : ℕ) (w : Line) → test sep ≡ false → list_all test w ≡ true → lacks sep w ≡ true
lacks-all test sep [] f h = refl
lacks-all test sep (c ∷ w) f h =
    let p = both (test c) (list_all test w) h in
    and-true (not (c == sep)) (lacks sep w) (apart test c sep (c == sep) refl p.0 f) (lacks-all test sep w f p.1)

-- ---- at the first place of a byte

abbrev later_cut : ℕ → Cut → Cut
later_cut c t = record { before = c ∷ t.before; after = t.after }

pub cut_at-append : (x : Line) (sep : ℕ) (y : Line) → lacks sep x ≡ true → cut_at sep (x ++ sep ∷ y) ≡ Some (record { before = x; after = y })
cut_at-append [] sep y h = ap (λ b. cut_step b sep y (cut_at sep y)) (same_byte sep)
cut_at-append (c ∷ x) sep y h =
    let p = both (not (c == sep)) (lacks sep x) h in
    ap (λ b. cut_step b c (x ++ sep ∷ y) (cut_at sep (x ++ sep ∷ y))) (not-true (c == sep) p.0)
    ∙ ap (option_map (later_cut c)) (cut_at-append x sep y p.1)

-- what was cut, put together again
pub record IsCut (sep : ℕ) (w : Line) (t : Cut) : Type 0 where
  pub whole : t.before ++ sep ∷ t.after ≡ w
  pub lacking : lacks sep t.before ≡ true

from_step : (b : Bool) (sep c : ℕ) (cs : Line) (later : Option Cut) (t : Cut) → (c == sep) ≡ b → cut_step b c cs later ≡ Some t →
    ((u : Cut) → later ≡ Some u → IsCut sep cs u) → IsCut sep (c ∷ cs) t
from_step true sep c cs later t e h k =
    let first : Cut = record { before = []; after = cs } in
    let here : first ≡ t = cc in
    let is_sep : sep ≡ c = grind (arith, nat_tests) in
    subst (IsCut sep (c ∷ cs)) here (record { whole = ap (λ s. s ∷ cs) is_sep; lacking = refl })
from_step false sep c cs later t e h k =
    let p = map-some later (later_cut c) t h in
    let q = k p.from p.held in
    subst (IsCut sep (c ∷ cs)) p.gives (record { whole = ap (λ s. c ∷ s) q.whole; lacking = and-true (not (c == sep)) (lacks sep p.from.before) (ap not e) q.lacking })

pub from_cut : (sep : ℕ) (w : Line) (t : Cut) → cut_at sep w ≡ Some t → IsCut sep w t
from_cut sep [] t h = cc
from_cut sep (c ∷ cs) t h = from_step (c == sep) sep c cs (cut_at sep cs) t refl h (from_cut sep cs)

-- ---- between two bytes

before_last-append : (x : Line) (last : ℕ) → before_last last (x ++ last ∷ []) ≡ Some x
before_last-append [] last = ap (λ b. when b []) (same_byte last)
before_last-append (c ∷ []) last = ap (option_map (λ t. c ∷ t)) (before_last-append [] last)
before_last-append (c ∷ d ∷ x) last = ap (option_map (λ t. c ∷ t)) (before_last-append (d ∷ x) last)

pub between-append : (first : ℕ) (x : Line) (last : ℕ) → between first last (first ∷ (x ++ last ∷ [])) ≡ Some x
between-append first x last =
    ap (λ b. option_and_then (before_last last) (when b (x ++ last ∷ []))) (same_byte first) ∙ before_last-append x last

from_last : (last : ℕ) (w x : Line) → before_last last w ≡ Some x → x ++ last ∷ [] ≡ w
from_last last [] x h = cc
from_last last (c ∷ []) x h =
    let p = when-some (c == last) [] x h in
    let e : last ≡ c = grind (arith, nat_tests, p.0) in
    ap (λ x. x ++ last ∷ []) (sym p.1) ∙ ap (λ c. c ∷ []) e
from_last last (c ∷ d ∷ w) x h =
    let p = map-some (before_last last (d ∷ w)) (λ t. c ∷ t) x h in
    ap (λ x. x ++ last ∷ []) (sym p.gives) ∙ ap (λ t. c ∷ t) (from_last last (d ∷ w) p.from p.held)

pub from_between : (first last : ℕ) (w x : Line) → between first last w ≡ Some x → first ∷ (x ++ last ∷ []) ≡ w
from_between first last [] x h = cc
from_between first last (c ∷ cs) x h =
    let p = then-some (when (c == first) cs) (before_last last) x h in
    let q = when-some (c == first) cs p.from p.held in
    let e : first ≡ c = grind (arith, nat_tests, q.0) in
    ap (λ t. first ∷ t) (from_last last p.from x p.gives) ∙ ap (λ t. first ∷ t) (sym q.1) ∙ ap (λ f. f ∷ cs) e

map-when : (c : ℕ) (b : Bool) (x : Line) → option_map (λ t. c ∷ t) (when b x) ≡ when b (c ∷ x)
map-when c true x = refl
map-when c false x = refl

before_last-when : (cs : Line) (c last : ℕ) → before_last last (c ∷ cs) ≡ when (get_or (c ∷ cs) (length cs) 0 == last) (take (length cs) (c ∷ cs))
before_last-when [] c last = refl
before_last-when (d ∷ cs) c last =
    ap (option_map (λ t. c ∷ t)) (before_last-when cs d last) ∙ map-when c (get_or (d ∷ cs) (length cs) 0 == last) (take (length cs) (d ∷ cs))

when-and : (a b : Bool) (y x : Line) (last : ℕ) → before_last last y ≡ when b x → option_and_then (before_last last) (when a y) ≡ when (a && b) x
when-and true b y x last h = h
when-and false b y x last h = refl

-- by the ends alone
pub between-ends : (first last : ℕ) (w : Line) → 2 ≤ length w →
    between first last w ≡ when ((get_or w 0 0 == first) && (get_or w (length w - 1) 0 == last)) (take (length w - 1 - 1) (drop 1 w))
between-ends first last [] h = absurd (omega (arith, h))
between-ends first last (c ∷ []) h = absurd (omega (arith, h))
between-ends first last (c ∷ d ∷ cs) h =
    let end : length (c ∷ d ∷ cs) - 1 ≡ suc (length cs) = omega arith in
    let inner : length (c ∷ d ∷ cs) - 1 - 1 ≡ length cs = omega arith in
    when-and (c == first) (get_or (d ∷ cs) (length cs) 0 == last) (d ∷ cs) (take (length cs) (d ∷ cs)) last (before_last-when cs d last)
    ∙ sym (ap (λ n. when ((c == first) && (get_or (c ∷ d ∷ cs) n 0 == last)) (take (length (c ∷ d ∷ cs) - 1 - 1) (d ∷ cs))) end
    ∙ ap (λ n. when ((c == first) && (get_or (d ∷ cs) (length cs) 0 == last)) (take n (d ∷ cs))) inner)
