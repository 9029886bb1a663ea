-- The text of a token: what is read is written so, and what is written is read again.
use Rattle.std.proofs.Common.{◌≡◌, ℕ, zero, suc, ◌-◌, ◌^◌, ◌<◌, ◌≤◌, ◌==◌, length, Bool, true, false, not, ◌&&◌, List, [], ◌∷◌, ◌++◌, map, Option, Some, None, option_map, refl, sym, ap, subst, ◌∙◌, append_assoc, arith, nat_lt}
use Rattle.std.specs.List.{list_all}
use Rattle.std.specs.Fmt.{decimal}
use Rattle.std.proofs.lemmas.Bool.Decides.{nat_tests}
use Rattle.std.proofs.lemmas.Fmt.{decimal_nonempty}
use Rattle.ax_values.specs.Grammar.{Line, Cut, when, cut_at, each_in, pieces, u32_in, is_digit, ◌>>=◌}
use Rattle.ax_values.specs.Seen.{comma_led, commas, bracketed}
use Rattle.ax_laws.proofs.Tests.{both, and-true, not-true}
use Rattle.ax_values.proofs.Options.{when-true, when-some, then-some, map-some}
use Rattle.ax_values.proofs.Numbers.{number_to-decimal, from_number_to, digits-decimal}
use Rattle.ax_values.proofs.Cuts.{lacks, cut_at-append, from_cut, same_byte}
use Rattle.ax_values.proofs.Items.{lacks-decimal}
use Rattle.ax_values.proofs.Lists.{map-each_in}
use Rattle.ax_tokens.specs.Plain.{Plain, is_canonical_plain}
use Rattle.ax_tokens.specs.Tokens.{Token, plain, merged, replay, depth, is_canonical, is_small}
use Rattle.ax_tokens.specs.TokenText.{gaps_text, plain_text, token_text, Found, digits_step, digits_at, after_byte, closed_gaps_at, gaps_by, gaps_at, canonical_at, plain_at, plain_token_at, replay_at, halves_at, token_by, token_with, half_at, token_at, max_depth, whole, token_in}
use Rattle.ax_tokens.proofs.Gaps.{canonical-below}
use Rattle.ax_values.proofs.Pieces.{pieces-commas, commas-pieces, pieces-filled}

-- ---- what is read is written so

pub from_digits : (cs : Line) → (digits_at cs).before ++ (digits_at cs).after ≡ cs
from_digits [] = refl
from_digits (c ∷ cs) = at (is_digit c) (from_digits cs)
  where
    at : (b : Bool) → (digits_at cs).before ++ (digits_at cs).after ≡ cs → (digits_step b c cs (digits_at cs)).before ++ (digits_step b c cs (digits_at cs)).after ≡ c ∷ cs
    at true e = ap (λ t. c ∷ t) e
    at false e = refl

from_byte : (b : ℕ) (cs rest : Line) → after_byte b cs ≡ Some rest → b ∷ rest ≡ cs
from_byte b [] rest h = cc
from_byte b (c ∷ cs) rest h =
    let p = when-some (c == b) cs rest h in
    let e : b ≡ c = grind (arith, nat_tests, p.0) in
    ap (λ r. b ∷ r) (sym p.1) ∙ ap (λ d. d ∷ cs) e

number-back : (w : Line) (n : ℕ) → u32_in w ≡ Some n → decimal n ≡ w
number-back w n h = (from_number_to (2 ^ 32 - 1) w n (omega arith) h).text

-- what the text of gaps is, where these are the words between commas
gaps_text-is : (gs : List ℕ) (inner : Line) → map decimal gs ≡ pieces 44 inner → gaps_text gs ≡ bracketed inner
gaps_text-is [] inner h = absurd (pieces-filled inner (sym h))
gaps_text-is (g ∷ gs) inner h = ap bracketed (ap commas h ∙ commas-pieces inner)

given_gaps : Cut → List ℕ → Option (Found (List ℕ))
given_gaps t gs = Some (record { value = gs; rest = t.after })

gaps_cut : Cut → Option (Found (List ℕ))
gaps_cut t = each_in u32_in (pieces 44 t.before) >>= given_gaps t

from_closed : (cs : Line) (f : Found (List ℕ)) → closed_gaps_at cs ≡ Some f → gaps_text f.value ++ f.rest ≡ 91 ∷ cs
unfolding gaps_cut given_gaps
from_closed cs f h =
    let p = then-some (cut_at 93 cs) gaps_cut f h in
    let q = then-some (each_in u32_in (pieces 44 p.from.before)) (given_gaps p.from) f p.gives in
    let is_found : record { value = q.from; rest = p.from.after } ≡ f = cc in
    let text = gaps_text-is q.from p.from.before (map-each_in u32_in decimal number-back (pieces 44 p.from.before) q.from q.held) in
    subst (λ (f : Found (List ℕ)). gaps_text f.value ++ f.rest ≡ 91 ∷ cs) is_found
    (ap (λ t. t ++ p.from.after) text
    ∙ ap (λ t. 91 ∷ t) (append_assoc p.from.before (93 ∷ []) p.from.after ∙ (from_cut 93 cs p.from p.held).whole))

from_gaps_by : (b : Bool) (c : ℕ) (cs : Line) (f : Found (List ℕ)) → (c == 91) ≡ b → gaps_by b c cs ≡ Some f → gaps_text f.value ++ f.rest ≡ c ∷ cs
from_gaps_by true c cs f e h =
    let same : 91 ≡ c = grind (arith, nat_tests) in
    from_closed cs f h ∙ ap (λ d. d ∷ cs) same
from_gaps_by false c cs f e h =
    let is_found : record { value = []; rest = c ∷ cs } ≡ f = cc in
    subst (λ (f : Found (List ℕ)). gaps_text f.value ++ f.rest ≡ c ∷ cs) is_found refl

from_gaps : (cs : Line) (f : Found (List ℕ)) → gaps_at cs ≡ Some f → gaps_text f.value ++ f.rest ≡ cs
from_gaps [] f h =
    let is_found : record { value = []; rest = [] } ≡ f = cc in
    subst (λ (f : Found (List ℕ)). gaps_text f.value ++ f.rest ≡ []) is_found refl
from_gaps (c ∷ cs) f h = from_gaps_by (c == 91) c cs f refl h

gaps_behind : Line → ℕ → Option (Found Plain)
gaps_behind cs next = gaps_at cs >>= canonical_at next

from_plain : (cs : Line) (f : Found Plain) → plain_at cs ≡ Some f → plain_text f.value ++ f.rest ≡ cs
unfolding gaps_behind
from_plain cs f h =
    let p = then-some (u32_in (digits_at cs).before) (gaps_behind (digits_at cs).after) f h in
    let q = then-some (gaps_at (digits_at cs).after) (canonical_at p.from) f p.gives in
    let r = when-some (is_canonical_plain (record { next = p.from; gaps = q.from.value })) (record { value = record { next = p.from; gaps = q.from.value }; rest = q.from.rest }) f q.gives in
    subst (λ (f : Found Plain). plain_text f.value ++ f.rest ≡ cs) r.1
    (append_assoc (decimal p.from) (gaps_text q.from.value) q.from.rest
    ∙ ap (λ t. t ++ (gaps_text q.from.value ++ q.from.rest)) (number-back (digits_at cs).before p.from p.held)
    ∙ ap (λ t. (digits_at cs).before ++ t) (from_gaps (digits_at cs).after q.from q.held)
    ∙ from_digits cs)

-- what was found, with its text in front of the rest, and no more than n halves within one another
record IsFound (n : ℕ) (f : Found Token) (cs : Line) : Type 0 where
  text : token_text f.value ++ f.rest ≡ cs
  deep : depth f.value ≤ n

from_plain_token : (n : ℕ) (cs : Line) (f : Found Token) → plain_token_at cs ≡ Some f → IsFound n f cs
from_plain_token n cs f h =
    let p = map-some (plain_at cs) (λ p. record { value = plain p.value; rest = p.rest }) f h in
    subst (λ f. IsFound n f cs) p.gives (record { text = from_plain cs p.from p.held; deep = omega arith })

-- two texts, with a byte in front of each and one behind
joined-text : (a b c : ℕ) (x y rest : Line) → (a ∷ (x ++ b ∷ (y ++ c ∷ []))) ++ rest ≡ a ∷ (x ++ b ∷ (y ++ c ∷ rest))
joined-text a b c x y rest = ap (λ t. a ∷ t) (append_assoc x (b ∷ (y ++ c ∷ [])) rest ∙ ap (λ t. x ++ b ∷ t) (append_assoc y (c ∷ []) rest))

-- two texts that were found one after the other
two-found : (a b c : ℕ) (x after_x cs middle y after_y rest : Line) → x ++ after_x ≡ cs → b ∷ middle ≡ after_x → y ++ after_y ≡ middle → c ∷ rest ≡ after_y →
    (a ∷ (x ++ b ∷ (y ++ c ∷ []))) ++ rest ≡ a ∷ cs
two-found a b c x after_x cs middle y after_y rest first second third fourth =
    joined-text a b c x y rest
    ∙ ap (λ t. a ∷ (x ++ b ∷ (y ++ t))) fourth
    ∙ ap (λ t. a ∷ (x ++ b ∷ t)) third
    ∙ ap (λ t. a ∷ (x ++ t)) second
    ∙ ap (λ t. a ∷ t) first

replay_given : Plain → Plain → Line → Option (Found Token)
replay_given r c rest = Some (record { value = replay r c; rest = rest })

replay_end : Plain → Found Plain → Option (Found Token)
replay_end r c = after_byte 125 c.rest >>= replay_given r c.value

replay_second : Plain → Line → Option (Found Token)
replay_second r cs = plain_at cs >>= replay_end r

replay_middle : Found Plain → Option (Found Token)
replay_middle r = after_byte 62 r.rest >>= replay_second r.value

from_replay : (n : ℕ) (cs : Line) (f : Found Token) → replay_at cs ≡ Some f → IsFound n f (123 ∷ cs)
unfolding replay_given replay_end replay_second replay_middle
from_replay n cs f h =
    let p = then-some (plain_at cs) replay_middle f h in
    let q = then-some (after_byte 62 p.from.rest) (replay_second p.from.value) f p.gives in
    let r = then-some (plain_at q.from) (replay_end p.from.value) f q.gives in
    let s = then-some (after_byte 125 r.from.rest) (replay_given p.from.value r.from.value) f r.gives in
    let is_found : record { value = replay p.from.value r.from.value; rest = s.from } ≡ f = cc in
    subst (λ f. IsFound n f (123 ∷ cs)) is_found (record {
      text = two-found 123 62 125 (plain_text p.from.value) p.from.rest cs q.from (plain_text r.from.value) r.from.rest s.from (from_plain cs p.from p.held) (from_byte 62 p.from.rest q.from q.held) (from_plain q.from r.from r.held) (from_byte 125 r.from.rest s.from s.held);
      deep = omega arith;
    })

-- halves that are found so have fewer than n halves within one another
abbrev Finds : ℕ → (Line → Option (Found Token)) → Type 0
Finds n half_at = (cs : Line) (f : Found Token) → half_at cs ≡ Some f → (token_text f.value ++ f.rest ≡ cs) × (depth f.value < n)

merged_given : Token → Token → Line → Option (Found Token)
merged_given l u rest = Some (record { value = merged l u; rest = rest })

merged_end : Token → Found Token → Option (Found Token)
merged_end l u = after_byte 41 u.rest >>= merged_given l u.value

merged_second : (Line → Option (Found Token)) → Token → Line → Option (Found Token)
merged_second half_at l cs = half_at cs >>= merged_end l

merged_middle : (Line → Option (Found Token)) → Found Token → Option (Found Token)
merged_middle half_at l = after_byte 124 l.rest >>= merged_second half_at l.value

from_halves : (n : ℕ) (half_at : Line → Option (Found Token)) → Finds n half_at → (cs : Line) (f : Found Token) → halves_at half_at cs ≡ Some f → IsFound n f (40 ∷ cs)
unfolding merged_given merged_end merged_second merged_middle
from_halves n half_at back cs f h =
    let p = then-some (half_at cs) (merged_middle half_at) f h in
    let q = then-some (after_byte 124 p.from.rest) (merged_second half_at p.from.value) f p.gives in
    let r = then-some (half_at q.from) (merged_end p.from.value) f q.gives in
    let s = then-some (after_byte 41 r.from.rest) (merged_given p.from.value r.from.value) f r.gives in
    let is_found : record { value = merged p.from.value r.from.value; rest = s.from } ≡ f = cc in
    let lower = back cs p.from p.held in
    let upper = back q.from r.from r.held in
    subst (λ f. IsFound n f (40 ∷ cs)) is_found (record {
      text = two-found 40 124 41 (token_text p.from.value) p.from.rest cs q.from (token_text r.from.value) r.from.rest s.from lower.0 (from_byte 124 p.from.rest q.from q.held) upper.0 (from_byte 41 r.from.rest s.from s.held);
      deep = omega (arith, lower.1, upper.1);
    })

from_by : (n : ℕ) (half_at : Line → Option (Found Token)) → Finds n half_at → (a b : Bool) (c : ℕ) (cs : Line) (f : Found Token) → (c == 40) ≡ a → (c == 123) ≡ b →
    token_by a b half_at c cs ≡ Some f → IsFound n f (c ∷ cs)
from_by n half_at back true b c cs f e g h = let same : 40 ≡ c = grind (arith, nat_tests) in subst (λ d. IsFound n f (d ∷ cs)) same (from_halves n half_at back cs f h)
from_by n half_at back false true c cs f e g h = let same : 123 ≡ c = grind (arith, nat_tests) in subst (λ d. IsFound n f (d ∷ cs)) same (from_replay n cs f h)
from_by n half_at back false false c cs f e g h = from_plain_token n (c ∷ cs) f h

from_with : (n : ℕ) (half_at : Line → Option (Found Token)) → Finds n half_at → (cs : Line) (f : Found Token) → token_with half_at cs ≡ Some f → IsFound n f cs
from_with n half_at back [] f h = cc
from_with n half_at back (c ∷ cs) f h = from_by n half_at back (c == 40) (c == 123) c cs f refl refl h

found-half : (n : ℕ) (f : Found Token) (cs : Line) → IsFound n f cs → (token_text f.value ++ f.rest ≡ cs) × (depth f.value < suc n)
found-half n f cs i = (i.text, let d = i.deep in omega arith)

from_half : (room : ℕ) → Finds room (half_at room)
unfolding half_at
from_half zero cs f h = cc
from_half (suc room) cs f h = found-half room f cs (from_with room (λ half. half_at room half) (from_half room) cs f h)

from_token : (room : ℕ) (cs : Line) (f : Found Token) → token_at room cs ≡ Some f → IsFound room f cs
from_token room cs f h = from_with room (λ half. half_at room half) (from_half room) cs f h

no_more : (w : Line) → w ++ [] ≡ w
no_more [] = refl
no_more (c ∷ w) = ap (λ t. c ∷ t) (no_more w)

empty-is : (xs : Line) → length xs < 1 → xs ≡ []
empty-is [] h = refl
empty-is (x ∷ xs) h = absurd (omega arith)

-- where no bytes are left behind it
pub from_all : (w : Line) (t : Token) (rest : Line) → Some (record { value = t; rest = rest }) ≡ token_at max_depth w → length rest < 1 → token_text t ≡ w
from_all w t rest h k =
    sym (no_more (token_text t))
    ∙ ap (λ r. token_text t ++ r) (sym (empty-is rest k))
    ∙ (from_token max_depth w (record { value = t; rest = rest }) (sym h)).text

pub all-deep : (w : Line) (t : Token) (rest : Line) → Some (record { value = t; rest = rest }) ≡ token_at max_depth w → depth t ≤ max_depth
all-deep w t rest h = (from_token max_depth w (record { value = t; rest = rest }) (sym h)).deep

-- ---- a half, with room and without

pub half-none : (room : ℕ) (cs : Line) → room ≡ 0 → None ≡ half_at room cs
unfolding half_at
half-none zero cs e = refl
half-none (suc room) cs e = absurd (omega arith)

pub half-some : (room : ℕ) (cs : Line) → (room ≡ 0 → ⊥) → token_at (room - 1) cs ≡ half_at room cs
unfolding half_at
half-some zero cs e = absurd (e refl)
half-some (suc room) cs e = let same : suc room - 1 ≡ room = omega arith in ap (λ n. token_at n cs) same

-- ---- what is written is read again

-- what may stand behind a token
abbrev pub stops : Line → Bool
stops [] = true
stops (c ∷ cs) = not (is_digit c) && not (c == 91)

-- what may stand behind digits
abbrev ends : Line → Bool
ends [] = true
ends (c ∷ cs) = not (is_digit c)

ends-stops : (cs : Line) → stops cs ≡ true → ends cs ≡ true
ends-stops [] h = refl
ends-stops (c ∷ cs) h = (both (not (is_digit c)) (not (c == 91)) h).0

digits_at-ends : (cs : Line) → ends cs ≡ true → digits_at cs ≡ record { before = []; after = cs }
digits_at-ends [] h = refl
digits_at-ends (c ∷ cs) h = ap (λ b. digits_step b c cs (digits_at cs)) (not-true (is_digit c) h)

digits_at-append : (ds rest : Line) → list_all is_digit ds ≡ true → ends rest ≡ true → digits_at (ds ++ rest) ≡ record { before = ds; after = rest }
digits_at-append [] rest h e = digits_at-ends rest e
digits_at-append (d ∷ ds) rest h e =
    let p = both (is_digit d) (list_all is_digit ds) h in
    ap (λ b. digits_step b d (ds ++ rest) (digits_at (ds ++ rest))) p.0
    ∙ ap (λ (t : Cut). record { before = d ∷ t.before; after = t.after }) (digits_at-append ds rest p.1 e)

after_byte-is : (b : ℕ) (cs : Line) → after_byte b (b ∷ cs) ≡ Some cs
after_byte-is b cs = ap (λ t. when t cs) (same_byte b)

abbrev AreSmall : ℕ → List ℕ → Type 0
AreSmall n gs = list_all (λ g. nat_lt (suc g) n) gs ≡ true

small-first : (n g : ℕ) (gs : List ℕ) → AreSmall n (g ∷ gs) → n < 2 ^ 32 → g < 2 ^ 32 - 1
small-first n g gs h k =
    let p : nat_lt (suc g) n ≡ true = (both (nat_lt (suc g) n) (list_all (λ g. nat_lt (suc g) n) gs) h).0 in
    let lt : suc g < n = grind (arith, nat_tests) in
    omega arith

small-rest : (n g : ℕ) (gs : List ℕ) → AreSmall n (g ∷ gs) → AreSmall n gs
small-rest n g gs h = (both (nat_lt (suc g) n) (list_all (λ g. nat_lt (suc g) n) gs) h).1

with_gaps : List ℕ → ℕ → Option (List ℕ)
with_gaps gs g = option_map (λ xs. g ∷ xs) (each_in u32_in (map decimal gs))

each-decimal : (gs : List ℕ) (n : ℕ) → AreSmall n gs → n < 2 ^ 32 → each_in u32_in (map decimal gs) ≡ Some gs
unfolding with_gaps
each-decimal [] n h k = refl
each-decimal (g ∷ gs) n h k =
    let low : g < 2 ^ 32 - 1 = small-first n g gs h k in
    ap (λ o. o >>= with_gaps gs) (number_to-decimal (2 ^ 32 - 1) g (omega arith) (omega arith))
    ∙ ap (option_map (λ xs. g ∷ xs)) (each-decimal gs n (small-rest n g gs h) k)

lacking-decimals : (sep : ℕ) (gs : List ℕ) (n : ℕ) → is_digit sep ≡ false → AreSmall n gs → n < 2 ^ 32 → list_all (lacks sep) (map decimal gs) ≡ true
lacking-decimals sep [] n d h k = refl
lacking-decimals sep (g ∷ gs) n d h k =
    let low : g < 2 ^ 32 - 1 = small-first n g gs h k in
    and-true (lacks sep (decimal g)) (list_all (lacks sep) (map decimal gs)) (lacks-decimal sep g d (omega arith)) (lacking-decimals sep gs n d (small-rest n g gs h) k)

lacks-append : (sep : ℕ) (x y : Line) → lacks sep x ≡ true → lacks sep y ≡ true → lacks sep (x ++ y) ≡ true
lacks-append sep [] y h k = k
lacks-append sep (c ∷ x) y h k =
    let p = both (not (c == sep)) (lacks sep x) h in
    and-true (not (c == sep)) (lacks sep (x ++ y)) p.0 (lacks-append sep x y p.1 k)

lacks-led : (ws : List Line) → list_all (lacks 93) ws ≡ true → lacks 93 (comma_led ws) ≡ true
lacks-led [] h = refl
lacks-led (w ∷ ws) h =
    let p = both (lacks 93 w) (list_all (lacks 93) ws) h in
    lacks-append 93 w (comma_led ws) p.0 (lacks-led ws p.1)

lacks-commas : (ws : List Line) → list_all (lacks 93) ws ≡ true → lacks 93 (commas ws) ≡ true
lacks-commas [] h = refl
lacks-commas (w ∷ ws) h =
    let p = both (lacks 93 w) (list_all (lacks 93) ws) h in
    lacks-append 93 w (comma_led ws) p.0 (lacks-led ws p.1)

closed-append : (g : ℕ) (gs : List ℕ) (n : ℕ) (rest : Line) → AreSmall n (g ∷ gs) → n < 2 ^ 32 →
    closed_gaps_at ((commas (map decimal (g ∷ gs)) ++ 93 ∷ []) ++ rest) ≡ Some (record { value = g ∷ gs; rest = rest })
unfolding gaps_cut given_gaps
closed-append g gs n rest h k =
    let t : Line = commas (map decimal (g ∷ gs)) in
    ap closed_gaps_at (append_assoc t (93 ∷ []) rest)
    ∙ ap (λ o. o >>= gaps_cut) (cut_at-append t 93 rest (lacks-commas (map decimal (g ∷ gs)) (lacking-decimals 93 (g ∷ gs) n refl h k)))
    ∙ ap (λ ws. each_in u32_in ws >>= given_gaps (record { before = t; after = rest })) (pieces-commas (map decimal gs) (decimal g) (lacking-decimals 44 (g ∷ gs) n refl h k))
    ∙ ap (λ o. o >>= given_gaps (record { before = t; after = rest })) (each-decimal (g ∷ gs) n h k)

unbracketed : (cs : Line) → stops cs ≡ true → gaps_at cs ≡ Some (record { value = []; rest = cs })
unbracketed [] h = refl
unbracketed (c ∷ cs) h = ap (λ b. gaps_by b c cs) (not-true (c == 91) (both (not (is_digit c)) (not (c == 91)) h).1)

gaps_at-append : (gs : List ℕ) (n : ℕ) (rest : Line) → AreSmall n gs → n < 2 ^ 32 → stops rest ≡ true → gaps_at (gaps_text gs ++ rest) ≡ Some (record { value = gs; rest = rest })
gaps_at-append [] n rest h k s = unbracketed rest s
gaps_at-append (g ∷ gs) n rest h k s = closed-append g gs n rest h k

ends-gaps : (gs : List ℕ) (rest : Line) → stops rest ≡ true → ends (gaps_text gs ++ rest) ≡ true
ends-gaps [] rest s = ends-stops rest s
ends-gaps (g ∷ gs) rest s = refl

plain_by : Cut → Option (Found Plain)
plain_by t = u32_in t.before >>= gaps_behind t.after

pub plain_at-append : (p : Plain) (rest : Line) → is_canonical_plain p ≡ true → p.next < 2 ^ 32 → stops rest ≡ true → plain_at (plain_text p ++ rest) ≡ Some (record { value = p; rest = rest })
unfolding plain_by gaps_behind
plain_at-append p rest h k s =
    let small : AreSmall p.next p.gaps = canonical-below p h in
    ap plain_at (append_assoc (decimal p.next) (gaps_text p.gaps) rest)
    ∙ ap plain_by (digits_at-append (decimal p.next) (gaps_text p.gaps ++ rest) (digits-decimal p.next (omega arith)) (ends-gaps p.gaps rest s))
    ∙ ap (λ o. o >>= gaps_behind (gaps_text p.gaps ++ rest)) (number_to-decimal (2 ^ 32 - 1) p.next (omega arith) (omega arith))
    ∙ ap (λ o. o >>= canonical_at p.next) (gaps_at-append p.gaps p.next rest small k s)
    ∙ when-true (is_canonical_plain p) (record { value = p; rest = rest }) h

-- digits at the front are those of a plain token
leaf-first : (half_at : Line → Option (Found Token)) (ds rest : Line) → list_all is_digit ds ≡ true → 0 < length ds → token_with half_at (ds ++ rest) ≡ plain_token_at (ds ++ rest)
leaf-first half_at [] rest h k = absurd (omega arith)
leaf-first half_at (d ∷ ds) rest h k =
    let p : is_digit d ≡ true = (both (is_digit d) (list_all is_digit ds) h).0 in
    let not_open : (d == 40) ≡ false = grind (arith, nat_tests, p) in
    let not_brace : (d == 123) ≡ false = grind (arith, nat_tests, p) in
    ap (λ b. token_by b (d == 123) half_at d (ds ++ rest)) not_open ∙ ap (λ b. token_by false b half_at d (ds ++ rest)) not_brace

plain-again : (half_at : Line → Option (Found Token)) (p : Plain) (rest : Line) → is_canonical_plain p ≡ true → p.next < 2 ^ 32 → stops rest ≡ true →
    token_with half_at (plain_text p ++ rest) ≡ Some (record { value = plain p; rest = rest })
plain-again half_at p rest h k s =
    ap (token_with half_at) (append_assoc (decimal p.next) (gaps_text p.gaps) rest)
    ∙ leaf-first half_at (decimal p.next) (gaps_text p.gaps ++ rest) (digits-decimal p.next (omega arith)) (decimal_nonempty p.next (omega arith))
    ∙ ap plain_token_at (sym (append_assoc (decimal p.next) (gaps_text p.gaps) rest))
    ∙ ap (option_map (λ (p : Found Plain). record { value = plain p.value; rest = p.rest })) (plain_at-append p rest h k s)

replay-again : (half_at : Line → Option (Found Token)) (r c : Plain) (rest : Line) → is_canonical_plain r ≡ true → r.next < 2 ^ 32 → is_canonical_plain c ≡ true → c.next < 2 ^ 32 →
    token_with half_at (token_text (replay r c) ++ rest) ≡ Some (record { value = replay r c; rest = rest })
unfolding replay_given replay_end replay_second replay_middle
replay-again half_at r c rest h k i j =
    let behind : Line = plain_text c ++ 125 ∷ rest in
    ap (token_with half_at) (joined-text 123 62 125 (plain_text r) (plain_text c) rest)
    ∙ ap (λ o. o >>= replay_middle) (plain_at-append r (62 ∷ behind) h k refl)
    ∙ ap (λ o. o >>= replay_second r) (after_byte-is 62 behind)
    ∙ ap (λ o. o >>= replay_end r) (plain_at-append c (125 ∷ rest) i j refl)
    ∙ ap (λ o. o >>= replay_given r c) (after_byte-is 125 rest)

halves-again : (half_at : Line → Option (Found Token)) (l u : Token) (rest : Line) →
    ((cs : Line) → stops cs ≡ true → half_at (token_text l ++ cs) ≡ Some (record { value = l; rest = cs })) →
    ((cs : Line) → stops cs ≡ true → half_at (token_text u ++ cs) ≡ Some (record { value = u; rest = cs })) →
    token_with half_at (token_text (merged l u) ++ rest) ≡ Some (record { value = merged l u; rest = rest })
unfolding merged_given merged_end merged_second merged_middle
halves-again half_at l u rest f g =
    let behind : Line = token_text u ++ 41 ∷ rest in
    ap (token_with half_at) (joined-text 40 124 41 (token_text l) (token_text u) rest)
    ∙ ap (λ o. o >>= merged_middle half_at) (f (124 ∷ behind) refl)
    ∙ ap (λ o. o >>= merged_second half_at l) (after_byte-is 124 behind)
    ∙ ap (λ o. o >>= merged_end l) (g (41 ∷ rest) refl)
    ∙ ap (λ o. o >>= merged_given l u) (after_byte-is 41 rest)

small-is : (n : ℕ) → nat_lt n (2 ^ 32) ≡ true → n < 2 ^ 32
small-is n h = grind (arith, nat_tests)

half-again : (room : ℕ) (t : Token) (rest : Line) → depth t < room → is_canonical t ≡ true → is_small t ≡ true → stops rest ≡ true → half_at room (token_text t ++ rest) ≡ Some (record { value = t; rest = rest })
unfolding half_at
half-again zero t rest d h k s = absurd (omega arith)
half-again (suc room) (plain p) rest d h k s = plain-again (λ half. half_at room half) p rest h (small-is p.next k) s
half-again (suc room) (merged l u) rest d h k s =
    let i = both (is_canonical l) (is_canonical u) h in
    let j = both (is_small l) (is_small u) k in
    halves-again (λ half. half_at room half) l u rest (λ cs e. half-again room l cs (omega arith) i.0 j.0 e) (λ cs e. half-again room u cs (omega arith) i.1 j.1 e)
half-again (suc room) (replay r c) rest d h k s =
    let i = both (is_canonical_plain r) (is_canonical_plain c) h in
    let j = both (nat_lt r.next (2 ^ 32)) (nat_lt c.next (2 ^ 32)) k in
    replay-again (λ half. half_at room half) r c rest i.0 (small-is r.next j.0) i.1 (small-is c.next j.1)

token-again : (room : ℕ) (t : Token) (rest : Line) → depth t ≤ room → is_canonical t ≡ true → is_small t ≡ true → stops rest ≡ true → token_at room (token_text t ++ rest) ≡ Some (record { value = t; rest = rest })
unfolding half_at
token-again room t rest d h k s = half-again (suc room) t rest (omega arith) h k s

pub again : (t : Token) → depth t ≤ max_depth → is_canonical t ≡ true → is_small t ≡ true → token_in (token_text t) ≡ Some t
again t d h k =
    ap (λ w. token_at max_depth w >>= whole) (sym (no_more (token_text t))) ∙ ap (λ o. o >>= whole) (token-again max_depth t [] d h k refl)
