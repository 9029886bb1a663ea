-- The text of a token, and its reader.
use Rattle.std.specs.Prelude.{ℕ, zero, suc, ◌==◌, Bool, true, false, List, [], ◌∷◌, ◌++◌, map, Option, Some, None, option_map}
use Rattle.std.specs.Fmt.{decimal}
use Rattle.ax_values.specs.Grammar.{Line, ◌>>=◌, when, Cut, cut_at, each_in, pieces, u32_in, is_digit}
use Rattle.ax_values.specs.Seen.{commas, bracketed}
use Rattle.ax_tokens.specs.Plain.{Plain, is_canonical_plain}
use Rattle.ax_tokens.specs.Tokens.{Token, plain, merged, replay}

-- ---- texts

abbrev pub gaps_text : List ℕ → Line
gaps_text [] = []
gaps_text (g ∷ gs) = bracketed (commas (map decimal (g ∷ gs)))

abbrev pub plain_text : Plain → Line
plain_text p = decimal p.next ++ gaps_text p.gaps

abbrev pub token_text : Token → Line
token_text (plain p) = plain_text p
token_text (merged l u) = 40 ∷ (token_text l ++ 124 ∷ (token_text u ++ 41 ∷ []))
token_text (replay r c) = 123 ∷ (plain_text r ++ 62 ∷ (plain_text c ++ 125 ∷ []))

-- ---- readers

-- a value and the bytes after it
pub record Found (A : Type 0) : Type 0 where
  pub value : A
  pub rest : Line

abbrev pub digits_step : Bool → ℕ → Line → Cut → Cut
digits_step true c cs later = record { before = c ∷ later.before; after = later.after }
digits_step false c cs later = record { before = []; after = c ∷ cs }

-- the digits at the front, and what stands after them
abbrev pub digits_at : Line → Cut
digits_at [] = record { before = []; after = [] }
digits_at (c ∷ cs) = digits_step (is_digit c) c cs (digits_at cs)

-- the bytes after a byte that must come
abbrev pub after_byte : ℕ → Line → Option Line
after_byte b [] = None
after_byte b (c ∷ cs) = when (c == b) cs

-- the gaps up to the closing bracket, with a comma between each two; no bytes are no number, so that there is one gap at least
abbrev pub closed_gaps_at : Line → Option (Found (List ℕ))
closed_gaps_at cs = do
  t ← cut_at 93 cs
  gaps ← each_in u32_in (pieces 44 t.before)
  Some (record { value = gaps; rest = t.after })

abbrev pub gaps_by : Bool → ℕ → Line → Option (Found (List ℕ))
gaps_by true c cs = closed_gaps_at cs
gaps_by false c cs = Some (record { value = []; rest = c ∷ cs })

-- the gaps in brackets, or none where no bracket comes
abbrev pub gaps_at : Line → Option (Found (List ℕ))
gaps_at [] = Some (record { value = []; rest = [] })
gaps_at (c ∷ cs) = gaps_by (c == 91) c cs

abbrev pub canonical_at : ℕ → Found (List ℕ) → Option (Found Plain)
canonical_at next gaps = when (is_canonical_plain (record { next = next; gaps = gaps.value })) (record { value = record { next = next; gaps = gaps.value }; rest = gaps.rest })

abbrev pub plain_at : Line → Option (Found Plain)
plain_at cs = do
  next ← u32_in (digits_at cs).before
  gaps ← gaps_at (digits_at cs).after
  canonical_at next gaps

abbrev pub plain_token_at : Line → Option (Found Token)
plain_token_at cs = option_map (λ p. record { value = plain p.value; rest = p.rest }) (plain_at cs)

abbrev pub replay_at : Line → Option (Found Token)
replay_at cs = do
  r ← plain_at cs
  middle ← after_byte 62 r.rest
  c ← plain_at middle
  rest ← after_byte 125 c.rest
  Some (record { value = replay r.value c.value; rest = rest })

-- two halves, each read so
abbrev pub halves_at : (Line → Option (Found Token)) → Line → Option (Found Token)
halves_at half_at cs = do
  l ← half_at cs
  middle ← after_byte 124 l.rest
  u ← half_at middle
  rest ← after_byte 41 u.rest
  Some (record { value = merged l.value u.value; rest = rest })

abbrev pub token_by : Bool → Bool → (Line → Option (Found Token)) → ℕ → Line → Option (Found Token)
token_by true b half_at c cs = halves_at half_at cs
token_by false true half_at c cs = replay_at cs
token_by false false half_at c cs = plain_token_at (c ∷ cs)

-- a token at the front, whose halves are read so
abbrev pub token_with : (Line → Option (Found Token)) → Line → Option (Found Token)
token_with half_at [] = None
token_with half_at (c ∷ cs) = token_by (c == 40) (c == 123) half_at c cs

-- a half at the front, with fewer than `room` halves within one another
unfoldable pub half_at : ℕ → Line → Option (Found Token)
half_at zero cs = None
half_at (suc room) cs = token_with (λ half. half_at room half) cs

-- a token at the front, with at most `room` halves within one another
abbrev pub token_at : ℕ → Line → Option (Found Token)
token_at room cs = token_with (λ half. half_at room half) cs

abbrev pub max_depth : ℕ
max_depth = 16

abbrev pub unless_more : {A : Type 0} → A → Line → Option A
unless_more x [] = Some x
unless_more x (c ∷ cs) = None

-- the value where no bytes are left
abbrev pub whole : {A : Type 0} → Found A → Option A
whole f = unless_more f.value f.rest

abbrev pub token_in : Line → Option Token
token_in w = token_at max_depth w >>= whole
