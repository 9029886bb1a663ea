-- The grammar of the words, byte by byte: what is cut where, and which bytes are a number, a name or a text.
use Rattle.std.specs.Prelude.{◌≡◌, ℕ, zero, suc, ◌+◌, ◌-◌, ◌*◌, ◌^◌, ◌==◌, Bool, true, false, not, ◌&&◌, ◌||◌, List, [], ◌∷◌, length, fold, Option, Some, None, option_map, option_and_then, ℤ, pos, negsuc, nat_lt, nat_le, if◌then◌else◌}
use Rattle.std.specs.List.{list_all}

-- a name is its bytes
abbrev pub Name : Type 0
Name = List ℕ

abbrev pub Line : Type 0
Line = List ℕ

-- an item of an aggregate: the sequence number of its record, and its part of that record
pub record ItemName : Type 0 where
  pub aggregate : Name
  pub seq : ℕ
  pub part : ℕ

-- an item of an aggregate that is known
pub record Mark : Type 0 where
  pub seq : ℕ
  pub part : ℕ

infixl 10 ◌>>=◌
abbrev pub ◌>>=◌ : {A B : Type 0} → Option A → (A → Option B) → Option B
o >>= f = option_and_then f o

abbrev pub when : {A : Type 0} → Bool → A → Option A
when b x = if b then Some x else None

-- a reader takes a word that was written back to its value
unfoldable pub IsReadBack : {A : Type 0} → (Line → Option A) → Line → A → Type 0
IsReadBack read word value = read word ≡ Some value

-- every word read, where each has a value
abbrev pub each_in : {X A : Type 0} → (X → Option A) → List X → Option (List A)
each_in read [] = Some []
each_in read (w ∷ ws) = read w >>= λ x. option_map (λ xs. x ∷ xs) (each_in read ws)

-- ---- cutting

abbrev pub in_front : ℕ → List Line → List Line
in_front c [] = (c ∷ []) ∷ []
in_front c (w ∷ ws) = (c ∷ w) ∷ ws

-- the pieces so far, after one more byte: one that parts, or one of the first piece
abbrev pub piece_step : Bool → ℕ → List Line → List Line
piece_step true c ws = [] ∷ ws
piece_step false c ws = in_front c ws

-- the pieces between the places of a byte, one at least
abbrev pub pieces : ℕ → Line → List Line
pieces sep [] = [] ∷ []
pieces sep (c ∷ cs) = piece_step (c == sep) c (pieces sep cs)

abbrev pub words_from : Bool → Line → List Line
words_from inside [] = [] ∷ []
words_from inside (c ∷ cs) = piece_step ((c == 32) && not inside) c (words_from (if c == 34 then not inside else inside) cs)

-- the words of a line, parted by one space each; a space within quotes parts nothing
abbrev pub line_words : Line → List Line
line_words line = words_from false line

pub record Cut : Type 0 where
  pub before : Line
  pub after : Line

abbrev pub cut_step : Bool → ℕ → Line → Option Cut → Option Cut
cut_step true c cs later = Some (record { before = []; after = cs })
cut_step false c cs later = option_map (λ t. record { before = c ∷ t.before; after = t.after }) later

-- what stands before and after the first place of a byte
abbrev pub cut_at : ℕ → Line → Option Cut
cut_at sep [] = None
cut_at sep (c ∷ cs) = cut_step (c == sep) c cs (cut_at sep cs)

-- the bytes before a byte that stands at the end
abbrev pub before_last : ℕ → Line → Option Line
before_last last [] = None
before_last last (c ∷ []) = when (c == last) []
before_last last (c ∷ d ∷ cs) = option_map (λ t. c ∷ t) (before_last last (d ∷ cs))

-- the bytes between a first byte and a last one
abbrev pub between : ℕ → ℕ → Line → Option Line
between first last [] = None
between first last (c ∷ cs) = when (c == first) cs >>= before_last last

-- the bytes after a front
abbrev pub after_front : Line → Line → Option Line
after_front [] cs = Some cs
after_front (f ∷ fs) [] = None
after_front (f ∷ fs) (c ∷ cs) = when (c == f) cs >>= after_front fs

-- ---- numbers

abbrev pub is_digit : ℕ → Bool
is_digit c = nat_le 48 c && nat_le c 57

-- what digits are worth, with one more
abbrev pub digit_step : ℕ → ℕ → ℕ
digit_step n c = 10 * n + (c - 48)

abbrev pub digits_value : Line → ℕ
digits_value cs = fold digit_step 0 cs

-- one digit, or a digit other than 0 and then digits
abbrev pub is_numeral : Line → Bool
is_numeral [] = false
is_numeral (c ∷ []) = is_digit c
is_numeral (c ∷ d ∷ cs) = nat_lt 48 c && list_all is_digit (c ∷ d ∷ cs)

-- a number of at most top
abbrev pub number_to : ℕ → Line → Option ℕ
number_to top w = when (is_numeral w && nat_le (digits_value w) top) (digits_value w)

-- a number from low to top
abbrev pub number_from : ℕ → ℕ → Line → Option ℕ
number_from low top w = number_to top w >>= λ n. when (nat_le low n) n

-- a number of 64 bits
abbrev pub number_in : Line → Option ℕ
number_in w = number_to (2 ^ 64 - 1) w

-- a number of 32 bits
abbrev pub u32_in : Line → Option ℕ
u32_in w = number_to (2 ^ 32 - 1) w

abbrev pub negated : ℕ → Option ℤ
negated zero = None
negated (suc n) = Some (negsuc n)

abbrev pub int_by : Bool → ℕ → Line → Option ℤ
int_by true c cs = number_to (2 ^ 63) cs >>= negated
int_by false c cs = option_map pos (number_to (2 ^ 63 - 1) (c ∷ cs))

-- a number, or `-` and a number other than 0, within 64 bits with sign
abbrev pub int_in : Line → Option ℤ
int_in [] = None
int_in (c ∷ cs) = int_by (c == 45) c cs

-- ---- names and texts

abbrev pub is_letter_or_digit : ℕ → Bool
is_letter_or_digit c = (nat_le 48 c && nat_le c 57) || ((nat_le 65 c && nat_le c 90) || (nat_le 97 c && nat_le c 122))

-- a letter, a digit, `_` or `-`
abbrev pub is_name_byte : ℕ → Bool
is_name_byte c = is_letter_or_digit c || ((c == 95) || (c == 45))

-- 1 to 64 such bytes, the first of them a letter or a digit
abbrev pub is_name : Line → Bool
is_name [] = false
is_name (c ∷ cs) = is_letter_or_digit c && (list_all is_name_byte cs && nat_le (length cs) 63)

abbrev pub name_in : Line → Option Name
name_in w = when (is_name w) w

-- a byte of ASCII that is printed
abbrev pub is_plain_byte : ℕ → Bool
is_plain_byte c = nat_le 32 c && nat_le c 126

-- such a byte other than `"` and `\`
abbrev pub is_text_byte : ℕ → Bool
is_text_byte c = is_plain_byte c && not ((c == 34) || (c == 92))

-- what may stand between the quotes of a text
abbrev pub is_content : Line → Bool
is_content t = list_all is_text_byte t && nat_le (length t) 64

abbrev pub text_in : Line → Option Line
text_in w = between 34 34 w >>= λ t. when (is_content t) t
