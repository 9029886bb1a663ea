-- Names, item names and payloads: how they are compared, kept in order and written.
use Rattle.std.specs.Prelude.{ℕ, suc, ◌==◌, Bool, true, ◌&&◌, ◌||◌, List, [], ◌∷◌, ◌++◌, map, Option, Some, None, nat_lt, if◌then◌else◌}
use Rattle.std.specs.List.{list_any}
use Rattle.std.specs.Fmt.{decimal, signed_decimal}
use Rattle.std.specs.Str.{bytes_eq}
use Rattle.std.specs.Cmp.Lexicographic.{slice_cmp}
use Rattle.std.specs.declared.cmp.Ordering.{Ordering}
use Rattle.std.specs.Ordering.{nat_cmp, ordering_then, match_ordering, is_lt}
use Rattle.ax_values.specs.Grammar.{Name, Line, ItemName, Mark}
use Rattle.ax_values.specs.declared.value.Value.{Value}
use Rattle.ax_values.specs.declared.value.Field.{Field}

-- a payload is its fields, rising by name
abbrev pub Payload : Type 0
Payload = List Field

-- ---- comparison

abbrev pub same_name : Name → Name → Bool
same_name a b = bytes_eq a b

-- names stand in the order of their bytes
abbrev pub name_cmp : Name → Name → Ordering
name_cmp = slice_cmp nat_cmp

-- the sequence that an aggregate's items belong to: its own, or that of the whole processor with this name
abbrev pub sequence_in : Option Name → Name → Name
sequence_in None aggregate = aggregate
sequence_in (Some whole) aggregate = whole

-- items stand by identifier, then sequence number, then part
abbrev pub item_cmp : ItemName → ItemName → Ordering
item_cmp x y = ordering_then (name_cmp x.aggregate y.aggregate) (ordering_then (nat_cmp x.seq y.seq) (nat_cmp x.part y.part))

abbrev pub same_item : ItemName → ItemName → Bool
same_item x y = same_name x.aggregate y.aggregate && ((x.seq == y.seq) && (x.part == y.part))

-- ---- lists that rise without repeats

-- x in its place, unless it is there
abbrev pub insert_rising : {A : Type 0} → (A → A → Ordering) → A → List A → List A
insert_rising cmp x [] = x ∷ []
insert_rising cmp x (y ∷ ys) = match_ordering (cmp x y) (x ∷ y ∷ ys) (y ∷ ys) (y ∷ insert_rising cmp x ys)

-- x in its place, or in the place of its equal
abbrev pub put_rising : {A : Type 0} → (A → A → Ordering) → A → List A → List A
put_rising cmp x [] = x ∷ []
put_rising cmp x (y ∷ ys) = match_ordering (cmp x y) (x ∷ y ∷ ys) (x ∷ ys) (y ∷ put_rising cmp x ys)

-- the list without what is equal to x
abbrev pub remove_rising : {A : Type 0} → (A → A → Ordering) → A → List A → List A
remove_rising cmp x [] = []
remove_rising cmp x (y ∷ ys) = match_ordering (cmp x y) (y ∷ ys) ys (y ∷ remove_rising cmp x ys)

abbrev pub contains_item : ItemName → List ItemName → Bool
contains_item x ys = list_any (λ y. same_item y x) ys

-- each is below the next
abbrev pub rises : {A : Type 0} → (A → A → Bool) → List A → Bool
rises is_below [] = true
rises is_below (x ∷ []) = true
rises is_below (x ∷ y ∷ xs) = is_below x y && rises is_below (y ∷ xs)

-- the first place at which the test passes, or the length
abbrev pub place_where : {A : Type 0} → (A → Bool) → List A → ℕ
place_where test [] = 0
place_where test (x ∷ xs) = if test x then 0 else suc (place_where test xs)

-- marks stand by sequence number, then part
abbrev pub mark_below : Mark → Mark → Bool
mark_below a b = nat_lt a.seq b.seq || ((a.seq == b.seq) && nat_lt a.part b.part)

-- ---- payloads

abbrev pub field_of : Name → Payload → Option Value
field_of name [] = None
field_of name (f ∷ fs) = if same_name f.name name then Some f.value else field_of name fs

abbrev pub field_cmp : Field → Field → Ordering
field_cmp f g = name_cmp f.name g.name

abbrev pub field_below : Field → Field → Bool
field_below f g = is_lt (field_cmp f g)

-- the payload with the field in its place
abbrev pub put_field : Name → Value → Payload → Payload
put_field name value fs = put_rising field_cmp (record { name = name; value = value }) fs

abbrev pub remove_field : Name → Payload → Payload
remove_field name [] = []
remove_field name (f ∷ fs) = if same_name f.name name then fs else f ∷ remove_field name fs

-- ---- texts

-- the words with a space in front of each
abbrev pub spaced : List Line → Line
spaced [] = []
spaced (w ∷ ws) = 32 ∷ (w ++ spaced ws)

-- the words with one space between each two
abbrev pub words : List Line → Line
words [] = []
words (w ∷ ws) = w ++ spaced ws

-- a text between quotes
abbrev pub quoted : Line → Line
quoted bytes = 34 ∷ (bytes ++ 34 ∷ [])

abbrev pub value_text : Value → Line
value_text (Value.Int z) = signed_decimal z
value_text (Value.Text bytes) = quoted bytes

abbrev pub field_text : Field → Line
field_text f = f.name ++ 61 ∷ value_text f.value

-- the payload's words
abbrev pub payload_words : Payload → List Line
payload_words = map field_text

abbrev pub item_text : ItemName → Line
item_text x = x.aggregate ++ 46 ∷ (decimal x.seq ++ 46 ∷ decimal x.part)
