-- The words of a text, parted by spaces.
use Rattle.std.specs.Prelude.{ℕ, zero, suc, List, [], ◌∷◌, ◌++◌, ℤ, Option, Some, None}
use Rattle.std.specs.Fmt.{signed_decimal}
use Rattle.ax_values.specs.Grammar.{Line, Cut, ◌>>=◌, cut_at, name_in}
use Rattle.ax_values.specs.Readers.{item_in, payload_of}
use Rattle.ax_values.specs.declared.item.Item.{Item}

abbrev pub cut_or : Line → Option Cut → Cut
cut_or w None = record { before = w; after = [] }
cut_or w (Some t) = t

-- the first word, and what follows it
abbrev pub parted : Line → Cut
parted w = cut_or w (cut_at 32 w)

-- so many words, and what follows them
abbrev pub words_and_rest : ℕ → Line → List Line
words_and_rest zero w = w ∷ []
words_and_rest (suc n) w = (parted w).before ∷ words_and_rest n (parted w).after

-- the item of a name, a kind and a payload
abbrev pub item_by : Line → Line → Line → Option Item
item_by name kind payload = do
  name ← item_in name
  kind ← name_in kind
  payload ← payload_of payload
  Some (record { name = name; kind = kind; payload = payload })

-- the item that a text has, in the order of its parts
abbrev pub whole_item_in : Line → Option Item
whole_item_in w = item_by (parted w).before (parted (parted w).after).before (parted (parted w).after).after

-- numbers, each after a space
abbrev pub ints_text : List ℤ → Line
ints_text [] = []
ints_text (n ∷ ns) = 32 ∷ (signed_decimal n ++ ints_text ns)
