-- Readers of words. Each answers a value exactly where the bytes are a word of the grammar, and that value.
use Rattle.std.specs.Prelude.{ℕ, ◌==◌, Bool, true, false, List, [], ◌∷◌, Option, Some, option_map}
use Rattle.ax_values.specs.Grammar.{Line, ItemName, ◌>>=◌, when, each_in, cut_at, line_words, number_to, u32_in, int_in, name_in, text_in, Mark}
use Rattle.ax_values.specs.Words.{Payload, field_below, rises}
use Rattle.ax_values.specs.declared.value.Value.{Value}
use Rattle.ax_values.specs.declared.value.Field.{Field}

-- ---- values and payloads

abbrev pub value_by : Bool → Line → Option Value
value_by true w = option_map Value.Text (text_in w)
value_by false w = option_map Value.Int (int_in w)

abbrev pub begins_with : ℕ → Line → Bool
begins_with b [] = false
begins_with b (c ∷ cs) = c == b

-- a text where the word begins with a quote, else an int
abbrev pub value_in : Line → Option Value
value_in w = value_by (begins_with 34 w) w

abbrev pub field_in : Line → Option Field
field_in w = do
  t ← cut_at 61 w
  name ← name_in t.before
  value ← value_in t.after
  Some (record { name = name; value = value })

-- fields that rise by name without repeats
abbrev pub payload_in : List Line → Option Payload
payload_in ws = each_in field_in ws >>= λ fs. when (rises field_below fs) fs

-- the payload that a text is: no bytes are the payload without fields
abbrev pub payload_of : Line → Option Payload
payload_of [] = Some []
payload_of (c ∷ cs) = payload_in (line_words (c ∷ cs))

-- ---- items

abbrev pub most_part : ℕ
most_part = 7

-- a sequence number and a part
abbrev pub mark_in : Line → Option Mark
mark_in w = do
  t ← cut_at 46 w
  seq ← u32_in t.before
  part ← number_to most_part t.after
  Some (record { seq = seq; part = part })

abbrev pub item_in : Line → Option ItemName
item_in w = do
  t ← cut_at 46 w
  aggregate ← name_in t.before
  mark ← mark_in t.after
  Some (record { aggregate = aggregate; seq = mark.seq; part = mark.part })
