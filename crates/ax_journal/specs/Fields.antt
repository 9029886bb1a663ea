-- The fields of orders, by their shapes: their words, and the readers of these.
use Rattle.std.specs.Prelude.{◌^◌, ◌==◌, Bool, true, false, List, [], ◌∷◌, length, Option, Some, None, codes, if◌then◌else◌}
use Rattle.std.specs.Fmt.{decimal}
use Rattle.ax_values.specs.Grammar.{Name, Line, ◌>>=◌, when, number_from, u32_in, name_in}
use Rattle.ax_values.specs.Words.{payload_words, item_text, same_name}
use Rattle.ax_values.specs.Readers.{item_in}
use Rattle.ax_journal.specs.Segment.{segment_text, segment_in}
use Rattle.ax_journal.specs.Arguments.{args_in}
use Rattle.ax_journal.specs.declared.arguments.Arguments.{Arguments}
use Rattle.ax_journal.specs.declared.form.Shape.{Shape}
use Rattle.ax_journal.specs.declared.fields.Fields.{Fields}
use Rattle.ax_journal.specs.declared.fields.BorrowedFields.{BorrowedFields}

-- ---- words

abbrev pub policy_text : Bool → Line
policy_text true = codes "keep"
policy_text false = codes "drop"

abbrev pub fields_words : Fields → List Line
fields_words Fields.Nothing = []
fields_words (Fields.Moment ms) = decimal ms ∷ []
fields_words (Fields.Cell i) = decimal i ∷ []
fields_words (Fields.Name a) = a ∷ []
fields_words (Fields.Segment p s) = p ∷ segment_text s ∷ []
fields_words (Fields.UpTo p s n) = p ∷ segment_text s ∷ decimal n ∷ []
fields_words (Fields.Item p x) = p ∷ item_text x ∷ []
fields_words (Fields.Policy p keep) = p ∷ policy_text keep ∷ []
fields_words (Fields.Command a c args) = a ∷ c ∷ payload_words args

-- the same fields, whether they are borrowed or not
abbrev pub given_of : BorrowedFields → Fields
given_of BorrowedFields.Nothing = Fields.Nothing
given_of (BorrowedFields.Moment ms) = Fields.Moment ms
given_of (BorrowedFields.Cell i) = Fields.Cell i
given_of (BorrowedFields.Name a) = Fields.Name a.now
given_of (BorrowedFields.Segment p s) = Fields.Segment p.now s
given_of (BorrowedFields.UpTo p s n) = Fields.UpTo p.now s n
given_of (BorrowedFields.Item p x) = Fields.Item p.now x.now
given_of (BorrowedFields.Policy p keep) = Fields.Policy p.now keep
given_of (BorrowedFields.Command a c args) = Fields.Command a.now c.now args.now

-- ---- readers

abbrev pub policy_in : Line → Option Bool
policy_in w = if same_name w (codes "keep") then Some true else when (same_name w (codes "drop")) false

-- the one word
abbrev pub only_in : List Line → Option Line
only_in (w ∷ []) = Some w
only_in ws = None

pub record Pair : Type 0 where
  pub first : Line
  pub second : Line

abbrev pub pair_in : List Line → Option Pair
pair_in (v ∷ w ∷ []) = Some (record { first = v; second = w })
pair_in ws = None

abbrev pub moment_in : List Line → Option Fields
moment_in ws = only_in ws >>= λ w. number_from 1 (10 ^ 9) w >>= λ ms. Some (Fields.Moment ms)

abbrev pub cell_in : List Line → Option Fields
cell_in ws = only_in ws >>= λ w. u32_in w >>= λ i. Some (Fields.Cell i)

abbrev pub named_in : List Line → Option Fields
named_in ws = only_in ws >>= λ w. name_in w >>= λ a. Some (Fields.Name a)

-- a processor, and the fields that the words after it are
abbrev pub of_processor : (Name → List Line → Option Fields) → List Line → Option Fields
of_processor after [] = None
of_processor after (w ∷ ws) = name_in w >>= λ processor. after processor ws

abbrev pub segment_after : Name → List Line → Option Fields
segment_after p ws = only_in ws >>= λ w. segment_in w >>= λ s. Some (Fields.Segment p s)

abbrev pub up_to_after : Name → List Line → Option Fields
up_to_after p ws = do
  t ← pair_in ws
  segment ← segment_in t.first
  max ← number_from 1 10000 t.second
  Some (Fields.UpTo p segment max)

abbrev pub item_after : Name → List Line → Option Fields
item_after p ws = only_in ws >>= λ w. item_in w >>= λ x. Some (Fields.Item p x)

abbrev pub policy_after : Name → List Line → Option Fields
policy_after p ws = only_in ws >>= λ w. policy_in w >>= λ keep. Some (Fields.Policy p keep)

-- by the shape
abbrev pub after_processor : Shape → Name → List Line → Option Fields
after_processor Shape.Segment = segment_after
after_processor Shape.UpTo = up_to_after
after_processor Shape.Item = item_after
after_processor Shape.Policy = policy_after
after_processor s = λ p ws. None

abbrev pub command_in : Arguments → List Line → Option Fields
command_in args (v ∷ w ∷ ws) = do
  aggregate ← name_in v
  command ← name_in w
  payload ← args_in args ws
  Some (Fields.Command aggregate command payload)
command_in args ws = None

-- fields of a shape, exactly as many words as it has
abbrev pub fields_in : Arguments → Shape → List Line → Option Fields
fields_in args Shape.Nothing = λ ws. when (length ws == 0) Fields.Nothing
fields_in args Shape.Moment = moment_in
fields_in args Shape.Cell = cell_in
fields_in args Shape.Name = named_in
fields_in args Shape.Segment = of_processor segment_after
fields_in args Shape.UpTo = of_processor up_to_after
fields_in args Shape.Item = of_processor item_after
fields_in args Shape.Policy = of_processor policy_after
fields_in args Shape.Command = command_in args
