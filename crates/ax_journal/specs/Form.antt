-- The forms of orders: their words, their places and the shapes of their fields.
use Rattle.std.specs.Prelude.{ℕ, Bool, true, false, ◌&&◌, List, [], ◌∷◌, Option, None, option_map, find, get_or, codes, if◌then◌else◌}
use Rattle.std.specs.Bool.{beq}
use Rattle.ax_values.specs.Grammar.{Line}
use Rattle.ax_values.specs.Words.{same_name}
use Rattle.ax_journal.specs.declared.form.Form.{Form}
use Rattle.ax_journal.specs.declared.form.Shape.{Shape}
use Rattle.ax_journal.specs.declared.form.Kind.{Kind}
use Rattle.ax_journal.specs.declared.form.TheConstants.{BUILT}

-- a form's word, which stands behind the word `show` where it is shown, and the shape of its fields
pub record Named : Type 0 where
  pub shown : Bool
  pub word : Line
  pub shape : Shape

abbrev pub one : Line → Shape → Named
one word shape = record { shown = false; word = word; shape = shape }

abbrev pub show : Line → Shape → Named
show word shape = record { shown = true; word = word; shape = shape }

abbrev pub kind : Form → Named
kind Form.Tick = one (codes "tick") Shape.Moment
kind Form.Send = one (codes "send") Shape.Command
kind Form.Append = one (codes "append") Shape.Nothing
kind Form.Void = one (codes "void") Shape.Cell
kind Form.Snapshot = one (codes "snapshot") Shape.Name
kind Form.Deliver = one (codes "deliver") Shape.Nothing
kind Form.Claim = one (codes "claim") Shape.Segment
kind Form.Extend = one (codes "extend") Shape.Segment
kind Form.Release = one (codes "release") Shape.Segment
kind Form.Split = one (codes "split") Shape.Segment
kind Form.Merge = one (codes "merge") Shape.Segment
kind Form.Reset = one (codes "reset") Shape.Name
kind Form.Fetch = one (codes "fetch") Shape.UpTo
kind Form.Commit = one (codes "commit") Shape.Nothing
kind Form.Take = one (codes "take") Shape.Name
kind Form.Settle = one (codes "settle") Shape.Nothing
kind Form.Evict = one (codes "evict") Shape.Item
kind Form.Policy = one (codes "policy") Shape.Policy
kind Form.Mark = one (codes "mark") Shape.Item
kind Form.Heal = one (codes "heal") Shape.Item
kind Form.Advance = one (codes "advance") Shape.UpTo
kind Form.Stop = one (codes "stop") Shape.Nothing
kind Form.ShowRows = show (codes "rows") Shape.Name
kind Form.ShowTokens = show (codes "tokens") Shape.Name
kind Form.ShowLetters = show (codes "letters") Shape.Name
kind Form.ShowSagas = show (codes "sagas") Shape.Name
kind Form.ShowLog = show (codes "log") Shape.Nothing
kind Form.ShowSent = show (codes "sent") Shape.Nothing
kind Form.Do = one (codes "do") Shape.Command
kind Form.Work = one (codes "work") Shape.UpTo
kind Form.Retry = one (codes "retry") Shape.Name

-- all forms, in the order of their places
abbrev pub forms : List Form
forms =
    Form.Tick ∷ Form.Send ∷ Form.Append ∷ Form.Void ∷ Form.Snapshot ∷ Form.Deliver ∷ Form.Claim ∷ Form.Extend
    ∷ Form.Release ∷ Form.Split ∷ Form.Merge ∷ Form.Reset ∷ Form.Fetch ∷ Form.Commit ∷ Form.Take ∷ Form.Settle
    ∷ Form.Evict ∷ Form.Policy ∷ Form.Mark ∷ Form.Heal ∷ Form.Advance ∷ Form.Stop ∷ Form.ShowRows ∷ Form.ShowTokens
    ∷ Form.ShowLetters ∷ Form.ShowSagas ∷ Form.ShowLog ∷ Form.ShowSent ∷ Form.Do ∷ Form.Work ∷ Form.Retry ∷ []

abbrev pub place : Form → ℕ
place Form.Tick = 0
place Form.Send = 1
place Form.Append = 2
place Form.Void = 3
place Form.Snapshot = 4
place Form.Deliver = 5
place Form.Claim = 6
place Form.Extend = 7
place Form.Release = 8
place Form.Split = 9
place Form.Merge = 10
place Form.Reset = 11
place Form.Fetch = 12
place Form.Commit = 13
place Form.Take = 14
place Form.Settle = 15
place Form.Evict = 16
place Form.Policy = 17
place Form.Mark = 18
place Form.Heal = 19
place Form.Advance = 20
place Form.Stop = 21
place Form.ShowRows = 22
place Form.ShowTokens = 23
place Form.ShowLetters = 24
place Form.ShowSagas = 25
place Form.ShowLog = 26
place Form.ShowSent = 27
place Form.Do = 28
place Form.Work = 29
place Form.Retry = 30

-- a form is built where its flag is set
abbrev pub is_built : Form → Bool
is_built f = get_or BUILT (place f) false

abbrev pub named : Kind → Named
named k = record { shown = k.shown; word = k.word.now; shape = k.shape }

abbrev pub is_called : Bool → Line → Named → Bool
is_called shown w k = beq k.shown shown && same_name k.word w

-- the form of a word, behind `show` or not
abbrev pub form_named : Bool → Line → Option Form
form_named shown w = find (λ f. is_called shown w (kind f)) forms

-- a form and the words of its fields
pub record Worded : Type 0 where
  pub form : Form
  pub fields : List Line

abbrev pub with_fields : List Line → Option Form → Option Worded
with_fields ws o = option_map (λ f. record { form = f; fields = ws }) o

abbrev pub worded_by : Bool → Line → List Line → Option Worded
worded_by true w [] = None
worded_by true w (v ∷ ws) = with_fields ws (form_named true v)
worded_by false w ws = with_fields ws (form_named false w)

-- the form that the words begin with: one word, or `show` and another
abbrev pub worded : List Line → Option Worded
worded [] = None
worded (w ∷ ws) = worded_by (same_name w (codes "show")) w ws

-- the words of a form
abbrev pub form_words : Form → List Line
form_words f = if (kind f).shown then codes "show" ∷ (kind f).word ∷ [] else (kind f).word ∷ []
