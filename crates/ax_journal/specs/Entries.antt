-- The text of a step.
use Rattle.std.specs.Prelude.{List, [], ◌∷◌, ◌++◌, codes}
use Rattle.std.specs.List.{flat_map}
use Rattle.ax_values.specs.Grammar.{Line}
use Rattle.ax_values.specs.Words.{words}
use Rattle.ax_journal.specs.Orders.{order_words}
use Rattle.ax_journal.specs.Replies.{reply_words}
use Rattle.ax_journal.specs.declared.entry.Entry.{Entry}

-- the lines, each with its end
abbrev pub ended : List Line → Line
ended ls = flat_map (λ l. l ++ 10 ∷ []) ls

abbrev pub step_line : Entry → Line
step_line e = words (e.actor ∷ order_words e.order ++ codes "->" ∷ reply_words e.reply)

-- the line of the step, and those of its report
abbrev pub entry_text : Entry → Line
entry_text e = ended (step_line e ∷ e.report)
