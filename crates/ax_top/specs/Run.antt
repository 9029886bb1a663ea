-- What the program gives for its words and its input, where nothing fails.
use Rattle.std.specs.Prelude.{if◌then◌else◌, List, [], ◌∷◌, ◌++◌, Option, Some, None, Result, Ok, Err, codes}
use Rattle.std.specs.List.{flat_map}
use Rattle.std.specs.Fmt.{decimal}
use Rattle.std.specs.Str.{bytes_eq}
use Rattle.ax_values.specs.Grammar.{Line}
use Rattle.ax_journal.specs.declared.entry.Entry.{Entry}
use Rattle.ax_journal.specs.Form.{is_built}
use Rattle.ax_journal.specs.Entries.{entry_text}
use Rattle.ax_script.specs.Kinds.{kind_text}
use Rattle.ax_script.specs.Plans.{Plan}
use Rattle.ax_script.specs.Reading.{Wrong, script_in}
use Rattle.ax_report.specs.Reports.{rebuild_text}
use Rattle.ax_machine.specs.Run.{run_of, end_of}
use Rattle.ax_top.specs.declared.status.Status.{Status}
use Rattle.ax_top.specs.declared.task.Task.{Task}

-- ---- words

abbrev pub task_named : Line → Option Task
task_named word = if bytes_eq word (codes "run") then Some Task.Run else (if bytes_eq word (codes "rebuild") then Some Task.Rebuild else None)

-- the single word `run`, or the single word `rebuild`
abbrev pub task_of : List Line → Option Task
task_of [] = None
task_of (word ∷ []) = task_named word
task_of (word ∷ other ∷ words) = None

-- ---- texts

abbrev pub usage_text : Line
usage_text = codes "usage: axrun run [--threads] [--brief] [--keep PATH] | rebuild [--keep PATH] | gen N\n"

abbrev pub fault_text : Wrong → Line
fault_text w = codes "script " ++ decimal w.line ++ codes " " ++ kind_text w.kind ++ codes "\n"

-- the texts of the steps, in order
abbrev pub journal_text : List Entry → Line
journal_text entries = flat_map entry_text entries

-- the text of each step; or the rows that the log alone gives after the last step
abbrev pub task_text : Task → Plan → Line
task_text Task.Run plan = journal_text (run_of plan)
task_text Task.Rebuild plan = rebuild_text (end_of plan)

-- ---- answers

-- a status and the text that goes with it
pub record Answer : Type 0 where
  pub status : Status
  pub text : Line

-- the answer to a script's first fault
abbrev pub fault_answer : Wrong → Answer
fault_answer w = record { status = Status.Script; text = fault_text w }

-- the answer to a plan, or to the first fault
abbrev pub script_answer : Task → Result Plan Wrong → Answer
script_answer task (Err w) = fault_answer w
script_answer task (Ok plan) = record { status = Status.Done; text = task_text task plan }

abbrev pub words_answer : Option Task → Line → Answer
words_answer None bytes = record { status = Status.Usage; text = usage_text }
words_answer (Some task) bytes = script_answer task (script_in is_built bytes)

unfoldable pub answer : List Line → Line → Answer
answer words bytes = words_answer (task_of words) bytes
