-- What a step answers.
use Rattle.std.specs.Prelude.{List, [], length}
use Rattle.ax_values.specs.Grammar.{Line}
use Rattle.ax_state.specs.State.{State}
use Rattle.ax_journal.specs.declared.reply.Reply.{Reply}

-- the next state, the reply, and the lines of the report
pub record Answer : Type 0 where
  pub state : State
  pub reply : Reply
  pub report : List Line

-- a step without a report
abbrev pub answer : State → Reply → Answer
answer m reply = record { state = m; reply = reply; report = [] }

-- a report changes nothing
abbrev pub reported : State → List Line → Answer
reported m lines = record { state = m; reply = Reply.Lines (length lines); report = lines }
