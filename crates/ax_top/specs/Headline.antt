-- What a call of the program has to do with its words and its input.
use Rattle.std.specs.Prelude.{◌≡◌, ◌⊎◌, ℕ, List, Option, Result, IsSome, IsOk, IfSome}
use Rattle.std.specs.Io.KnownBytes.{Keeps, Appends}
use Rattle.ax_ports.specs.Ports.{Rose, AppendsFront}
use Rattle.ax_values.specs.Grammar.{Line}
use Rattle.ax_journal.specs.Form.{is_built}
use Rattle.ax_script.specs.Plans.{Plan}
use Rattle.ax_script.specs.Reading.{Wrong, script_in}
use Rattle.ax_machine.specs.Promises.{AlwaysRight}
use Rattle.ax_top.specs.declared.status.Status.{Status}
use Rattle.ax_top.specs.declared.status.Status.TheVariants.{Done, Usage, Script, ReadFault, WriteFault, KeeperFault, BadRows, OtherSheet, Memory}
use Rattle.ax_top.specs.Run.{Answer, answer, task_of}

-- ---- what is written

-- a message is written whole, or a front of it where the sink's count rose
abbrev pub Wrote : Option Line → Option Line → ℕ → ℕ → Line → Type 0
Wrote old new before now text = Appends old new text ⊎ (Rose before now × AppendsFront old new text)

-- The statuses that a call may end with where nothing else than what is asked for is this answer, with the bytes that the sink had taken before and has taken now, and its counts of faults.
abbrev pub IsOutcomeOf : Answer → Status → Option Line → Option Line → ℕ → ℕ → Type 0
IsOutcomeOf a Done old new before now = (a.status ≡ Done) × Appends old new a.text
IsOutcomeOf a WriteFault old new before now = (a.status ≡ Done) × Rose before now × AppendsFront old new a.text
IsOutcomeOf a Usage old new before now = (a.status ≡ Usage) × Wrote old new before now a.text
IsOutcomeOf a Script old new before now = (a.status ≡ Script) × Wrote old new before now a.text
-- nothing is written
IsOutcomeOf a ReadFault old new before now = Keeps old new
IsOutcomeOf a Memory old new before now = Keeps old new
-- no keeper is called
IsOutcomeOf a KeeperFault old new before now = ⊥
IsOutcomeOf a BadRows old new before now = ⊥
IsOutcomeOf a OtherSheet old new before now = ⊥

-- where a script is performed, its projections always show what they have to
abbrev pub IsRight : Status → Result Plan Wrong → Type 0
IsRight Done script = AlwaysRight script
IsRight WriteFault script = AlwaysRight script
IsRight _ script = Unit {0}

-- ---- a call

-- what can be seen of a call: its words, the bytes that the source had left, the status, what the sink had taken before and has taken now, and the counts of faults of both
pub record Call : Type 0 where
  pub words : List Line
  pub left : Option Line
  pub status : Status
  pub old : Option Line
  pub new : Option Line
  pub reads_before : ℕ
  pub reads_now : ℕ
  pub writes_before : ℕ
  pub writes_now : ℕ

-- There are bytes, those that the source had left where it shows them, of whose answer the status and what was written are an outcome, and whose script runs right.
-- Where the words and the script are in their grammars and neither count rose, the status is Done, so that the text is written whole, or memory was wanting.
pub record IsAnswered (call : Call) : Type 0 where
  pub bytes : Line
  pub are : IfSome call.left (λ all. all ≡ bytes)
  pub outcome : IsOutcomeOf (answer call.words bytes) call.status call.old call.new call.writes_before call.writes_now
  pub right : IsRight call.status (script_in is_built bytes)
  pub complete : IsSome (task_of call.words) → IsOk (script_in is_built bytes) → (Rose call.reads_before call.reads_now → ⊥) → (Rose call.writes_before call.writes_now → ⊥)
      → (call.status ≡ Done) ⊎ (call.status ≡ Memory)

-- ---- statuses

-- a status with a text
abbrev pub IsTold : Status → Type 0
IsTold Done = Unit {0}
IsTold Usage = Unit {0}
IsTold Script = Unit {0}
IsTold _ = ⊥

-- a status that comes before keepers are called
abbrev pub IsBuilt : Status → Type 0
IsBuilt KeeperFault = ⊥
IsBuilt BadRows = ⊥
IsBuilt OtherSheet = ⊥
IsBuilt _ = Unit {0}

-- a status that comes where there was an answer
abbrev pub IsDelivered : Status → Type 0
IsDelivered Done = Unit {0}
IsDelivered Usage = Unit {0}
IsDelivered Script = Unit {0}
IsDelivered WriteFault = Unit {0}
IsDelivered _ = ⊥

-- the source's count rises with a read fault alone
abbrev pub LeavesReads : Status → ℕ → ℕ → Type 0
LeavesReads ReadFault before now = Rose before now
LeavesReads _ before now = now ≡ before

-- the sink's count rises with a write fault, and stays unless something was to be written and was not; a message that is not written keeps its status
abbrev pub LeavesWrites : Status → ℕ → ℕ → Type 0
LeavesWrites WriteFault before now = Rose before now
LeavesWrites Usage before now = Unit {0}
LeavesWrites Script before now = Unit {0}
LeavesWrites _ before now = now ≡ before
