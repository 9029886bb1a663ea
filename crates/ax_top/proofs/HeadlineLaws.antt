-- From the answer that was written to the clauses of the program's call.
use Rattle.std.proofs.Common.{◌≡◌, ◌<◌, ◌+◌, ℕ, true, List, [], length, replicate, Option, Some, None, Result, Ok, Err, MatchResult, ◌⊎◌, inl, inr, refl, sym, ap, subst, ◌∙◌, arith}
use Rattle.std.specs.Prelude.{IfSome, IfOk, IsSome, IsOk, nat_lt}
use Rattle.std.specs.Io.KnownBytes.{Keeps}
use Rattle.std.proofs.lemmas.Bool.Decides.{nat_tests}
use Rattle.ax_ports.specs.Ports.{Rose}
use Rattle.ax_values.specs.declared.memory.NoMemory.{NoMemory}
use Rattle.ax_journal.specs.Form.{is_built}
use Rattle.ax_script.specs.declared.kind.ScriptKind.{ScriptKind}
use Rattle.ax_script.specs.Plans.{Plan}
use Rattle.ax_script.specs.Reading.{Wrong, most_bytes, unless_long, wrong, script_in}
use Rattle.ax_machine.specs.Promises.{AlwaysRight}
use Rattle.ax_top.specs.declared.status.Status.{Status}
use Rattle.ax_top.specs.declared.status.Status.TheVariants.{Done, Usage, Script, ReadFault, WriteFault, KeeperFault, BadRows, OtherSheet, Memory}
use Rattle.ax_top.specs.declared.task.Task.{Task}
use Rattle.ax_top.specs.Run.{Answer, task_of, usage_text, fault_answer, script_answer, words_answer, answer}
use Rattle.ax_top.specs.declared.answer.Answered.{Answered}
use Rattle.ax_top.specs.Answered.{answer_of}
use Rattle.std.proofs.lemmas.List.{length-replicate}
use Rattle.ax_top.specs.Headline.{Call, IsOutcomeOf, IsAnswered, IsRight, IsDelivered, LeavesReads}

pub answer-usage : (words : List (List ℕ)) (bytes : List ℕ) → task_of words ≡ None → answer words bytes ≡ record { status = Usage; text = usage_text }
unfolding answer
answer-usage words bytes none = ap (λ o. words_answer o bytes) none

pub answer-task : (words : List (List ℕ)) (task : Task) (bytes : List ℕ) → task_of words ≡ Some task → answer words bytes ≡ script_answer task (script_in is_built bytes)
unfolding answer
answer-task words task bytes found = ap (λ o. words_answer o bytes) found

pub script_in-long : (bytes : List ℕ) → most_bytes < length bytes → script_in is_built bytes ≡ Err (wrong 0 ScriptKind.Long)
unfolding script_in
script_in-long bytes long = let e : nat_lt most_bytes (length bytes) ≡ true = grind (arith, nat_tests) in ap (λ b. unless_long b is_built bytes) e

-- the status of a message is its own
pub outcome-usage : (s : Status) (text : List ℕ) (old new : Option (List ℕ)) (before now : ℕ) → IsDelivered s → IsOutcomeOf (record { status = Usage; text = text }) s old new before now → s ≡ Usage
outcome-usage Done text old new before now d g = absurd (let e : Usage ≡ Done = g.0 in cc)
outcome-usage Usage text old new before now d g = refl
outcome-usage Script text old new before now d g = absurd (let e : Usage ≡ Script = g.0 in cc)
outcome-usage ReadFault text old new before now d g = absurd d
outcome-usage WriteFault text old new before now d g = absurd (let e : Usage ≡ Done = g.0 in cc)
outcome-usage KeeperFault text old new before now d g = absurd d
outcome-usage BadRows text old new before now d g = absurd d
outcome-usage OtherSheet text old new before now d g = absurd d
outcome-usage Memory text old new before now d g = absurd d

pub delivered-not_read : (s : Status) → IsDelivered s → s ≡ ReadFault → ⊥
delivered-not_read s d e = subst IsDelivered e d

pub outcome-script : (r : Result Answered NoMemory) (a : Answer) (s : Status) (old new : Option (List ℕ)) (before now : ℕ) → IfOk r (λ x. answer_of x ≡ a)
    → MatchResult r (λ x. IsOutcomeOf (answer_of x) s old new before now) (λ _. (s ≡ Memory) × Keeps old new) → IsOutcomeOf a s old new before now
outcome-script (Ok x) a s old new before now e g = subst (λ (b : Answer). IsOutcomeOf b s old new before now) e g
outcome-script (Err x) a s old new before now e g = subst (λ (t : Status). IsOutcomeOf a t old new before now) (sym g.0) g.1

pub script-not_read : (r : Result Answered NoMemory) (s : Status) → MatchResult r (λ _. IsDelivered s) (λ _. s ≡ Memory) → s ≡ ReadFault → ⊥
script-not_read (Ok x) s d e = delivered-not_read s d e
script-not_read (Err x) s d e = let both : Memory ≡ ReadFault = sym d ∙ e in cc

-- the bytes that are shown, if any
abbrev told : Option (List ℕ) → List ℕ
told None = []
told (Some bytes) = bytes

told-is : (left : Option (List ℕ)) → IfSome left (λ all. all ≡ told left)
told-is None = tt
told-is (Some bytes) = refl

more_than : (n : ℕ) → (bytes : List ℕ) × (n < length bytes)
more_than n = (replicate (n + 1) 0, omega (arith, length-replicate {A = ℕ} (n + 1) 0))

-- bytes that are too long, and shown where the source shows any
too_long : (n : ℕ) (left : Option (List ℕ)) → IfSome left (λ bytes. n < length bytes) → (bytes : List ℕ) × IfSome left (λ all. all ≡ bytes) × (n < length bytes)
too_long n None known = ((more_than n).0, tt, (more_than n).1)
too_long n (Some bytes) known = (bytes, refl, known)

keeps-same : (o : Option (List ℕ)) → Keeps o o
keeps-same None = tt
keeps-same (Some bytes) = refl

kept : (old new : Option (List ℕ)) → new ≡ old → Keeps old new
kept old new e = subst (λ (o : Option (List ℕ)). Keeps old o) (sym e) (keeps-same old)

-- what runs right where a script is performed

right-always : (s : Status) (script : Result Plan Wrong) → AlwaysRight script → IsRight s script
right-always Done script h = h
right-always Usage script h = tt
right-always Script script h = tt
right-always ReadFault script h = tt
right-always WriteFault script h = h
right-always KeeperFault script h = tt
right-always BadRows script h = tt
right-always OtherSheet script h = tt
right-always Memory script h = tt

right-usage : (s : Status) (text : List ℕ) (old new : Option (List ℕ)) (before now : ℕ) (script : Result Plan Wrong) → IsOutcomeOf (record { status = Usage; text = text }) s old new before now → IsRight s script
right-usage Done text old new before now script g = absurd (let e : Usage ≡ Done = g.0 in cc)
right-usage Usage text old new before now script g = tt
right-usage Script text old new before now script g = tt
right-usage ReadFault text old new before now script g = tt
right-usage WriteFault text old new before now script g = absurd (let e : Usage ≡ Done = g.0 in cc)
right-usage KeeperFault text old new before now script g = tt
right-usage BadRows text old new before now script g = tt
right-usage OtherSheet text old new before now script g = tt
right-usage Memory text old new before now script g = tt

right-script : (r : Result Answered NoMemory) (s : Status) (script : Result Plan Wrong) (old new : Option (List ℕ)) (before now : ℕ) → IfOk r (λ x. AlwaysRight script)
    → MatchResult r (λ x. IsOutcomeOf (answer_of x) s old new before now) (λ _. (s ≡ Memory) × Keeps old new) → IsRight s script
right-script (Ok x) s script old new before now h g = right-always s script h
right-script (Err x) s script old new before now h g = subst (λ (t : Status). IsRight t script) (sym g.0) tt

-- ---- completeness

outcome-complete : (a : Answer) (s : Status) (old new : Option (List ℕ)) (reads_before reads_now before now : ℕ) → IsOutcomeOf a s old new before now → LeavesReads s reads_before reads_now → a.status ≡ Done
    → (Rose reads_before reads_now → ⊥) → (Rose before now → ⊥) → (s ≡ Done) ⊎ (s ≡ Memory)
outcome-complete a Done old new rb rn before now g l d r w = inl refl
outcome-complete a Usage old new rb rn before now g l d r w = absurd (let e : Usage ≡ Done = sym g.0 ∙ d in cc)
outcome-complete a Script old new rb rn before now g l d r w = absurd (let e : Script ≡ Done = sym g.0 ∙ d in cc)
outcome-complete a ReadFault old new rb rn before now g l d r w = absurd (r l)
outcome-complete a WriteFault old new rb rn before now g l d r w = absurd (w g.1)
outcome-complete a KeeperFault old new rb rn before now g l d r w = absurd g
outcome-complete a BadRows old new rb rn before now g l d r w = absurd g
outcome-complete a OtherSheet old new rb rn before now g l d r w = absurd g
outcome-complete a Memory old new rb rn before now g l d r w = inr refl

-- of words and a script in their grammars all is asked
answer-done : (words : List (List ℕ)) (bytes : List ℕ) → IsSome (task_of words) → IsOk (script_in is_built bytes) → (answer words bytes).status ≡ Done
unfolding answer
answer-done words bytes words_in script = at (task_of words) (script_in is_built bytes) words_in script
  where
    plain : (task : Task) (r : Result Plan Wrong) → IsOk r → (script_answer task r).status ≡ Done
    plain task (Ok plan) h = refl
    plain task (Err w) h = absurd (cc)

    at : (o : Option Task) (r : Result Plan Wrong) → IsSome o → IsOk r → (words_answer o bytes).status ≡ Done
    at None r h k = absurd (cc)
    at (Some task) r h k = plain task (script_in is_built bytes) script

answered : (call : Call) (bytes : List ℕ) → IfSome call.left (λ all. all ≡ bytes) → IsOutcomeOf (answer call.words bytes) call.status call.old call.new call.writes_before call.writes_now
    → IsRight call.status (script_in is_built bytes) → LeavesReads call.status call.reads_before call.reads_now → IsAnswered call
answered call bytes are g right l = record {
  bytes = bytes;
  are = are;
  outcome = g;
  right = right;
  complete = λ words script. outcome-complete (answer call.words bytes) call.status call.old call.new call.reads_before call.reads_now call.writes_before call.writes_now g l (answer-done call.words bytes words script);
}

-- ---- reads

pub reads-delivered : (s : Status) (before now : ℕ) → IsDelivered s → now ≡ before → LeavesReads s before now
reads-delivered Done before now d e = e
reads-delivered Usage before now d e = e
reads-delivered Script before now d e = e
reads-delivered ReadFault before now d e = absurd d
reads-delivered WriteFault before now d e = e
reads-delivered KeeperFault before now d e = absurd d
reads-delivered BadRows before now d e = absurd d
reads-delivered OtherSheet before now d e = absurd d
reads-delivered Memory before now d e = absurd d

pub reads-given : (r : Result Answered NoMemory) (s : Status) (before now : ℕ) → MatchResult r (λ _. IsDelivered s) (λ _. s ≡ Memory) → now ≡ before → LeavesReads s before now
reads-given (Ok x) s before now d e = reads-delivered s before now d e
reads-given (Err x) s before now d e = subst (λ (t : Status). LeavesReads t before now) (sym d) e

-- ---- the ways to an answer

pub answered-read_fault : (call : Call) → call.status ≡ ReadFault → call.new ≡ call.old → LeavesReads call.status call.reads_before call.reads_now → IsAnswered call
answered-read_fault call s n l =
    answered call (told call.left) (told-is call.left) (subst (λ (t : Status). IsOutcomeOf (answer call.words (told call.left)) t call.old call.new call.writes_before call.writes_now) (sym s) (kept call.old call.new n))
    (subst (λ (t : Status). IsRight t (script_in is_built (told call.left))) (sym s) tt) l

pub answered-memory : (call : Call) → call.status ≡ Memory → call.new ≡ call.old → LeavesReads call.status call.reads_before call.reads_now → IsAnswered call
answered-memory call s n l =
    answered call (told call.left) (told-is call.left) (subst (λ (t : Status). IsOutcomeOf (answer call.words (told call.left)) t call.old call.new call.writes_before call.writes_now) (sym s) (kept call.old call.new n))
    (subst (λ (t : Status). IsRight t (script_in is_built (told call.left))) (sym s) tt) l

pub answered-usage : (call : Call) → task_of call.words ≡ None → IsOutcomeOf (record { status = Usage; text = usage_text }) call.status call.old call.new call.writes_before call.writes_now
    → LeavesReads call.status call.reads_before call.reads_now → IsAnswered call
answered-usage call none g l =
    answered call (told call.left) (told-is call.left)
    (subst (λ (a : Answer). IsOutcomeOf a call.status call.old call.new call.writes_before call.writes_now) (sym (answer-usage call.words (told call.left) none)) g)
    (right-usage call.status usage_text call.old call.new call.writes_before call.writes_now (script_in is_built (told call.left)) g) l

pub answered-script : (call : Call) (task : Task) (all : List ℕ) (r : Result Answered NoMemory) → task_of call.words ≡ Some task → IfSome call.left (λ bytes. bytes ≡ all)
    → IfOk r (λ x. answer_of x ≡ script_answer task (script_in is_built all)) → IfOk r (λ x. AlwaysRight (script_in is_built all))
    → MatchResult r (λ x. IsOutcomeOf (answer_of x) call.status call.old call.new call.writes_before call.writes_now) (λ _. (call.status ≡ Memory) × Keeps call.old call.new)
    → LeavesReads call.status call.reads_before call.reads_now → IsAnswered call
answered-script call task all r run known e right g l =
    answered call all known
    (subst (λ (a : Answer). IsOutcomeOf a call.status call.old call.new call.writes_before call.writes_now) (sym (answer-task call.words task all run))
    (outcome-script r (script_answer task (script_in is_built all)) call.status call.old call.new call.writes_before call.writes_now e g))
    (right-script r call.status (script_in is_built all) call.old call.new call.writes_before call.writes_now right g) l

pub answered-long : (call : Call) (task : Task) (r : Result Answered NoMemory) → task_of call.words ≡ Some task → IfSome call.left (λ bytes. most_bytes < length bytes)
    → IfOk r (λ x. answer_of x ≡ fault_answer (wrong 0 ScriptKind.Long))
    → MatchResult r (λ x. IsOutcomeOf (answer_of x) call.status call.old call.new call.writes_before call.writes_now) (λ _. (call.status ≡ Memory) × Keeps call.old call.new)
    → LeavesReads call.status call.reads_before call.reads_now → IsAnswered call
answered-long call task r run known e g l =
    let long = too_long most_bytes call.left known in
    answered call long.0 long.1
    (subst (λ (a : Answer). IsOutcomeOf a call.status call.old call.new call.writes_before call.writes_now) (sym (answer-task call.words task long.0 run ∙ ap (script_answer task) (script_in-long long.0 long.2)))
    (outcome-script r (fault_answer (wrong 0 ScriptKind.Long)) call.status call.old call.new call.writes_before call.writes_now e g))
    (right-always call.status (script_in is_built long.0) (subst AlwaysRight (sym (script_in-long long.0 long.2)) tt)) l
