-- What the readers of the code answer, against what the definitions read.
use Rattle.std.specs.Prelude.{◌≡◌, Result, Ok, Err}
use Rattle.ax_script.specs.declared.kind.ScriptFault.{ScriptFault}
use Rattle.ax_script.specs.declared.kind.LineFault.{LineFault}
use Rattle.ax_script.specs.declared.kind.ScriptKind.{ScriptKind}
use Rattle.ax_script.specs.Reading.{Wrong}

abbrev pub IsFault : {A : Type 0} → ScriptFault → Result A Wrong → Type 0
IsFault (ScriptFault.Wrong line kind) read = read ≡ Err (record { line = line; kind = kind })
IsFault ScriptFault.Memory read = Unit {0}

-- the value that is read, or the fault; want of memory alone says nothing
abbrev pub Reads : {A : Type 0} → Result A ScriptFault → Result A Wrong → Type 0
Reads (Ok x) read = read ≡ Ok x
Reads (Err fault) read = IsFault fault read

abbrev pub IsLineFault : {A : Type 0} → LineFault → Result A ScriptKind → Type 0
IsLineFault (LineFault.Wrong kind) read = read ≡ Err kind
IsLineFault LineFault.Memory read = Unit {0}

-- the same of one line
abbrev pub ReadsLine : {A : Type 0} → Result A LineFault → Result A ScriptKind → Type 0
ReadsLine (Ok x) read = read ≡ Ok x
ReadsLine (Err fault) read = IsLineFault fault read
