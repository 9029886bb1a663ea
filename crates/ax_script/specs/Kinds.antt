-- The words of the kinds of faults.
use Rattle.std.specs.Prelude.{codes}
use Rattle.ax_values.specs.Grammar.{Line}
use Rattle.ax_script.specs.declared.kind.ScriptKind.{ScriptKind}

abbrev pub kind_text : ScriptKind → Line
kind_text ScriptKind.Long = codes "long"
kind_text ScriptKind.Cut = codes "cut"
kind_text ScriptKind.Bytes = codes "bytes"
kind_text ScriptKind.Form = codes "form"
kind_text ScriptKind.Later = codes "later"
kind_text ScriptKind.Sheet = codes "sheet"
kind_text ScriptKind.Twice = codes "twice"
kind_text ScriptKind.Unknown = codes "unknown"
kind_text ScriptKind.Limit = codes "limit"
kind_text ScriptKind.Stopped = codes "stopped"
kind_text ScriptKind.Schedule = codes "schedule"
