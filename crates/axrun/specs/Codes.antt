-- The exit status of the program.
use Rattle.std.specs.Prelude.{ℕ}
use Rattle.ax_top.specs.declared.status.Status.{Status}
use Rattle.ax_top.specs.declared.status.Status.TheVariants.{Done, Usage, Script, ReadFault, WriteFault, KeeperFault, BadRows, OtherSheet, Memory}

abbrev pub code_of : Status → ℕ
code_of Done = 0
code_of Usage = 2
code_of Script = 3
code_of ReadFault = 4
code_of WriteFault = 5
code_of KeeperFault = 6
code_of BadRows = 7
code_of Memory = 8
code_of OtherSheet = 9
