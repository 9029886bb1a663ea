-- What the objects in memory show: what they tell, and their calls. What those over std show.
use Rattle.std.specs.Prelude.{ℕ, Bool, List, drop, is_some}
use Rattle.ax_ports.specs.declared.calls.Calls.{Calls}
use Rattle.ax_ports.specs.declared.source.MemorySource.{MemorySource}
use Rattle.ax_ports.specs.declared.source.StdSource.{StdSource}
use Rattle.ax_ports.specs.declared.sink.StdSink.{StdSink}
use Rattle.ax_ports.specs.declared.sink.MemorySink.{MemorySink}
use Rattle.ax_ports.specs.declared.memory_keeper.MemoryKeeper.{MemoryKeeper}
use Rattle.ax_ports.specs.declared.keeper.TableRow.{TableRow}

abbrev pub source_left : MemorySource → List ℕ
source_left s = drop s.position s.bytes.items

abbrev pub source_calls : MemorySource → Calls
source_calls s = s.calls

abbrev pub sink_taken : MemorySink → List ℕ
sink_taken s = s.bytes.items

abbrev pub sink_calls : MemorySink → Calls
sink_calls s = s.calls

abbrev pub keeper_rows : MemoryKeeper → List TableRow
keeper_rows k = k.rows.items

abbrev pub keeper_commits : MemoryKeeper → ℕ
keeper_commits k = k.commits

abbrev pub keeper_calls : MemoryKeeper → Calls
keeper_calls k = k.calls

abbrev pub std_source_faults : {R : Type 0} → StdSource R → ℕ
std_source_faults s = s.faults

-- whether the source has a reader
abbrev pub std_source_reads : {R : Type 0} → StdSource R → Bool
std_source_reads s = is_some s.reader

abbrev pub std_sink_faults : {V : Type 0} → StdSink V → ℕ
std_sink_faults s = s.faults
