-- the aggregates of the events so far are known
use Rattle.std.proofs.Common.{◌≡◌, take, IsTrue}
use Rattle.std.specs.List.{AllByRecursion}
use Rattle.indexmap.specs.IndexMap.{keys}
use Rattle.ax_values.specs.Grammar.{Name}
use Rattle.ax_log.specs.Puts.{IsKnown, is_known}
use Rattle.ax_log.specs.Index.{last_of}
use Rattle.ax_log.specs.declared.put.CellPut.{CellPut}
use Rattle.ax_log.proofs.streams.Streams.room.Given as goal

abbrev pub invariant-loop-put : goal.invariant-loop-put
invariant-loop-put l = record {
  before : l.self.before ≡ l.initial.self.before;
  last : (a : Name) → last_of a l.self.last.entries ≡ last_of a l.initial.self.last.entries;
  known : AllByRecursion (λ (p : CellPut). IsKnown (keys l.self.last) p.cell) (take l.put-index l.puts);
  kept : (a : Name) → IsTrue (is_known (keys l.initial.self.last) a) → IsTrue (is_known (keys l.self.last) a);
}
