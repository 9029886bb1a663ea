use Rattle.std.proofs.Common.{◌≡◌, ◌++◌, take, length}
use Rattle.ax_journal.specs.Entries.{ended}
use Rattle.ax_journal.proofs.entry.write_each.Given as goal

abbrev pub invariant-loop-line : goal.invariant-loop-line
invariant-loop-line l = record {
  text : l.out.items ≡ l.initial.out.items ++ ended (take l.line-index l.lines);
  front : take (length l.initial.out.items) l.out.items ≡ l.initial.out.items;
}
