-- the texts of the entries before are written
use Rattle.std.proofs.Common.{◌≡◌, ◌++◌, take}
use Rattle.ax_top.specs.Run.{journal_text}
use Rattle.ax_top.proofs.text.write_journal.Given as goal

abbrev pub invariant-loop-entry : goal.invariant-loop-entry
invariant-loop-entry l = l.out.items ≡ l.initial.out.items ++ journal_text (take l.entry-index l.entries)
