use Rattle.std.proofs.Common.{◌≡◌, ◌++◌, drop, take, length}
use Rattle.std.specs.List.{flat_map}
use Rattle.ax_values.specs.Words.{spaced}
use Rattle.ax_journal.specs.Parts.{part_words}
use Rattle.ax_journal.proofs.part.write_each.Given as goal

-- what is written, with the words of the parts that are left
abbrev pub invariant-loop-part : goal.invariant-loop-part
invariant-loop-part l = record {
  text : l.out.items ++ spaced (flat_map part_words (drop l.part-index l.parts)) ≡ l.initial.out.items ++ spaced (flat_map part_words l.parts);
  front : take (length l.initial.out.items) l.out.items ≡ l.initial.out.items;
}
