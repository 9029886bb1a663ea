-- the queue stays, and there is room for the letters so far
use Rattle.std.proofs.Common.{◌≡◌, ◌≤◌, ◌+◌, take}
use Rattle.ax_values.specs.Grammar.{Name}
use Rattle.ax_letters.specs.Room.{room_of, count_of, sequences_of}
use Rattle.ax_letters.proofs.queue.Queue.room.Given as goal

abbrev pub invariant-loop-letter : goal.invariant-loop-letter
invariant-loop-letter l = record {
  whole : l.self.whole ≡ l.fn.self.whole;
  sequences : l.self.sequences ≡ l.fn.self.sequences;
  room : (a : Name) → room_of a l.fn.self.room + count_of a (sequences_of l.fn.self.whole (take l.letter-index l.letters)) ≤ room_of a l.self.room;
}
