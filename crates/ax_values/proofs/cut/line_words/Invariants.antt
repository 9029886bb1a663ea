use Rattle.std.proofs.Common.{◌≡◌, ◌++◌, ◌-◌, ◌≤◌, drop, take, map}
use Rattle.ax_values.specs.Grammar.{line_words, words_from}
use Rattle.ax_values.proofs.Gluing.{glued}
use Rattle.ax_values.proofs.cut.line_words.Given as goal

-- the words so far, then the word that has begun with the words of the rest
abbrev pub invariant-loop-i : goal.invariant-loop-i
invariant-loop-i l = record {
  same : map (λ part. part.now) l.parts.items ++ glued (take (l.i - l.start) (drop l.start l.line)) (words_from l.inside (drop l.i l.line)) ≡ line_words l.line;
  bound : l.start ≤ l.i;
}
