use Rattle.std.proofs.Common.{◌≡◌, drop, map}
use Rattle.ax_values.specs.Grammar.{each_in}
use Rattle.ax_values.specs.Readers.{field_in}
use Rattle.ax_values.proofs.Lists.{behind}
use Rattle.ax_values.proofs.payload.read_fields.Given as goal

-- the fields so far, in front of those of the words that are left
abbrev pub invariant-loop-word : goal.invariant-loop-word
invariant-loop-word l =
    behind l.fields.items (each_in field_in (map (λ word. word.now) (drop l.word-index l.words))) ≡ each_in field_in (map (λ word. word.now) l.words)
