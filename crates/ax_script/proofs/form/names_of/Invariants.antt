use Rattle.std.proofs.Common.{◌≡◌, drop, map}
use Rattle.ax_values.specs.Grammar.{each_in, name_in}
use Rattle.ax_values.proofs.Lists.{behind}
use Rattle.ax_script.proofs.form.names_of.Given as goal

-- the names so far, in front of those of the words that are left
abbrev pub invariant-loop-word : goal.invariant-loop-word
invariant-loop-word l =
    behind l.names.items (each_in name_in (map (λ word. word.now) (drop l.word-index l.words))) ≡ each_in name_in (map (λ word. word.now) l.words)
