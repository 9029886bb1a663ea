use Rattle.std.proofs.Common.{◌≡◌, ◌++◌, drop, take, option_map}
use Rattle.ax_values.specs.Grammar.{cut_at}
use Rattle.ax_values.proofs.cut.cut_at.Given as goal

-- what is found in the rest stands behind the bytes so far
abbrev pub invariant-loop-i : goal.invariant-loop-i
invariant-loop-i l =
    option_map (λ t. record { before = take l.i l.text ++ t.before; after = t.after }) (cut_at l.separator (drop l.i l.text)) ≡ cut_at l.separator l.text
