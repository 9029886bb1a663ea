use Rattle.std.proofs.Common.{◌≡◌, length, take}
use Rattle.ax_values.proofs.same.all_same.Given as goal

-- the items so far are equal
abbrev pub invariant-loop-item : goal.invariant-loop-item
invariant-loop-item g l = take (length l.yielded) l.items ≡ take (length l.yielded) l.others
