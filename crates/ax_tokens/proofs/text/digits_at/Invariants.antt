use Rattle.std.proofs.Common.{◌≡◌, ◌++◌, drop, take}
use Rattle.ax_tokens.specs.TokenText.{digits_at}
use Rattle.ax_tokens.proofs.text.digits_at.Given as goal

-- the digits of the rest stand behind the bytes so far
abbrev pub invariant-loop-i : goal.invariant-loop-i
invariant-loop-i l =
    record { before = take l.i l.text ++ (digits_at (drop l.i l.text)).before; after = (digits_at (drop l.i l.text)).after } ≡ digits_at l.text
