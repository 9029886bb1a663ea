use Rattle.std.proofs.Common.{ℕ, suc, ◌+◌, ◌-◌, ◌<◌, ◌≡◌, ◌∷◌, refl, arith, replicate}
use Rattle.std.proofs.lemmas.Grind.{common_steps}
use Rattle.ax_values.specs.declared.cell.Cell.{Cell}
use Rattle.ax_log.specs.Puts.{puts_at}
use Rattle.ax_log.proofs.log.reserved_puts.Goals as goal

puts-more : (f p n : ℕ) (c : Cell) → p < n → puts_at (f + p) (replicate (n - p) c) ≡ record { index = f + p; cell = c } ∷ puts_at (f + (p + 1)) (replicate (n - (p + 1)) c)
puts-more f p n c h =
    let e : n - p ≡ suc (n - (p + 1)) = omega arith in let s : suc (f + p) ≡ f + (p + 1) = omega arith in rw (e, s) refl

pub loop-place-preserved : goal.loop-place-preserved
loop-place-preserved c = grind (arith, common_steps, puts-more)
