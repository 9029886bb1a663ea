use Rattle.std.proofs.Common.{ℕ, suc, ◌+◌, ◌-◌, ◌<◌, ◌≡◌, ◌∷◌, List, refl, arith}
use Rattle.std.specs.Prelude.{slice_get, if◌then◌else◌}
use Rattle.std.proofs.lemmas.Grind.{common_steps}
use Rattle.ax_log.specs.Log.{is_reserved, option_is}
use Rattle.ax_step_log.specs.SendParts.{void_puts}
use Rattle.ax_values.specs.declared.cell.Cell.{Cell}
use Rattle.ax_step_log.proofs.puts.void_puts.Goals as goal

void-more : (cells : List Cell) (f p n : ℕ) → p < n → void_puts cells (f + p) (n - p) ≡ (if option_is is_reserved (slice_get cells (f + p)) then record { index = f + p; cell = Cell.Void } ∷ void_puts cells (f + (p + 1)) (n - (p + 1)) else void_puts cells (f + (p + 1)) (n - (p + 1)))
void-more cells f p n h =
    let e : n - p ≡ suc (n - (p + 1)) = omega arith in let s : suc (f + p) ≡ f + (p + 1) = omega arith in rw (e, s) refl

pub loop-place-preserved : goal.loop-place-preserved
loop-place-preserved c = grind (arith, common_steps, void-more)
