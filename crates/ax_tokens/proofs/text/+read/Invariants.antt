use Rattle.std.proofs.Common.{◌+◌, ◌*◌}
use Rattle.ax_tokens.proofs.text.+read.Given as goal

abbrev pub decreases-token_at : goal.decreases-token_at
decreases-token_at l = 3 * l.room + 2

abbrev pub decreases-halves_at : goal.decreases-halves_at
decreases-halves_at l = 3 * l.room + 1

abbrev pub decreases-half_at : goal.decreases-half_at
decreases-half_at l = 3 * l.room
