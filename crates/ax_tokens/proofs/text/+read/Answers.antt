use Rattle.std.proofs.Common.{◌∙◌}
use Rattle.std.proofs.lemmas.Result.{IfOk-weaker}
use Rattle.ax_tokens.proofs.Texts.{half-none, half-some}
use Rattle.ax_tokens.proofs.text.+read.Goals as goal

pub half_at-returns-then-room-eq0 : goal.half_at-returns-then-room-eq0
half_at-returns-then-room-eq0 t c = half-none c.args.room c.args.text.now c.if-room-eq0.true

pub half_at-returns : goal.half_at-returns
half_at-returns t c = IfOk-weaker c.token_at.result _ _ (λ r e. e ∙ half-some c.args.room c.args.text.now c.if-room-eq0.false) c.token_at.ensures
