use Rattle.ax_top.proofs.ScriptsPerformed.{plan-performed}
use Rattle.ax_top.proofs.answer.answer.Goals as goal

pub task_text-requires : goal.task_text-requires
task_text-requires c = plan-performed _ _ c.in-Ok.ensures
