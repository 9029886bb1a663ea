use Rattle.ax_top.specs.Run.{Answer}
use Rattle.ax_top.specs.declared.answer.Answered.{Answered}

abbrev pub answer_of : Answered → Answer
answer_of a = record { status = a.status; text = a.text.items }
