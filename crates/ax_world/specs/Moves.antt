-- What a step answers, against its definition.
use Rattle.std.specs.Prelude.{◌≡◌}
use Rattle.ax_state.specs.Answer.{Answer}
use Rattle.ax_world.specs.WorldTables.{WorldTables, state_of}
use Rattle.ax_world.specs.EditsApplied.{edits_applied}
use Rattle.ax_world.specs.Fits.{Fits}
use Rattle.ax_world.specs.declared.edit.Move.{Move}

-- the edits can be made, and lead to the state of the definition; reply and report are those of the definition
pub record IsMove (w : WorldTables) (a : Answer) (m : Move) : Type 0 where
  pub fits : Fits w m.edits
  pub state : state_of (edits_applied m.edits w) ≡ a.state
  pub reply : m.reply ≡ a.reply
  pub report : m.report ≡ a.report
