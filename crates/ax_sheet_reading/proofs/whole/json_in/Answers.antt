use Rattle.serde_json.specs.View.{view}
use Rattle.ax_sheet_reading.proofs.Texts.{json_read, json_refused}
use Rattle.ax_sheet_reading.proofs.whole.json_in.Goals as goal

pub returns-in-Ok : goal.returns-in-Ok
returns-in-Ok c = json_read c.args.text.now (view c.in-Ok.value) c.in-Ok.ensures.ok.0 c.in-Ok.ensures.ok.1

pub returns-in_default : goal.returns-in_default
returns-in_default c = json_refused c.args.text.now (c.in-Err.ensures.err (λ m. c.in_default.not-Memory (c.classify.ensures.memory.1 m)))
