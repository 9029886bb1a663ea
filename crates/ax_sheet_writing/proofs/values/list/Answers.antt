use Rattle.serde_json.proofs.Views.{view-Array}
use Rattle.ax_sheet_writing.proofs.values.list.Goals as goal

pub returns : goal.returns
returns c = view-Array c.args.values
