use Rattle.serde_json.proofs.Views.{view-Object}
use Rattle.ax_sheet_writing.proofs.values.members.Goals as goal

pub returns : goal.returns
returns c = view-Object c.args.map
