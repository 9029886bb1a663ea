use Rattle.std.proofs.Common.{ap, ◌∙◌}
use Rattle.ax_projections.specs.Table.{TableView, look_up}
use Rattle.ax_projections.proofs.TableLaws.{lookup-look_up}
use Rattle.ax_projections.proofs.table.Table.get.Goals as goal

pub returns : goal.returns
returns c = c.get.ensures.value ∙ lookup-look_up c.args.aggregate.now c.self.inside.rows.entries ∙ ap (λ (t : TableView). look_up c.args.aggregate.now t.entries) c.self.view_is
