use Rattle.std.proofs.Common.{ap, subst, ◌∙◌, map}
use Rattle.std.specs.List.{IsDistinct}
use Rattle.ax_values.specs.Words.{same_name}
use Rattle.ax_projections.specs.Table.{Entry, TableView}
use Rattle.ax_projections.proofs.TableLaws.{names-keys}
use Rattle.ax_projections.proofs.table.Table.len.Goals as goal

pub returns-clause-names : goal.returns-clause-names
returns-clause-names c =
    subst (IsDistinct same_name) (names-keys c.self.inside.rows.entries ∙ ap (λ (t : TableView). map (λ (x : Entry). x.name) t.entries) c.self.view_is) c.len.ensures.unique
