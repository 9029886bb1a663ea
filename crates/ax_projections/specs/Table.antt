-- Tables: rows by aggregate, in the order of first insertion.
use Rattle.std.specs.Prelude.{ℕ, List, [], ◌∷◌, find, Option, option_map, if◌then◌else◌}
use Rattle.ax_values.specs.Grammar.{Name}
use Rattle.ax_values.specs.Words.{same_name}
use Rattle.ax_projections.specs.declared.table.Positioned.{Positioned}

pub record Entry : Type 0 where
  pub name : Name
  pub value : Positioned

-- what contracts see: the rows, and how many aggregates more may be put without memory
pub record TableView : Type 0 where
  pub entries : List Entry
  pub room : ℕ

abbrev pub entry : Name × Positioned → Entry
entry e = record { name = e.0; value = e.1 }

-- the row of an aggregate
abbrev pub look_up : Name → List Entry → Option Positioned
look_up a es = option_map (λ e. e.value) (find (λ e. same_name a e.name) es)

-- the rows with one in the place of the aggregate's, or at the end
abbrev pub put_entry : Name → Positioned → List Entry → List Entry
put_entry a v [] = record { name = a; value = v } ∷ []
put_entry a v (e ∷ es) = if same_name a e.name then record { name = e.name; value = v } ∷ es else e ∷ put_entry a v es
