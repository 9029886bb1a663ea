-- What a command is.
use Rattle.std.specs.Prelude.{List}
use Rattle.ax_rules.specs.declared.guard.Guard.{Guard}
use Rattle.ax_upcast.specs.declared.event.Template.{Template}
use Rattle.ax_sheet_parts.specs.declared.params.Param.{Param}

-- what it takes, what it asks of the row, and what it records
pub record Command : Type 0 where
  pub params : List Param
  pub guards : List Guard
  pub events : List Template
