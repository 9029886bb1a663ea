-- Kinds with their revisions, as the program holds them.
use Rattle.ax_upcast.specs.Upcast.{Form}
use Rattle.ax_upcast.specs.declared.few.Form.{Form as Borrowed}

abbrev pub form_of : Borrowed → Form
form_of f = record { kind = f.kind.now; revision = f.revision }
