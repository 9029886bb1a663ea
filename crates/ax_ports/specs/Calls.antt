-- The calls of an object in memory: which fail, and what a call does to the counts.
use Rattle.std.specs.Prelude.{Bool, ◌==◌, if◌then◌else◌}
use Rattle.std.specs.List.{list_any}
use Rattle.ax_ports.specs.Ports.{one_more}
use Rattle.ax_ports.specs.declared.calls.Calls.{Calls}

-- whether the next call is one of those that fail
abbrev pub is_due : Calls → Bool
is_due c = list_any (λ number. number == c.made) c.fails.items

-- after one more call, which failed or did not
abbrev pub called : Calls → Bool → Calls
called c failed = record { fails = c.fails; made = one_more c.made; faults = if failed then one_more c.faults else c.faults }
