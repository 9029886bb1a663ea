-- Rules of a saga: declared fields, and a handler for each kind of item.
use Rattle.std.specs.Prelude.{ℕ, ◌^◌, Bool, ◌&&◌, List, find, length, Option, nat_lt}
use Rattle.std.specs.List.{list_all}
use Rattle.ax_values.specs.Grammar.{Name}
use Rattle.ax_values.specs.Words.{same_name}
use Rattle.ax_rules.specs.Guards.{guard_fits}
use Rattle.ax_rules.specs.Rules.{set_fits}
use Rattle.ax_rules.specs.declared.rules.Initial.{Initial}
use Rattle.ax_rules.specs.declared.saga_rules.Handler.{Handler}

pub record SagaRules : Type 0 where
  pub fields : List Initial
  pub handlers : List Handler

-- fewer than 2^32 guards, and each field place below a number of fields
abbrev pub handler_fits : ℕ → Handler → Bool
handler_fits n h = nat_lt (length h.guards) (2 ^ 32) && (list_all (guard_fits n) h.guards && list_all (set_fits n) h.sets)

abbrev pub handler_for : SagaRules → Name → Option Handler
handler_for rules kind = find (λ h. same_name h.kind kind) rules.handlers
