use Rattle.std.proofs.Common.{sym, ap, ◌∙◌, is_some}
use Rattle.std.specs.Map.{lookup}
use Rattle.indexmap.specs.IndexMap.{keys}
use Rattle.ax_values.specs.Grammar.{Name}
use Rattle.ax_values.specs.Words.{same_name}
use Rattle.ax_log.specs.Puts.{is_known}
use Rattle.ax_log.proofs.Heads.{known_lookup, event_known, last_insert, known_insert, kept_insert}
use Rattle.ax_log.proofs.streams.Streams.know.Goals as goal

pub returns-then-contains_key-clause-known : goal.returns-then-contains_key-clause-known
returns-then-contains_key-clause-known c =
    event_known (keys c.args.self.now.last) c.args.cell.now c.in-Event.event c.in-Event.is (known_lookup c.in-Event.event.aggregate c.args.self.now.last.entries ∙ sym c.contains_key.ensures ∙ c.if-contains_key.true)

pub returns-clause-last : goal.returns-clause-last
returns-clause-last c =
    last_insert c.in_ok-name.name c.args.self.now.last.entries c.insert.new.self.entries c.in_ok-insert.ensures.updates.0
    (ap (λ (x : Name). is_some (lookup (same_name x) c.args.self.now.last.entries)) c.in_ok-name.ensures ∙ sym c.if-contains_key.ensures)

pub returns-clause-known : goal.returns-clause-known
returns-clause-known c =
    event_known (keys c.insert.new.self) c.args.cell.now c.in-Event.event c.in-Event.is
    (ap (is_known (keys c.insert.new.self)) (sym c.in_ok-name.ensures) ∙ known_insert c.in_ok-name.name c.args.self.now.last.entries c.insert.new.self.entries c.in_ok-insert.ensures.updates.0)

pub returns-clause-kept : goal.returns-clause-kept
returns-clause-kept c = kept_insert c.in_ok-name.name c.args.self.now.last.entries c.insert.new.self.entries c.in_ok-insert.ensures.updates.0
