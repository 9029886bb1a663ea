use Rattle.std.proofs.Common.{ap, sym, ◌∙◌, true≢false, is_some}
use Rattle.std.specs.Option.{option_copied_mut}
use Rattle.indexmap.specs.IndexMap.{keys}
use Rattle.ax_log.proofs.Heads.{known_lookup, known_event}
use Rattle.ax_log.proofs.streams.Streams.take_last.Goals as goal

pub unreachable-requires : goal.unreachable-requires
unreachable-requires c =
    let name = c.in-Event.event.aggregate in
    let known = known_event (keys c.args.self.now.last) c.args.cell.now c.in-Event.event c.in-Event.is c.requires.known in
    let none = ap is_some (sym c.get_mut.ensures.value ∙ ap option_copied_mut c.in_default-get_mut.is) in
    absurd (true≢false (sym known ∙ known_lookup name c.args.self.now.last.entries ∙ none))
