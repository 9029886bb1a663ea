use Rattle.std.proofs.Common.{◌≡◌, ◌∙◌, ◌+◌, ap, length, drop}
use Rattle.std.specs.Option.{option_copied}
use Rattle.ax_rules.specs.Rules.{lenient_from}
use Rattle.ax_repo.specs.Snapshots.{saved, listed_items, IsSnapshotOf}
use Rattle.ax_repo.proofs.Loaded.{begun-fields, loaded, listed-later, of-copied, rest-slice}
use Rattle.ax_repo.proofs.loading.load.Goals as goal

pub take_cells-requires : goal.take_cells-requires
take_cells-requires g c =
    ap length c.in_ok-events.ensures.state ∙ begun-fields c.args.rules.now c.args.chain.now c.args.aggregate.now c.args.log.now.cells c.args.revision (option_copied c.args.snapshot)
    (of-copied (λ s. s.revision ≡ c.args.revision → IsSnapshotOf c.args.rules.now c.args.chain.now c.args.aggregate.now c.args.log.now.cells s) c.args.snapshot c.requires)

pub returns-clause-state : goal.returns-clause-state
returns-clause-state g c =
    let rules = c.args.rules.now in
    let chain = c.args.chain.now in
    let cells = c.args.log.now.cells in
    c.in_ok-take_cells.ensures.row
    ∙ ap (λ is. lenient_from rules (listed_items chain cells is) c.in_ok-events.field-0.state) (rest-slice c.in_ok-events.field-0.events c.deref.result.now)
    ∙ ap (λ k. lenient_from rules (listed_items chain cells (drop k c.deref.result.now)) c.in_ok-events.field-0.state) c.in_ok-events.ensures.events
    ∙ ap (lenient_from rules (listed_items chain cells (drop (saved c.args.revision (option_copied c.args.snapshot)) c.deref.result.now))) c.in_ok-events.ensures.state
    ∙ loaded rules chain c.args.aggregate.now cells c.args.revision (option_copied c.args.snapshot) c.deref.result.now
    (of-copied (λ s. s.revision ≡ c.args.revision → IsSnapshotOf rules chain c.args.aggregate.now cells s) c.args.snapshot c.requires) (c.deref.ensures.value ∙ c.in_ok-indexes.ensures)

pub returns-clause-cost : goal.returns-clause-cost
returns-clause-cost g c =
    let chain = c.args.chain.now in
    let cells = c.args.log.now.cells in
    c.in_ok-take_cells.ensures.cost
    ∙ ap (λ is. c.args.steps.now + length (listed_items chain cells is)) (rest-slice c.in_ok-events.field-0.events c.deref.result.now)
    ∙ ap (λ k. c.args.steps.now + length (listed_items chain cells (drop k c.deref.result.now))) c.in_ok-events.ensures.events
    ∙ ap (λ xs. c.args.steps.now + length xs) (listed-later chain c.args.aggregate.now cells c.deref.result.now (saved c.args.revision (option_copied c.args.snapshot)) (c.deref.ensures.value ∙ c.in_ok-indexes.ensures))
