use Rattle.std.proofs.Common.{rules, of_calls}
use Rattle.std.proofs.lemmas.Fn.{always_returns_same}
use Rattle.ax_ports.specs.Tables.{row_cmp, row_at}
use Rattle.ax_ports.proofs.memory_keeper.place_of.Goals as goal

pub returns-clause-place : goal.returns-clause-place
returns-clause-place c =
    c.binary_search_by.ensures.position (λ row. row_cmp row (row_at c.args.table c.args.key.now)) (always_returns_same _ _ _ (λ a r f k. search (rules, of_calls)))
