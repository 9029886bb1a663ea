-- Sagas by name: their order is total.
use Rattle.std.specs.Cmp.{IsTotalOrder}
use Rattle.std.proofs.lemmas.Cmp.{on_total}
use Rattle.ax_values.specs.Orders.{item_cmp_total}
use Rattle.ax_sagas.specs.Sagas.{saga_cmp}
use Rattle.ax_sagas.specs.declared.saga.Saga.{Saga}

pub saga_total : IsTotalOrder saga_cmp
saga_total = on_total (λ (s : Saga). s.name) item_cmp_total
