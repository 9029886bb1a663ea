-- The order of items is total.
use Rattle.std.specs.Cmp.{IsTotalOrder}
use Rattle.std.proofs.lemmas.Cmp.{then_total, on_total, nat_cmp_total, nat_list_cmp_total}
use Rattle.ax_values.specs.Grammar.{ItemName}
use Rattle.ax_values.specs.Words.{item_cmp}

pub item_cmp_total : IsTotalOrder item_cmp
item_cmp_total =
    then_total (on_total (λ (x : ItemName). x.aggregate) nat_list_cmp_total)
    (then_total (on_total (λ (x : ItemName). x.seq) nat_cmp_total) (on_total (λ (x : ItemName). x.part) nat_cmp_total))
