-- the changes that are left have room, and lead to where all lead
use Rattle.std.proofs.Common.{◌≡◌, ◌≤◌, ◌+◌, true, length, vec_len, vec_capacity}
use Rattle.std.specs.Vec.Iter.{into_iter_items}
use Rattle.ax_ports.specs.Tables.{are_rows, changes_made}
use Rattle.ax_ports.proofs.memory_keeper.make_all.Given as goal

abbrev pub invariant-loop-change : goal.invariant-loop-change
invariant-loop-change l =
    (goal.iterator-loop-change).can_next l.change-iterator
    × (goal.iterator-loop-change).is_finite l.change-iterator
    × (vec_len l.rows + length (into_iter_items l.change-iterator) ≤ vec_capacity l.rows)
    × (are_rows l.rows.items ≡ true)
    × (changes_made (into_iter_items l.change-iterator) l.rows.items ≡ changes_made l.fn.changes.items l.initial.rows.items)
