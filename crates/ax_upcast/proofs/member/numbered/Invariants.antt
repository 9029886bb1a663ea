use Rattle.std.proofs.Common.{◌≡◌, ◌≤◌, ◌+◌, ◌++◌, length}
use Rattle.std.specs.Vec.Iter.{into_iter_items}
use Rattle.ax_upcast.specs.Upcast.{numbered, most_items}
use Rattle.ax_upcast.proofs.member.numbered.Given as goal

-- the items so far, with those of the members that are left
abbrev pub invariant-loop-member : goal.invariant-loop-member
invariant-loop-member l =
    (goal.iterator-loop-member).can_next l.member-iterator × (goal.iterator-loop-member).is_finite l.member-iterator
    × (length l.items.items + length (into_iter_items l.member-iterator) ≤ most_items)
    × (l.items.items ++ numbered l.event.aggregate l.event.seq (length l.items.items) (into_iter_items l.member-iterator)
    ≡ numbered l.event.aggregate l.event.seq 0 l.fn.members.items)
