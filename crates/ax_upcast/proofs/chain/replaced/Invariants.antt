use Rattle.std.proofs.Common.{◌≡◌, ◌++◌}
use Rattle.std.specs.List.{flat_map}
use Rattle.std.specs.Vec.Iter.{into_iter_items}
use Rattle.ax_upcast.specs.Upcast.{replaced}
use Rattle.ax_upcast.proofs.chain.replaced.Given as goal

-- what became of the members so far, with what becomes of those that are left
abbrev pub invariant-loop-member : goal.invariant-loop-member
invariant-loop-member l =
    (goal.iterator-loop-member).can_next l.member-iterator × (goal.iterator-loop-member).is_finite l.member-iterator
    × (l.later.items ++ flat_map (replaced l.rule) (into_iter_items l.member-iterator) ≡ flat_map (replaced l.rule) l.fn.members.items)
