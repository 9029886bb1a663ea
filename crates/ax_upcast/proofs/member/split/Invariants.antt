use Rattle.std.proofs.Common.{◌≡◌, ◌++◌, map, drop}
use Rattle.ax_upcast.specs.Upcast.{event_of_template}
use Rattle.ax_upcast.proofs.member.split.Given as goal

-- the members so far, with those of the parts that are left
abbrev pub invariant-loop-part : goal.invariant-loop-part
invariant-loop-part l =
    l.out.items ++ map (event_of_template l.source) (drop l.part-index l.parts)
    ≡ l.initial.out.items ++ map (event_of_template l.source) l.parts
