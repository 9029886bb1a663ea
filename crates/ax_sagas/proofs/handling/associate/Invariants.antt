-- what the associations that are left make of the links so far is what all make
use Rattle.std.proofs.Common.{◌≡◌, drop}
use Rattle.ax_sagas.specs.Sagas.{associated}
use Rattle.ax_sagas.proofs.handling.associate.Given as goal

abbrev pub invariant-loop-association : goal.invariant-loop-association
invariant-loop-association l = associated (drop l.association-index l.associations) l.item l.links ≡ associated l.associations l.item l.fn.links
