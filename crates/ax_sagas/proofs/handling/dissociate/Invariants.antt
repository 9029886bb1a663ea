-- what the associations that are left take off the links so far is what all take off
use Rattle.std.proofs.Common.{◌≡◌, drop}
use Rattle.ax_sagas.specs.Sagas.{dissociated}
use Rattle.ax_sagas.proofs.handling.dissociate.Given as goal

abbrev pub invariant-loop-association : goal.invariant-loop-association
invariant-loop-association l = dissociated (drop l.association-index l.associations) l.item l.links ≡ dissociated l.associations l.item l.fn.links
