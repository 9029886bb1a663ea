-- the ledger of the blank
use Rattle.ax_snapshot_cases.proofs.loads.from_snapshot.Given as goal

abbrev pub ghosts-counted : goal.ghosts-counted
ghosts-counted a = record { name = a.blank.name; parts = a.blank.parts }
